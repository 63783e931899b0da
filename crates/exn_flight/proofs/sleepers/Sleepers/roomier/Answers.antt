-- One sleeper more is added.
use Rattle.std.proofs.Common.{◌≡◌, ◌<◌, ◌≤◌, ◌∙◌, [], take, length, nat_eq, Some, None, sym, ap, arith}
use Rattle.std.proofs.lemmas.List.{take_all}
use Rattle.std.specs.HashMap.{get}
use Rattle.std.specs.Option.{option_copied}
use Rattle.rules_waiting.specs.Waiting.{Sleeper, is_sleeping, sleeper_added, sorted_sleepers}
use Rattle.exn_flight.specs.Asleep.{Asleep, with_sleeper, sleepers_at}
use Rattle.exn_flight.specs.Tournaments.{node}
use Rattle.exn_flight.proofs.Placing.{distinct_once, once_placed}
use Rattle.exn_flight.proofs.Moving.{length_sorted, moved_length, moved_awake, moved_fits, moved_some, moved_none}
use Rattle.exn_flight.proofs.sleepers.Sleepers.roomier.Goals as goal
use Rattle.exn_flight.proofs.sleepers.Sleepers.roomier.Goals.{in-Some, in_default}

pub add-requires-clause-spare : goal.add-requires-clause-spare
add-requires-clause-spare c =
    let os = c.self.inside.tournament in
    let i = c.loop-place.place in
    let lt : i < length os = omega (arith, c.loop-place-test.true, c.len-place-end.ensures.len) in
    let e : node os i ≡ Some c.in-Some.sleeper.now = sym c.at.ensures ∙ ap option_copied c.in-Some.is in
    omega (arith, c.loop-place.invariant.1, moved_fits os i c.in-Some.sleeper.now lt e, c.len-len.ensures.len, ap (λ (x : Asleep). length x.list) c.self.view_is, length_sorted (sleepers_at os), c.in_ok-roomier.ensures.spare)

pub add-requires-clause-awake : goal.add-requires-clause-awake
add-requires-clause-awake c =
    let os = c.self.inside.tournament in
    let i = c.loop-place.place in
    let lt : i < length os = omega (arith, c.loop-place-test.true, c.len-place-end.ensures.len) in
    let e : node os i ≡ Some c.in-Some.sleeper.now = sym c.at.ensures ∙ ap option_copied c.in-Some.is in
    let d = distinct_once os (once_placed os c.self.inside.free (get nat_eq c.self.inside.places) c.self.invariant) in
    ap (is_sleeping c.thread.result) c.loop-place.invariant.0 ∙ ap (λ n. is_sleeping n (sorted_sleepers (sleepers_at (take i os)))) c.thread.ensures ∙ moved_awake os i c.in-Some.sleeper.now lt e d

pub loop-place-preserved : goal.loop-place-preserved
loop-place-preserved c =
    let os = c.self.inside.tournament in
    let i = c.loop-place.place in
    let was = c.loop-place.roomier in
    let h = c.loop-place.invariant in
    let lt : i < length os = omega (arith, c.loop-place-test.true, c.len-place-end.ensures.len) in
    elim c.match-at.branch [
      | in-Some w ↦
          (let s : Sleeper = w.in-Some.sleeper.now in
          let e : node os i ≡ Some s = sym c.at.ensures ∙ ap option_copied w.in-Some.is in
          let one : length (with_sleeper (node os i) []) ≡ 1 = ap (λ o. length (with_sleeper o [])) e in (
            ap (λ (x : Asleep). x.list) w.roomier-is ∙ w.add.ensures.list ∙ ap (λ n. sleeper_added (record { thread = n; due = w.due.result }) was.list) w.thread.ensures
                ∙ ap (λ n. sleeper_added (record { thread = s.thread; due = n }) was.list) w.due.ensures ∙ ap (sleeper_added s) h.0 ∙ sym (moved_some os i s lt e),
            omega (arith, h.1, ap (λ (x : Asleep). x.spare) w.roomier-is, w.add.ensures.spare, moved_length os i lt, one),
          ))
      | in_default w ↦
          (let none : node os i ≡ None = sym c.at.ensures ∙ ap option_copied w.in_default.is in (
            ap (λ (x : Asleep). x.list) w.roomier-is ∙ h.0 ∙ ap sorted_sleepers (sym (moved_none os i lt none)),
            omega (arith, h.1, ap (λ (x : Asleep). x.spare) w.roomier-is, ap length (moved_none os i lt none)),
          ))
    ]

pub returns-clause-ok : goal.returns-clause-ok
returns-clause-ok c =
    let os = c.self.inside.tournament in
    let i = c.loop-place.place in
    let le : length os ≤ i = omega (arith, c.loop-place-test.false, c.len-place-end.ensures.len) in
    omega (arith, c.loop-place.invariant.1, ap (λ rs. length (sleepers_at rs)) (take_all i os le), c.len-len.ensures.len, ap (λ (x : Asleep). length x.list) c.self.view_is, length_sorted (sleepers_at os), c.in_ok-roomier.ensures.spare)
