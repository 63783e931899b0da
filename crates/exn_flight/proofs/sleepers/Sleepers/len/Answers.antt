-- One place more is counted.
use Rattle.std.proofs.Common.{◌<◌, ◌≤◌, ◌∙◌, [], take, length, sym, ap, arith}
use Rattle.std.proofs.lemmas.List.{length-take, take_all}
use Rattle.std.specs.Option.{option_copied}
use Rattle.exn_flight.specs.Asleep.{with_sleeper, sleepers_at}
use Rattle.exn_flight.proofs.Moving.{sleepers_length, one_length, moved_length, length_sorted}
use Rattle.exn_flight.proofs.sleepers.Sleepers.len.Goals as goal

pub overflow_add-asleep : goal.overflow_add-asleep
overflow_add-asleep c =
    let os = c.self.inside.tournament in
    let i = c.loop-place.place in
    omega (arith, c.loop-place.invariant, sleepers_length (take i os), length-take i os, c.len-place-end.ensures.len, c.len-place-end.ensures.small, c.count-asleep.ensures, one_length (option_copied c.at.result))

pub loop-place-preserved : goal.loop-place-preserved
loop-place-preserved c =
    let os = c.self.inside.tournament in
    let i = c.loop-place.place in
    let lt : i < length os = omega (arith, c.loop-place-test.true, c.len-place-end.ensures.len) in
    omega (arith, c.loop-place.invariant, moved_length os i lt, c.count-asleep.ensures, ap (λ o. length (with_sleeper o [])) c.at.ensures)

pub returns-clause-len : goal.returns-clause-len
returns-clause-len c =
    let os = c.self.inside.tournament in
    let i = c.loop-place.place in
    let le : length os ≤ i = omega (arith, c.loop-place-test.false, c.len-place-end.ensures.len) in
    c.loop-place.invariant ∙ ap (λ rs. length (sleepers_at rs)) (take_all i os le) ∙ sym (length_sorted (sleepers_at os)) ∙ ap (λ x. length x.list) c.self.view_is

pub returns-clause-small : goal.returns-clause-small
returns-clause-small c =
    let os = c.self.inside.tournament in
    let i = c.loop-place.place in
    omega (arith, c.loop-place.invariant, sleepers_length (take i os), length-take i os, c.len-place-end.ensures.len, c.len-place-end.ensures.small)
