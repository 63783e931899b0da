use Rattle.std.proofs.Common.{◌≡◌, ◌∙◌, slice_get, Some, None, length, refl, sym, ap}
use Rattle.std.proofs.lemmas.Option.{slice_get_read, slice_get_past, same_Some}
use Rattle.state_search.specs.declared.found.Move.{Move}
use Rattle.conc_outcomes.proofs.finiteness_lemmas.Moves.{leads_at, over_at}
use Rattle.conc_outcomes.proofs.finiteness.walking.Walk.step.Goals as goal
use Rattle.conc_outcomes.proofs.finiteness.walking.Walk.step.Goals.{in_default-via-in-Some+else-next-self, in_default-via-in_default}

pub look-requires-clause-leads : goal.look-requires-clause-leads
look-requires-clause-leads c =
    let old = c.args.self.now in
    let ms = c.args.moves.now in
    let h = c.in-Some.ensures.lookup in
    leads_at ms old.marks.items old.path.items old.at old.place c.requires.walks c.in-Some.next.now (slice_get_read ms (length ms) old.place c.in-Some.next.now refl h.3.0 h.1) c.if-next-self.true

pub back-requires-clause-over : goal.back-requires-clause-over
back-requires-clause-over c =
    let old = c.args.self.now in
    let ms = c.args.moves.now in
    over_at ms old.marks.items old.path.items old.at old.place c.requires.walks c.requires.order
    (elim c.in_default.branch as (λ _. (m : Move) → slice_get ms old.place ≡ Some m → m.from ≡ old.at → ⊥) [
      | in_default-via-in-Some+else-next-self w ↦
          λ m is from.
          let h = w.in-Some.ensures.lookup in
          let same = same_Some m w.in-Some.next.now (sym is ∙ slice_get_read ms (length ms) old.place w.in-Some.next.now refl h.3.0 h.1) in
          w.if-next-self.false (ap (λ (y : Move). y.from) (sym same) ∙ from)
      | in_default-via-in_default w ↦
          λ m is from.
          let z : None ≡ Some m = sym (slice_get_past ms old.place w.in_default.ensures.lookup.3) ∙ is in absurd (cc z)
    ])
