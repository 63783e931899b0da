use Rattle.std.proofs.Common.{◌≡◌, ◌∙◌, ◌++◌, ◌∷◌, [], drop, slice_get, Some, refl, ap}
use Rattle.std.proofs.lemmas.Option.{slice_get_read}
use Rattle.conc_outcomes.specs.declared.finiteness.marks.Mark.TheVariants.{Open}
use Rattle.conc_outcomes.proofs.finiteness_lemmas.Moves.{state_within, round_at}
use Rattle.conc_outcomes.proofs.finiteness.walking.Walk.look.Goals as goal

pub returns-in_ok-moves-in-Open : goal.returns-in_ok-moves-in-Open
returns-in_ok-moves-in-Open c =
    let old = c.args.self.now in
    let lt = state_within c.args.moves.now old.marks.items old.path.items old.at old.place c.requires.walks c.args.state c.requires.leads in
    let is : slice_get old.marks.items c.args.state ≡ Some (Open c.in-Open.depth) = slice_get_read old.marks.items _ c.args.state c.index.result.now refl lt c.index.ensures ∙ ap Some c.in-Open.is in
    let items = c.in_ok-moves-in-Open.ensures ∙ ap (λ ps. drop c.in-Open.depth ps ++ old.place ∷ []) c.deref.ensures.value in
    round_at c.args.moves.now old.marks.items old.path.items old.at old.place c.requires.walks c.args.state c.requires.leads c.in-Open.depth is c.in_ok-moves-in-Open.moves.items items
