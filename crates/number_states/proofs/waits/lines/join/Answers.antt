use Rattle.std.proofs.Common.{◌∷◌, [], ◌++◌, ap, ◌∙◌}
use Rattle.number_states.specs.waits.Places.{places}
use Rattle.number_states.proofs.waits_lemmas.Served.{places_append}
use Rattle.number_states.proofs.waits.lines.join.Goals as goal

pub returns : goal.returns
returns c = ap places (c.push_reserved.ensures.items ∙ ap (λ xs. xs ++ record { thread = c.args.thread; want = c.args.want } ∷ []) c.reserve.ensures.items) ∙ places_append c.args.line.now.items (record { thread = c.args.thread; want = c.args.want } ∷ [])
