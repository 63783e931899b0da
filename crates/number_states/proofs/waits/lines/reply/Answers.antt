use Rattle.std.proofs.Common.{◌∷◌, [], ◌++◌, ap, ◌∙◌}
use Rattle.number_states.specs.waits.Places.{answers}
use Rattle.number_states.proofs.waits_lemmas.Served.{answers_append}
use Rattle.number_states.proofs.waits.lines.reply.Goals as goal

pub returns : goal.returns
returns c = ap answers (c.push_reserved.ensures.items ∙ ap (λ xs. xs ++ record { thread = c.args.thread; answer = c.args.answer } ∷ []) c.reserve.ensures.items) ∙ answers_append c.args.replies.now.items (record { thread = c.args.thread; answer = c.args.answer } ∷ [])
