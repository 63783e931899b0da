use Rattle.std.proofs.Common.{ap, ◌∙◌}
use Rattle.std.proofs.lemmas.Result.{on_ok_weaker}
use Rattle.slot_laws.specs.SlotRules.{at}
use Rattle.local_steps.specs.Machine.{frames_of}
use Rattle.frame_stack.specs.Parts.{term_of}
use Rattle.frame_stack.specs.Advancing.{over_frames}
use Rattle.frame_stack.proofs.advancing.Walk.end.Goals as goal

pub returns-clause-ok : goal.returns-clause-ok
returns-clause-ok c =
    on_ok_weaker c.put_over.result
    (λ e b. ap (term_of b) e ∙ ap (λ p. at p (frames_of b (over_frames c.args.self c.args.stack.now.frames))) (c.control.ensures b))
    c.put_over.ensures.ok
