use denote.Exit.{no}
use denote.Param.Send.{param_send, arg_send}
use Rattle.std.proofs.Common.{[], sym, ap, ◌∙◌, append-nil}
use Rattle.frame_stack.proofs.Sends.{job_send, slice_send}
use Rattle.conc_caps.proofs.Keeping.{ended_now}
use Rattle.lent_desk.proofs.Sends.{a_lent_desk}
use Rattle.conc_caps.proofs.caps.run_lent.Goals as goal

-- a desk beside what was lent to it may be handed to another thread
pub run_caps-requires-send-D : goal.run_caps-requires-send-D
run_caps-requires-send-D g c κs within =
    param_send 0 _ (arg_send _ no _ (a_lent_desk _ _ _ _ _ _ c.type_bounds.send-O c.type_bounds.send-E c.type_bounds.send-K _ _ c.type_bounds.send-N))

-- and so may a job
pub run_caps-requires-send-J : goal.run_caps-requires-send-J
run_caps-requires-send-J g c κs within = search (param_send, arg_send, job_send)

-- and a slice
pub run_caps-requires-send-S : goal.run_caps-requires-send-S
run_caps-requires-send-S g c κs within = search (param_send, arg_send, slice_send)

-- where there is no memory for the box, the desk is as it was but for its ending
pub returns-in-Err-clause-history : goal.returns-in-Err-clause-history
returns-in-Err-clause-history g c = ([], append-nil _ ∙ sym (ap (λ k. k.record.history.list) (c.no_memory.ensures.clocked ∙ ap (λ d. d.course.clocked) c.in-Err.ensures.value_returned)))

pub returns-in-Err-clause-ended : goal.returns-in-Err-clause-ended
returns-in-Err-clause-ended g c = ended_now _ _ _ c.no_memory.ensures.none c.no_memory.ensures.some
