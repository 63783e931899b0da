use denote.Param.Send.{param_send, arg_send}
use Rattle.frame_stack.proofs.Sends.{job_send, slice_send, stack_send}
use Rattle.frame_stack.proofs.sent.are_sendable.Goals as goal

pub is_sendable-requires-send-T : goal.is_sendable-requires-send-T
is_sendable-requires-send-T c κs = search (param_send, arg_send, job_send)

pub is_sendable-requires-2-send-T : goal.is_sendable-requires-2-send-T
is_sendable-requires-2-send-T c κs = search (param_send, arg_send, slice_send)

pub is_sendable-requires-3-send-T : goal.is_sendable-requires-3-send-T
is_sendable-requires-3-send-T c κs = search (param_send, arg_send, stack_send)
