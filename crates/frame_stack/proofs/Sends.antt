-- Jobs, slices and stacks may be handed to other threads, since each of their parts may.
--
-- The search of a call that asks for this gives up at the many forms of a primitive, so it is said here part by part: of a
-- type alone (`the_row`), and of a field of that type (`the_field`).
use denote.Enum.Declared.{shape}
use denote.Enum.Enum.{Enum}
use denote.Param.Send.{IsSend, IsSync, EachSend, plain_send, plain_sync, sendable, recorded_send, recorded_sync, enum_send, view_send, struct_send}
use Rattle.std.proofs.Crossing.{crosses}
use Rattle.std.proofs.option.Option.TheSendSync as option
use Rattle.hs_items.proofs.items.Items.TheSendSync as items
use Rattle.hs_items.proofs.shared.Shared.TheSendSync as shared
use Rattle.hs_base.specs.contracts.value.Value as value
use Rattle.hs_base.proofs.value.Value.TheLaws.TheKnot as values
use Rattle.hs_base.proofs.exn.Exn.TheSendSync as exn
use Rattle.hs_base.proofs.mask.Mask.TheSendSync as mask
use Rattle.hs_base.proofs.text.Txt.TheSendSync as txt
use Rattle.rules_code.proofs.act.ActId.TheSendSync as act
use Rattle.local_steps.specs.contracts.environments.env.Env as env
use Rattle.local_steps.specs.contracts.environments.waiting.Waiting as waiting
use Rattle.local_steps.specs.contracts.active.Frame as frame
use Rattle.local_steps.specs.contracts.frames.Frames as frames
use Rattle.local_steps.proofs.active.Masking.TheSendSync as masking
use Rattle.frame_stack.specs.contracts.control.Operation as prim
use Rattle.frame_stack.specs.contracts.control.Control as control
use Rattle.frame_stack.specs.contracts.job.Job as job
use Rattle.frame_stack.specs.contracts.sliced.Slice as slice
use Rattle.frame_stack.specs.contracts.stack.Stack as stack

-- ---- values

ruleset leaves = (plain_send, plain_sync, txt.the_send, txt.the_sync, exn.the_field_send, exn.the_field_sync, mask.the_field_send, mask.the_field_sync, shared.the_send, shared.the_sync)

value_field : IsSend (value.the_field).row
value_field = search (leaves, values.both_send-Value) depth 20

shared_value_field : IsSync (value.the_field).row
shared_value_field = search (leaves, values.both_sync-Value) depth 20

a_value : IsSend value.the_row
a_value = recorded_send (Enum (shape value.the_type)) value.the_type.D value.the_type.to value.the_type.to_one value_field

a_shared_value : IsSync value.the_row
a_shared_value = recorded_sync (Enum (shape value.the_type)) value.the_type.D value.the_type.to value.the_type.to_one shared_value_field

-- ---- environments

ruleset environment = (view_send, recorded_send, struct_send, tt, option.the_field_send, items.the_send, items.the_sync, shared.the_send, a_value, a_shared_value)

an_env : IsSend env.the_row
an_env = search environment depth 30

a_waiting : IsSend waiting.the_row
a_waiting = search (crosses, environment) depth 30

-- ---- controls

ruleset part = (sendable, value_field, txt.the_send, exn.the_field_send, act.the_field_send, an_env)

each_prim : EachSend (shape prim.the_type).variants
each_prim = (search part, (search part, (search part, (search part, (search part, (search part, (search part, (search part, (search part, (search part, (search part, (search part, (search part, (search part, (search part, (search part, (search part, (search part, (search part, (search part, tt))))))))))))))))))))

prim_field : IsSend (prim.the_field).row
prim_field = enum_send (shape prim.the_type) each_prim

each_control : EachSend (shape control.the_type).variants
each_control = (search part, (search part, (search part, ((prim_field, tt), tt))))

control_field : IsSend (control.the_field).row
control_field = enum_send (shape control.the_type) each_control

-- ---- frames

ruleset waiter = (tt, act.the_field_send, a_waiting, an_env)

each_frame : EachSend (shape frame.the_type).variants
each_frame = (search waiter, (search waiter, (search waiter, ((masking.the_field_send, tt), tt))))

a_frame : IsSend frame.the_row
a_frame = recorded_send (Enum (shape frame.the_type)) frame.the_type.D frame.the_type.to frame.the_type.to_one (enum_send (shape frame.the_type) each_frame)

some_frames : IsSend frames.the_row
some_frames = search (view_send, recorded_send, struct_send, tt, crosses, a_frame, mask.the_field_send) depth 30

-- ---- what is handed over

pub job_send : IsSend job.the_row
job_send = search (recorded_send, struct_send, tt, plain_send, crosses, control_field, mask.the_field_send) depth 30

pub slice_send : IsSend slice.the_row
slice_send = search (recorded_send, struct_send, tt, plain_send, crosses, control_field, mask.the_field_send, some_frames) depth 30

pub stack_send : IsSend stack.the_row
stack_send = search (view_send, recorded_send, struct_send, tt, control_field, some_frames) depth 30
