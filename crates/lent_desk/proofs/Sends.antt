-- A desk may be handed to another thread where its sinks and its clock may, since each of its parts may.
use denote.RattleType.{RattleType}
use denote.Enum.Declared.{shape}
use denote.Param.SendFields.{as_row_send, declared_send}
use denote.Param.Send.{IsSend, EachSend, plain_send, plain_sync, recorded_send, recorded_sync, enum_send, view_send, struct_send, struct_sync}
use Rattle.std.proofs.Crossing.{Box-send, crosses}
use Rattle.std.proofs.MapsCrossing.{HashMap-send}
use Rattle.std.proofs.option.Option.TheSendSync as option
use Rattle.slab.proofs.Slab.TheSendSync as slab
use Rattle.hs_items.proofs.items.Items.TheSendSync as items
use Rattle.hs_items.proofs.shared.Shared.TheSendSync as shared
use Rattle.hs_base.specs.contracts.value.Value as value
use Rattle.hs_base.proofs.value.Value.TheLaws.TheKnot as values
use Rattle.hs_base.proofs.exn.Exn.TheSendSync as exn
use Rattle.hs_base.proofs.mask.Mask.TheSendSync as mask
use Rattle.hs_base.proofs.text.Txt.TheSendSync as txt
use Rattle.rules_code.proofs.act.Act.TheSendSync as act
use Rattle.rules_code.proofs.code.Fun.TheSendSync as fun
use Rattle.rules_code.proofs.node.Node.TheSendSync as node
use Rattle.rules_code.specs.contracts.code.Code as code
use Rattle.mvar_cell.specs.contracts.lines.Want as want
use Rattle.mvar_cell.specs.contracts.cells.Cells as cells
use Rattle.exn_flight.proofs.flight.Flight.TheSendSync as flight
use Rattle.exn_flight.proofs.sleepers.Sleepers.TheSendSync as sleepers
use Rattle.frame_stack.proofs.Sends.{stack_send}
use Rattle.thread_table.specs.contracts.thread.Thread as thread
use Rattle.thread_table.specs.contracts.threads.Threads as threads
use Rattle.world_entries.specs.contracts.world.World as world
use Rattle.hs_base.proofs.limits.Limits.TheSendSync as limits
use Rattle.hs_io.specs.declared.clock.Clock as clock
use Rattle.hs_io.specs.declared.sink.Sink as sink
use Rattle.hs_rules.proofs.history.History.TheSendSync as history
use Rattle.run_course.specs.contracts.history.record.Record as run
use Rattle.conc_world.proofs.tickets.tickets.Tickets.TheSendSync as tickets
use Rattle.run_course.specs.contracts.clocked.clocked.Clocked as clocked
use Rattle.run_course.specs.contracts.course.Course as course
use Rattle.run_course.proofs.ends.RunEnd.TheSendSync as ending
use Rattle.conc_world.specs.contracts.desk.Desk as desk
use Rattle.lent_desk.specs.declared.lent.LentAs as lent
use Rattle.lent_desk.specs.contracts.desk.LentDesk as lent_desk

-- ---- threads

a_thread : IsSend thread.the_row
a_thread = search (recorded_send, struct_send, tt, plain_send, crosses, stack_send) depth 30

some_threads : IsSend threads.the_row
some_threads = search (recorded_send, struct_send, tt, plain_send, crosses, a_thread, flight.the_send) depth 30

-- ---- cells

ruleset leaves = (plain_send, plain_sync, txt.the_send, txt.the_sync, exn.the_field_send, exn.the_field_sync, mask.the_field_send, mask.the_field_sync, shared.the_send, shared.the_sync)

value_field : IsSend (value.the_field).row
value_field = search (leaves, values.both_send-Value) depth 20

each_want : EachSend (shape want.the_type).variants
each_want = (tt, (tt, ((value_field, tt), tt)))

a_want : IsSend (want.the_field).row
a_want = enum_send (shape want.the_type) each_want

some_cells : IsSend cells.the_row
some_cells = search (view_send, recorded_send, struct_send, tt, plain_send, crosses, option.the_field_send, value_field, slab.the_send, a_want, HashMap-send) depth 40

-- ---- the world and the code

ruleset part = (tt, plain_send, as_row_send, crosses, some_threads, some_cells, sleepers.the_send, option.the_field_send, option.the_send, ending.the_send)

a_world : IsSend world.the_row
a_world = declared_send world.the_type (search part, (search part, (search part, (search part, (search part, (search part, (search part, (search part, tt))))))))

a_record : IsSend run.the_row
a_record = declared_send run.the_type (history.the_send, (a_world, (search part, (limits.the_send, (search part, tt)))))

a_code : IsSend code.the_row
a_code = search (recorded_send, recorded_sync, struct_send, struct_sync, tt, plain_send, plain_sync, crosses, items.the_send, items.the_sync, node.the_field_send, node.the_field_sync, act.the_field_send, act.the_field_sync, fun.the_send, fun.the_sync) depth 40

-- ---- the desk

module _ (O E K : RattleType) (o : sink.Ghosts O.Denot) (e : sink.Ghosts E.Denot) (k : clock.Ghosts K.Denot) (out_sent : IsSend O) (err_sent : IsSend E) (clock_sent : IsSend K) where
  a_clocked : IsSend (clocked.the_row K k)
  a_clocked = declared_send (clocked.the_type K k) (a_record, (search part, (search part, tt)))

  a_course : IsSend (course.the_row O E K o e k)
  a_course = declared_send (course.the_type O E K o e k) (a_clocked, (search part, (search part, (search part, (search part, (search part, tt))))))

  a_desk : IsSend (desk.the_row O E K o e k)
  a_desk = declared_send (desk.the_type O E K o e k) (a_code, (a_course, (tickets.the_send, (search part, (search part, (search part, tt))))))

  pub a_lent_desk : (N : RattleType) (n : lent.Ghosts N.Denot) → IsSend N → IsSend (lent_desk.the_row O E K N o e k n)
  a_lent_desk N n sent = declared_send (lent_desk.the_type O E K N o e k n) (Box-send (desk.the_row O E K o e k) a_desk, (search part, tt))
