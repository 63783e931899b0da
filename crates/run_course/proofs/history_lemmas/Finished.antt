-- The main thread, and whether it has finished by a value.
use Rattle.std.proofs.Props.{props}
use Rattle.std.proofs.Common.{◌≡◌, get_or, ◌<◌, ℕ, List, length, Bool, true, false, cond, Some, None, refl, sym, ◌∙◌, subst, arith, slice_get}
use Rattle.std.proofs.Math.Logic.{∥∥₁_elim, ∥∥₁_map}
use Rattle.std.proofs.lemmas.Option.{slice_get_within, slice_get_read}
use Rattle.hs_rules.specs.declared.entry.Entry.{Entry}
use Rattle.rules_expansion.specs.trees.Trees.{T}
use Rattle.rules_expansion.specs.trees.Programs.{Fn, script_of}
use Rattle.rules_sorts.specs.Sorts.{Sort}
use Rattle.rules_code.specs.declared.code.CodeBody.{CodeBody}
use Rattle.hs_rules.specs.Terms as named
use Rattle.hs_rules.specs.State.{State}
use Rattle.hs_rules.specs.Endings.{is_ret, result_of, ended_by, IsDone, IsUncaught}
use Rattle.hs_progress.specs.TypedStates.{has}
use Rattle.hs_progress.proofs.Entries.{main_is_there}
use Rattle.slot_laws.specs.Standing.{PartStands, ret_stands, throw_stands, do_stands, op_stands}
use Rattle.slot_states.proofs.Reading.{named_of}
use Rattle.frame_stack.specs.declared.control.Control.{Control}
use Rattle.frame_stack.specs.declared.control.Control.TheVariants as c
use Rattle.frame_stack.specs.Parts.{part_of}
use Rattle.thread_table.specs.declared.thread.Thread.{Thread}
use Rattle.thread_table.specs.Table.{slot_of}
use Rattle.thread_table.proofs.Table.{slots_is, slots_count}
use Rattle.world_entries.specs.declared.world.World.{World}
use Rattle.world_entries.specs.Worlds.{state_of, Live}
use Rattle.run_course.specs.declared.history.record.Record.{Record}
use Rattle.run_course.specs.history.Acts.{is_value}
use Rattle.run_course.specs.history.Records.{HasFinished}

-- ---- main is there
pub main_below : (b : CodeBody) (es : List Entry) (w : World) → Live b es w → 0 < length w.threads.list.items
main_below b es w live =
    let m = main_is_there b.of.value live.accepted es live.state live.run in
    let lt = slice_get_within live.state.threads 0 m.0 m.1 in
    let n = live.represents.agrees.count in
    let k = slots_count b w.threads.list.items in
    omega (arith, lt, n, k)

pub some_main : (r : Record) → 0 < length r.world.threads.list.items
some_main r = ∥∥₁_elim r.after (hlevel props) (main_below r.of.value r.history.list r.world)

-- ---- how it has finished
part_ret : (cells : ℕ → T → Type 0) (ds : List Fn) (b : CodeBody) (k : Control) (q : named.Part) (j : Sort) → PartStands cells ds (part_of b k) q j → is_ret q ≡ is_value k
part_ret cells ds b (c.Doing i vs) q j (do_stands h) = refl
part_ret cells ds b (c.Ret v) q j (ret_stands h) = refl
part_ret cells ds b (c.Throw e) q j throw_stands = refl
part_ret cells ds b (c.Op p) q j (op_stands h) = refl

pub ended : (b : CodeBody) (es : List Entry) (w : World) (live : Live b es w) (th : Thread) → slice_get w.threads.list.items 0 ≡ Some th → th.finished ≡ true → ended_by (result_of (slice_get live.state.threads 0)) (is_value th.stack.control)
ended b es w live th is f =
    let ds : List Fn = script_of b.of.value in
    let n = named_of ds (state_of b w) live.state live.represents 0 (slot_of b th) (slots_is b w.threads.list.items 0 th is) in
    subst (λ o. ended_by (result_of o) (is_value th.stack.control)) (sym n.is)
    (subst (λ z. ended_by (cond z (Some n.thread.term.part) None) (is_value th.stack.control)) (sym (sym n.finished ∙ f))
    (part_ret (has live.represents.stacks.store) ds b th.stack.control n.thread.term.part _ n.stands.0))

by_value : (s : State) (value : Bool) → ended_by (result_of (slice_get s.threads 0)) value → cond value (IsDone s) (IsUncaught s)
by_value s true h = h
by_value s false h = h

pub has_finished : (r : Record) (th : Thread) → slice_get r.world.threads.list.items 0 ≡ Some th → th.finished ≡ true → HasFinished (is_value th.stack.control) r
has_finished r th is f = ∥∥₁_map r.after (λ live. (live.state, live.run, by_value live.state (is_value th.stack.control) (ended r.of.value r.history.list r.world live th is f)))

-- the main thread as it is read
pub main_is : (r : Record) (th : Thread) → th ≡ get_or r.world.threads.list.items 0 th → slice_get r.world.threads.list.items 0 ≡ Some th
main_is r th e = slice_get_read r.world.threads.list.items (length r.world.threads.list.items) 0 th refl (some_main r) e
