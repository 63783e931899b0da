-- Who waits in a world that stands for the state of a run, and where.
use Rattle.std.proofs.Common.{◌≡◌, ◌≤◌, ℕ, List, true, Option, Some, None, refl, sym, ap, ◌∙◌, arith, slice_get}
use Rattle.std.proofs.Math.Bridge.{le_prop}
use Rattle.std.proofs.Math.Logic.{∥∥₁_elim, ∥∥₁_map}
use Rattle.std.proofs.lemmas.Option.{same_Some}
use Rattle.hs_base.specs.declared.exn.Exn.{Exn}
use Rattle.hs_rules.specs.declared.entry.Entry.{Entry}
use Rattle.rules_expansion.specs.trees.Programs.{script_of}
use Rattle.rules_code.specs.declared.code.CodeBody.{CodeBody}
use Rattle.rules_waiting.specs.Waiting.{flying_to, first_thrown, first_awake}
use Rattle.exn_flight.specs.Asleep.{due_of}
use Rattle.slot_laws.specs.SlotRules.{SlotOp, performs}
use Rattle.slot_states.specs.SlotStates.{SlotThread}
use Rattle.hs_laws.proofs.Expanded.{standing_of}
use Rattle.slot_states.proofs.Waits.{blocked_performs, thrower_blocked, sleeper_there, first_has_come}
use Rattle.frame_stack.specs.declared.control.Control.{Control}
use Rattle.frame_stack.specs.declared.control.Control.TheVariants as c
use Rattle.frame_stack.specs.Parts.{IsOp, part_of}
use Rattle.thread_table.specs.declared.thread.Thread.{Thread}
use Rattle.thread_table.specs.Table.{slots_of, IsAt}
use Rattle.thread_table.proofs.Slots.{slot_back}
use Rattle.world_entries.specs.declared.world.World.{World}
use Rattle.world_entries.specs.Worlds.{state_of, Live, IsLive}
use Rattle.world_entries.proofs.Making.{op_shown}

-- ---- a thread with slots is one of memory

-- one that performs an operation stands at one
pub op_of_part : (b : CodeBody) (k : Control) (op : SlotOp) → part_of b k ≡ performs op → IsOp k
op_of_part b (c.Doing i vs) op e = absurd (cc e)
op_of_part b (c.Ret v) op e = absurd (cc e)
op_of_part b (c.Throw x) op e = absurd (cc e)
op_of_part b (c.Op q) op e = tt

pub op_there : (b : CodeBody) (ths : List Thread) (t : ℕ) (h : SlotThread) → slice_get (slots_of b ths) t ≡ Some h → (op : SlotOp) × (h.term.part ≡ performs op) → IsAt t (λ (x : Thread). IsOp x.stack.control) ths
op_there b ths t h e p =
    let th = slot_back b ths t h e in
    record { thread = th.0; is = th.1; holds = op_of_part b th.0.stack.control p.0 (ap (λ (z : SlotThread). z.term.part) th.2 ∙ p.1) }

-- ---- in a world that stands for the state of a run
-- who is blocked stands at an operation
pub blocked_op : (w : World) (b : CodeBody) (es : List Entry) → Live b es w → (t : ℕ) (h : SlotThread) → slice_get (slots_of b w.threads.list.items) t ≡ Some h → h.blocked ≡ true → IsAt t (λ (x : Thread). IsOp x.stack.control) w.threads.list.items
blocked_op w b es l t h is k =
    op_there b w.threads.list.items t h is
    (blocked_performs (script_of b.of.value) (state_of b w) l.state l.represents (standing_of (script_of b.of.value) es l.state l.run) t h is k).1

-- who throws first at a thread does
pub thrower_op : (w : World) → IsLive w → (t u : ℕ) (e : Exn) → first_thrown (flying_to t w.threads.flight.list) ≡ Some (u, e) → IsAt u (λ (x : Thread). IsOp x.stack.control) w.threads.list.items
thrower_op w live t u e f =
    op_shown w.threads.list.items u
    (∥∥₁_map live (λ p.
    let h = thrower_blocked (script_of p.0.of.value) (state_of p.0 w) p.2.state p.2.represents (standing_of (script_of p.0.of.value) p.1 p.2.state p.2.run) t u e f in
    blocked_op w p.0 p.1 p.2 u h.0 h.1 h.2))

-- and so does a sleeper
pub sleeper_op : (w : World) → IsLive w → (t due : ℕ) → due_of t w.sleepers.list ≡ Some due → IsAt t (λ (x : Thread). IsOp x.stack.control) w.threads.list.items
sleeper_op w live t due e =
    op_shown w.threads.list.items t
    (∥∥₁_map live (λ p.
    let h = sleeper_there (script_of p.0.of.value) (state_of p.0 w) p.2.state p.2.represents (standing_of (script_of p.0.of.value) p.1 p.2.state p.2.run) t due e in
    blocked_op w p.0 p.1 p.2 t h.0 h.1 h.2))

-- the first sleeper that is due, is
module _ (w : World) (live : IsLive w) (t : ℕ) (f : first_awake w.clock w.sleepers.list ≡ Some t) where
  come : ∥ ((due : ℕ) × (due_of t w.sleepers.list ≡ Some due) × (due ≤ w.clock)) ∥₁
  come = ∥∥₁_map live (λ p. first_has_come (script_of p.0.of.value) (state_of p.0 w) p.2.state p.2.represents (standing_of (script_of p.0.of.value) p.1 p.2.state p.2.run) t f)

  come_by : (o : Option ℕ) → due_of t w.sleepers.list ≡ o → (due : ℕ) × (due_of t w.sleepers.list ≡ Some due) × (due ≤ w.clock)
  come_by None e = absurd (∥∥₁_elim come (λ x y. absurd x) (λ k. let z : ◌≡◌ {A = Option ℕ} None (Some k.0) = sym e ∙ k.1 in cc z))
  come_by (Some due) e = (due, e, ∥∥₁_elim come (hlevel le_prop) (λ k. let same : due ≡ k.0 = same_Some due k.0 (sym e ∙ k.1) in omega (arith, same, k.2)))

  pub first_is_due : (due : ℕ) × (due_of t w.sleepers.list ≡ Some due) × (due ≤ w.clock)
  first_is_due = come_by (due_of t w.sleepers.list) refl
