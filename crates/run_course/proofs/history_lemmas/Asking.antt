-- What an act asks of the world, before and after room was made.
use Rattle.std.proofs.Props.{props}
use Rattle.std.proofs.Math.Logic.{∥∥₁_elim}
use Rattle.std.proofs.Common.{arith, nat_le, cond, Option, None, ◌≡◌, ◌+◌, ℕ, List, length, Bool, true, false, Some, refl, sym, ap, ◌∙◌, subst, slice_get}
use Rattle.hs_rules.specs.declared.entry.Entry.{Entry}
use Rattle.hs_rules.specs.declared.entry.Entry.TheVariants as entry
use Rattle.hs_rules.specs.State.{State}
use Rattle.hs_rules.specs.State as named
use Rattle.hs_rules.specs.Entries.{on_thread, uncaught_line}
use Rattle.hs_rules.specs.Entries as entries
use Rattle.rules_expansion.specs.trees.Programs.{script_of}
use Rattle.rules_meaning.specs.CoreMeaning.{code_of}
use Rattle.rules_code.specs.declared.code.CodeBody.{CodeBody}
use Rattle.rules_waiting.specs.Waiting.{first_awake}
use Rattle.slot_states.specs.SlotStates.{SlotState}
use Rattle.slot_states.specs.Printing.{line_by, end_line, output_by, errors_by}
use Rattle.frame_stack.specs.declared.control.Operation.{Operation}
use Rattle.frame_stack.specs.declared.control.Control.{Control}
use Rattle.frame_stack.specs.declared.control.Control.TheVariants as c
use Rattle.frame_stack.specs.Parts.{IsOp, Stacked, part_of}
use Rattle.thread_table.specs.Kinds.{Own, Hears, IsBare}
use Rattle.thread_table.specs.Listing.{is_hit, waits_open}
use Rattle.thread_table.proofs.Table.{slots_is}
use Rattle.world_entries.specs.declared.world.World.{World}
use Rattle.world_entries.specs.Worlds.{state_of, Live, Makes, SameState, Stands, Ends, end_bytes}
use Rattle.run_course.specs.declared.history.acts.NextEntry.{NextEntry}
use Rattle.run_course.specs.declared.history.acts.NextEntry.TheVariants as act
use Rattle.run_course.specs.history.Acts.{entry_of}
use Rattle.run_course.specs.history.Records.{Can, PrintsIn}
use Rattle.run_course.proofs.history_lemmas.Resting.{rest_alike}

-- ---- what the callees ask
op_of_control : (k : Control) → IsOp k → (o : Operation) × (k ≡ c.Op o)
op_of_control (c.Doing i vs) h = absurd h
op_of_control (c.Ret v) h = absurd h
op_of_control (c.Throw e) h = absurd h
op_of_control (c.Op o) h = (o, refl)

pub op_stands : (w : World) (t : ℕ) → Own (λ (k : Stacked). IsOp k.control) t w.threads → (o : Operation) × Stands w t o
op_stands w t own =
    let o = op_of_control own.thread.stack.control own.holds in
    (o.0, record { thread = own.thread; is = own.is; control = o.1; unfinished = own.unfinished; free = own.free })

line_bytes : (b : CodeBody) (t : ℕ) (k : Control) → length (line_by t (part_of b k)) ≡ end_bytes t k
line_bytes b t (c.Doing i vs) = refl
line_bytes b t (c.Ret v) = refl
line_bytes b t (c.Throw e) = refl
line_bytes b t (c.Op o) = refl

pub ends_so : (w : World) (t n : ℕ) → Own IsBare t w.threads → (b : CodeBody) → PrintsIn b n (act.Finish t) w → Ends t n w
ends_so w t n own b bytes = record {
  thread = own.thread;
  is = own.is;
  unfinished = own.unfinished;
  free = own.free;
  bare = own.holds;
  bytes = bytes ∙ (none (length (errors_by (state_of b w) (entry_of (act.Finish t)))) ∙ (ap (λ o. length (end_line t o)) (slots_is b w.threads.list.items t own.thread own.is) ∙ line_bytes b t own.thread.stack.control));
}
  where
    none : (m : ℕ) → 0 + m ≡ m
    none m = omega arith

-- ---- where room was made
module _ (old new : World) (b : CodeBody) (same : SameState old new) (items : new.threads.list.items ≡ old.threads.list.items) (flight : new.threads.flight.list ≡ old.threads.flight.list) where
  own_kept : (P : Stacked → Type 0) (t : ℕ) → Own P t old.threads → Own P t new.threads
  own_kept P t own = record { thread = own.thread; is = ap (λ ths. slice_get ths t) items ∙ own.is; unfinished = own.unfinished; free = own.free; holds = own.holds }

  hears_kept : (t : ℕ) → Hears t old.threads → Hears t new.threads
  hears_kept t h = record { thread = h.thread; is = ap (λ ths. slice_get ths t) items ∙ h.is; unfinished = h.unfinished; receptive = h.receptive; hit = ap (is_hit t) flight ∙ h.hit }

  awake_kept : (t : ℕ) → Can (act.Wake t) old → Can (act.Wake t) new
  awake_kept t h = ap (λ (x : SlotState). first_awake x.clock x.sleepers) (same b) ∙ h

  strand_kept : Can act.Strand old → Can act.Strand new
  strand_kept h = (rest_alike old new same h.0, ap (λ (x : SlotState). x.sleepers) (same b) ∙ h.1, (h.2.0, ap (λ ths. waits_open (slice_get ths h.2.0)) items ∙ h.2.1))

  pub can_kept : (a : NextEntry) → Can a old → Can a new
  can_kept (act.Op t) h = own_kept _ t h
  can_kept (act.Finish t) h = own_kept _ t h
  can_kept (act.Local t) h = own_kept _ t h
  can_kept (act.Receive t) h = hears_kept t h
  can_kept (act.Wake t) h = awake_kept t h
  can_kept act.Strand h = strand_kept h

  pub prints_kept : (n : ℕ) (a : NextEntry) → PrintsIn b n a old → PrintsIn b n a new
  prints_kept n a h = subst (λ x. n ≡ length (output_by x (entry_of a)) + length (errors_by x (entry_of a))) (sym (same b)) h

-- ---- the clock's time
on_some : (o : Option named.Thread) (k : named.Thread → Option State) (u : State) → on_thread o k ≡ Some u → (th : named.Thread) × (k th ≡ Some u)
on_some None k u e = absurd (cc e)
on_some (Some th) k u e = by th.finished e
  where
    by : (f : Bool) → cond f None (k th) ≡ Some u → (z : named.Thread) × (k z ≡ Some u)
    by true e = absurd (cc e)
    by false e = (th, e)

ticked : (x : Bool) (s u : State) (at : ℕ) → cond x (Some (record s { clock = at })) None ≡ Some u → u.clock ≡ at
ticked true s u at e = let z : Some (record s { clock = at }) ≡ Some u = e in let q : record s { clock = at } ≡ u = cc z in ap (λ (v : State). v.clock) (sym q)
ticked false s u at e = absurd (cc e)

-- a world that a Tick makes of a live one shows its time
pub tick_clock : (b : CodeBody) (es : List Entry) (old new : World) (at : ℕ) → Makes (entry.Tick at) old new → ∥ Live b es old ∥₁ → new.clock ≡ at
tick_clock b es old new at makes live =
    ∥∥₁_elim live (hlevel props) (λ l.
    let k = makes b l.accepted l.code es l.state l.run l.represents in
    let e = on_some (slice_get l.state.threads 0) (λ th. entries.entered (code_of (script_of b.of.value)) l.state (entry.Tick at)) k.0 k.1.0 in
    k.2.agrees.clock ∙ ticked (nat_le l.state.clock at) l.state k.0 at e.1)
