-- What the lists say of the threads with slots.
use Rattle.std.proofs.Common.{◌≡◌, ℕ, suc, ◌+◌, List, [], ◌∷◌, length, Bool, true, false, cond, not, ◌&&◌, is_some, Option, Some, None, option_map, slice_get, refl, sym, ap, ◌∙◌, subst}
use Rattle.hs_base.specs.declared.mask.Mask.TheVariants.{Unmasked}
use Rattle.hs_base.specs.declared.exn.Exn.{Exn}
use Rattle.rules_expansion.specs.declared.primitive.Primitive.{Primitive}
use Rattle.rules_expansion.specs.declared.primitive.Primitive.TheVariants.{TakeMVar, PutMVar, ReadMVar}
use Rattle.rules_meaning.specs.Values as val
use Rattle.rules_meaning.specs.Values.{value_of}
use Rattle.rules_waiting.specs.Waiting.{Flying, flying_to, first_thrown}
use Rattle.hs_rules.specs.Entries.{is_open, is_interruptible}
use Rattle.rules_code.specs.declared.code.CodeBody.{CodeBody}
use Rattle.slot_laws.specs.SlotRules.{calls, SlotPart, performs, mask_from}
use Rattle.slot_states.specs.SlotStates.{SlotThread, SlotState}
use Rattle.slot_states.specs.Resting as slots
use Rattle.slot_states.specs.Resting.{WaitsAt, takes, reads, puts, WaitsOpen, frames_in}
use Rattle.local_steps.specs.declared.active.Frame.{Frame}
use Rattle.local_steps.specs.Machine.{frames_of}
use Rattle.local_steps.proofs.Codes.{masks_inside}
use Rattle.frame_stack.specs.declared.control.Operation.TheVariants as p
use Rattle.frame_stack.specs.declared.control.Control.{Control}
use Rattle.frame_stack.specs.declared.control.Control.TheVariants as c
use Rattle.frame_stack.specs.Parts.{part_of}
use Rattle.thread_table.specs.declared.thread.Thread.{Thread}
use Rattle.thread_table.specs.Table.{slot_of, slots_of, frames_over}
use Rattle.thread_table.specs.Listing.{mask_of, is_throw, has_own, is_receptive, is_hit, wanted, NobodyWants, is_at_cell, WaitsAtCell, waits_open}
use Rattle.thread_table.proofs.Table.{slots_at}
use Rattle.hs_laws.proofs.cases_lemmas.Entering.{not_hard, interruptible}

-- ---- the thread that stands at a number
back_from : (b : CodeBody) (o : Option Thread) (y : SlotThread) → option_map (slot_of b) o ≡ Some y → (th : Thread) × (o ≡ Some th) × (slot_of b th ≡ y)
back_from b None y h = absurd (cc h)
back_from b (Some th) y h = (th, refl, cc h)

pub slot_back : (b : CodeBody) (ths : List Thread) (t : ℕ) (y : SlotThread) → slice_get (slots_of b ths) t ≡ Some y → (th : Thread) × (slice_get ths t ≡ Some th) × (slot_of b th ≡ y)
slot_back b ths t y h = back_from b (slice_get ths t) y (sym (slots_at b ths t) ∙ h)

-- ---- frames
long : (b : CodeBody) (fs : List Frame) → length (frames_of b fs) ≡ length fs
long b [] = refl
long b (f ∷ fs) = ap suc (long b fs)

pub frames_same : (b : CodeBody) (ths : List Thread) → frames_in (slots_of b ths) ≡ frames_over ths
frames_same b [] = refl
frames_same b (th ∷ ths) =
    ap (λ n. cond th.finished 0 n + frames_in (slots_of b ths)) (long b th.stack.frames)
    ∙ ap (λ n. cond th.finished 0 (length th.stack.frames) + n) (frames_same b ths)

-- ---- receptive threads
throw_same : (b : CodeBody) (x : Control) → slots.is_throw (part_of b x) ≡ is_throw x
throw_same b (c.Doing i vs) = refl
throw_same b (c.Ret v) = refl
throw_same b (c.Throw e) = refl
throw_same b (c.Op q) = refl

pub receptive_same : (b : CodeBody) (th : Thread) → slots.is_receptive (slot_of b th) ≡ is_receptive th
receptive_same b th =
    ap (λ z. not z && is_open th.blocked (mask_from Unmasked (frames_of b th.stack.frames))) (throw_same b th.stack.control)
    ∙ ap (λ m. not (is_throw th.stack.control) && is_open th.blocked m) (sym (masks_inside b Unmasked th.stack.frames))

hit_from : (fs : List Flying) → is_some (first_thrown fs) ≡ true → (w : ℕ × Exn) × (first_thrown fs ≡ Some w)
hit_from [] h = absurd (cc h)
hit_from (f ∷ fs) h = ((f.thrower, f.exn), refl)

-- an exception is in flight to whom one is to reach
pub hit_is : (t : ℕ) (fs : List Flying) → is_hit t fs ≡ true → (w : ℕ × Exn) × (first_thrown (flying_to t fs) ≡ Some w)
hit_is t fs h = hit_from (flying_to t fs) h

not_hit : (fs : List Flying) → is_some (first_thrown fs) ≡ false → fs ≡ []
not_hit [] h = refl
not_hit (f ∷ fs) h = absurd (cc h)

-- ---- those who wait at a cell
pub waits_part : (b : CodeBody) (k : ℕ) (x : Control) → WaitsAtCell k x → WaitsAt k (part_of b x)
waits_part b k (c.Op (p.TakeMVar m)) h = subst (λ n. WaitsAt n (performs (calls TakeMVar (val.Cell m ∷ [])))) h takes
waits_part b k (c.Op (p.ReadMVar m)) h = subst (λ n. WaitsAt n (performs (calls ReadMVar (val.Cell m ∷ [])))) h reads
waits_part b k (c.Op (p.PutMVar m v)) h = subst (λ n. WaitsAt n (performs (calls PutMVar (val.Cell m ∷ value_of v ∷ [])))) h puts
waits_part b k _ h = absurd h

pub at_some_cell : (x : Control) → is_at_cell x ≡ true → (k : ℕ) × WaitsAtCell k x
at_some_cell (c.Op (p.TakeMVar m)) h = (m, refl)
at_some_cell (c.Op (p.ReadMVar m)) h = (m, refl)
at_some_cell (c.Op (p.PutMVar m v)) h = (m, refl)
at_some_cell _ h = absurd (cc h)

-- the same test of a part
abbrev cell_primitive : Primitive → Bool
cell_primitive TakeMVar = true
cell_primitive ReadMVar = true
cell_primitive PutMVar = true
cell_primitive _ = false

abbrev cell_part : SlotPart → Bool
cell_part (performs (calls q vs)) = cell_primitive q
cell_part _ = false

cell_same : (b : CodeBody) (x : Control) → cell_part (part_of b x) ≡ is_at_cell x
cell_same b (c.Op (p.TakeMVar m)) = refl
cell_same b (c.Op (p.ReadMVar m)) = refl
cell_same b (c.Op (p.PutMVar m v)) = refl
cell_same b _ = refl

cell_waits : (k : ℕ) (s : SlotPart) → WaitsAt k s → cell_part s ≡ true
cell_waits k s takes = refl
cell_waits k s reads = refl
cell_waits k s puts = refl

three : (x y z : Bool) → x ≡ true → y ≡ true → z ≡ true → (x && y && z) ≡ true
three x y z a d e = ap (λ q. q && y && z) a ∙ (ap (λ q. q && z) d ∙ e)

three_are : (x y z : Bool) → (x && y && z) ≡ true → (x ≡ true) × (y ≡ true) × (z ≡ true)
three_are true true true h = (refl, refl, refl)
three_are true true false h = absurd (cc h)
three_are true false z h = absurd (cc h)
three_are false y z h = absurd (cc h)

open_from : (b : CodeBody) (x : SlotState) (t : ℕ) (o : Option Thread) → slice_get x.threads t ≡ option_map (slot_of b) o → waits_open o ≡ true → WaitsOpen x t
open_from b x t None e h = absurd (cc h)
open_from b x t (Some th) e h =
    let are = three_are th.blocked (is_at_cell th.stack.control) (is_interruptible (mask_of th)) h in
    let cell = at_some_cell th.stack.control are.1 in
    record {
      thread = slot_of b th;
      is = e;
      blocked = are.0;
      cell = cell.0;
      at = waits_part b cell.0 th.stack.control cell.1;
      open_now = not_hard (mask_from Unmasked (frames_of b th.stack.frames)) (sym (ap is_interruptible (masks_inside b Unmasked th.stack.frames)) ∙ are.2);
    }

-- those who may be stranded are the same
pub open_waits : (b : CodeBody) (ths : List Thread) (x : SlotState) (t : ℕ) → x.threads ≡ slots_of b ths → waits_open (slice_get ths t) ≡ true → WaitsOpen x t
open_waits b ths x t e h = open_from b x t (slice_get ths t) (ap (λ l. slice_get l t) e ∙ slots_at b ths t) h

pub waits_are_open : (b : CodeBody) (ths : List Thread) (x : SlotState) (t : ℕ) → x.threads ≡ slots_of b ths → WaitsOpen x t → waits_open (slice_get ths t) ≡ true
waits_are_open b ths x t e w =
    let back = slot_back b ths t w.thread (sym (ap (λ l. slice_get l t) e) ∙ w.is) in
    let th = back.0 in
    let at_cell = sym (cell_same b th.stack.control) ∙ (ap (λ (y : SlotThread). cell_part y.term.part) back.2 ∙ cell_waits w.cell w.thread.term.part w.at) in
    let mask = masks_inside b Unmasked th.stack.frames ∙ ap (λ (y : SlotThread). mask_from Unmasked y.term.frames) back.2 in
    ap waits_open back.1 ∙ three th.blocked (is_at_cell th.stack.control) (is_interruptible (mask_of th)) (ap (λ (y : SlotThread). y.blocked) back.2 ∙ w.blocked) at_cell (interruptible (mask_of th) (λ m. w.open_now (sym mask ∙ m)))

-- ---- where nobody has anything to do
unheard_from : (f o r h : Bool) → f ≡ false → r ≡ true → cond f false (cond o true (cond r h false)) ≡ false → h ≡ false
unheard_from true o r h e k w = absurd (cc e)
unheard_from false true r h e k w = absurd (cc w)
unheard_from false false true h e k w = w
unheard_from false false false h e k w = absurd (cc k)

-- none of them can receive an exception in flight to it
pub nobody_hears : (b : CodeBody) (ths : List Thread) (fs : List Flying) → NobodyWants ths fs → (t : ℕ) (y : SlotThread) → slice_get (slots_of b ths) t ≡ Some y → y.finished ≡ false → slots.is_receptive y ≡ true → flying_to t fs ≡ []
nobody_hears b ths fs w t y h f r =
    let s = slot_back b ths t y h in
    let th = s.0 in
    not_hit (flying_to t fs) (unheard_from th.finished (has_own th) (is_receptive th) (is_hit t fs)
    (ap (λ (z : SlotThread). z.finished) s.2 ∙ f)
    (sym (receptive_same b th) ∙ (ap slots.is_receptive s.2 ∙ r))
    (sym (ap (λ o. wanted t o fs) s.1) ∙ w t))
