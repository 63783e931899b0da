-- What the entry of a control's own is, and which parts are actions.
use Rattle.std.proofs.Common.{◌≡◌, ℕ, suc, List, [], ◌∷◌, length, true, refl, ap, ◌∙◌, subst, arith}
use Rattle.hs_rules.specs.declared.entry.Entry.TheVariants as entry
use Rattle.hs_rules.specs.Terms as named
use Rattle.hs_rules.specs.Terms.{Operation, Ret, Throw, Performs}
use Rattle.hs_progress.specs.GoingOn.{own_entry}
use Rattle.rules_expansion.specs.trees.Trees.{T}
use Rattle.rules_expansion.specs.trees.Programs.{Fn}
use Rattle.rules_sorts.specs.Sorts.{Sort}
use Rattle.rules_code.specs.declared.code.CodeBody.{CodeBody}
use Rattle.slot_laws.specs.SlotRules.{SlotOp, performs}
use Rattle.slot_laws.specs.Standing.{PartStands, op_stands, FramesStand}
use Rattle.slot_states.specs.Resting.{IsDoing}
use Rattle.slot_states.proofs.Reading.{ret_is, throw_is, no_frames, as_many}
use Rattle.local_steps.specs.declared.active.Frame.{Frame}
use Rattle.local_steps.specs.Machine.{frames_of}
use Rattle.frame_stack.specs.declared.control.Control.{Control}
use Rattle.frame_stack.specs.declared.control.Control.TheVariants as c
use Rattle.frame_stack.specs.Parts.{IsOp, MeetsOne, part_of}
use Rattle.thread_table.specs.Kinds.{IsEnd}
use Rattle.thread_table.specs.Listing.{is_doing}

-- ---- parts
pub doing_part : (b : CodeBody) (k : Control) → is_doing k ≡ true → IsDoing (part_of b k)
doing_part b (c.Doing i vs) e = tt
doing_part b (c.Ret v) e = absurd (cc e)
doing_part b (c.Throw x) e = absurd (cc e)
doing_part b (c.Op q) e = absurd (cc e)

pub part_doing : (b : CodeBody) (k : Control) → IsDoing (part_of b k) → is_doing k ≡ true
part_doing b (c.Doing i vs) d = refl
part_doing b (c.Ret v) d = absurd d
part_doing b (c.Throw x) d = absurd d
part_doing b (c.Op q) d = absurd d

-- ---- the entry of a control's own
module _ (cells : ℕ → T → Type 0) (ds : List Fn) where
  op_named : {p : SlotOp} {q : named.Part} {k : Sort} → PartStands cells ds (performs p) q k → (op : Operation) × (q ≡ Performs op)
  op_named (op_stands {op} h) = (op, refl)

  pub own_op : (b : CodeBody) (t : ℕ) (k : Control) → IsOp k → (q : named.Part) (j : Sort) (gs : List named.Frame) → PartStands cells ds (part_of b k) q j → own_entry t q gs ≡ entry.Op t
  own_op b t (c.Doing i vs) is q j gs h = absurd is
  own_op b t (c.Ret v) is q j gs h = absurd is
  own_op b t (c.Throw x) is q j gs h = absurd is
  own_op b t (c.Op p) is q j gs h = ap (λ z. own_entry t z gs) (op_named h).1

  finish_of : (t : ℕ) (gs : List named.Frame) (q x : named.Part) → gs ≡ [] → q ≡ x → own_entry t x [] ≡ entry.Finish t → own_entry t q gs ≡ entry.Finish t
  finish_of t gs q x g e h = ap (λ z. own_entry t z gs) e ∙ (ap (own_entry t x) g ∙ h)

  pub own_finish : (b : CodeBody) (t : ℕ) (k : Control) → IsEnd k → (fs : List Frame) → fs ≡ [] → (q : named.Part) (j : Sort) (gs : List named.Frame) → PartStands cells ds (part_of b k) q j → FramesStand cells ds j (frames_of b fs) gs → own_entry t q gs ≡ entry.Finish t
  own_finish b t (c.Doing i vs) is fs none q j gs h g = absurd is
  own_finish b t (c.Op p) is fs none q j gs h g = absurd is
  own_finish b t (c.Ret v) is fs none q j gs h g = finish_of t gs q _ (no_frames cells ds (subst (λ z. FramesStand cells ds j (frames_of b z) gs) none g)) (ret_is cells ds h) refl
  own_finish b t (c.Throw x) is fs none q j gs h g = finish_of t gs q (Throw x) (no_frames cells ds (subst (λ z. FramesStand cells ds j (frames_of b z) gs) none g)) (throw_is cells ds h) refl

  ret_local : (t : ℕ) (q x : named.Part) (n : ℕ) (gs : List named.Frame) → suc n ≡ length gs → q ≡ x → ((g : named.Frame) (hs : List named.Frame) → own_entry t x (g ∷ hs) ≡ entry.Local t 1) → own_entry t q gs ≡ entry.Local t 1
  ret_local t q x n [] e s h = absurd (omega (arith, e))
  ret_local t q x n (g ∷ gs) e s h = ap (λ z. own_entry t z (g ∷ gs)) s ∙ h g gs

  pub own_local : (b : CodeBody) (t : ℕ) (k : Control) (fs : List Frame) → MeetsOne k fs → (q : named.Part) (j : Sort) (gs : List named.Frame) → PartStands cells ds (part_of b k) q j → FramesStand cells ds j (frames_of b fs) gs → own_entry t q gs ≡ entry.Local t 1
  own_local b t (c.Doing i vs) fs is q j gs h g = absurd is
  own_local b t (c.Op p) fs is q j gs h g = absurd is
  own_local b t (c.Ret v) [] is q j gs h g = absurd is
  own_local b t (c.Ret v) (f ∷ fs) is q j gs h g = ret_local t q _ (length (frames_of b fs)) gs (as_many cells ds g) (ret_is cells ds h) (λ x xs. refl)
  own_local b t (c.Throw x) [] is q j gs h g = absurd is
  own_local b t (c.Throw x) (f ∷ fs) is q j gs h g = ret_local t q (Throw x) (length (frames_of b fs)) gs (as_many cells ds g) (throw_is cells ds h) (λ y ys. refl)
