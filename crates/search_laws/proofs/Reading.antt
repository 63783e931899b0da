-- What reads the clock, and what is legal in a state and in what a search keeps of it.
use Rattle.std.proofs.Common.{◌≡◌, ℕ, true, false, cond, List, [], ◌∷◌, Some, None, slice_get, refl, ap, ◌∙◌, subst, ◌⊎◌, inl, inr, ⊎_elim}
use Rattle.hs_base.specs.declared.clock_choice.ClockChoice.{ClockChoice}
use Rattle.hs_base.specs.declared.clock_choice.ClockChoice.TheVariants.{Real, Virtual}
use Rattle.hs_base.specs.declared.mask.Mask.{Mask}
use Rattle.hs_base.specs.declared.mask.Mask.TheVariants.{Unmasked}
use Rattle.hs_rules.specs.declared.entry.Entry.{Entry}
use Rattle.hs_rules.specs.declared.entry.Entry.TheVariants as entry
use Rattle.rules_meaning.specs.Values.{V}
use Rattle.rules_expansion.specs.declared.primitive.Primitive.{Primitive}
use Rattle.rules_expansion.specs.declared.primitive.Primitive.TheVariants.{ClockMicros}
use Rattle.rules_code.specs.CodeTrees.{SlottedFunction}
use Rattle.hs_rules.specs.Endings.{IsTick}
use Rattle.outcome_laws.specs.timing.WithoutTime.{is_clock_reading}
use Rattle.slot_laws.specs.SlotRules.{calls, forks, forks_unmask, SlotPart, performs, SlotFrame, mask_from}
use Rattle.slot_states.specs.SlotStates.{SlotThread, SlotState}
use Rattle.slot_states.specs.entering.Operating.{performed}
use Rattle.slot_states.specs.entering.Entering.{next, on_thread, operates, op_entry}
use Rattle.slot_states.proofs.entering_lemmas.Passing.{passed_not, thread_there, thread_leaves}
use Rattle.search_laws.specs.time.WithoutTime.{untimed, ReadsClock, part_reads_clock, thread_reads_clock}
use Rattle.search_laws.specs.Shown.{forget}
use Rattle.search_laws.proofs.Cited.{forth}

-- ---- what reads the clock is legal at any time

primitive_any : (t : ℕ) (m : Mask) (q : Primitive) (vs : List V) (x z y : SlotState) → is_clock_reading q ≡ true → performed t m q vs x ≡ Some y → (w : SlotState) × (performed t m q vs z ≡ Some w)
primitive_any t m ClockMicros [] x z y h e = (_, refl)
primitive_any t m ClockMicros (v ∷ vs) x z y h e = absurd (cc e)
primitive_any t m _ vs x z y h e = absurd (cc h)

part_any : (t : ℕ) (fs : List SlotFrame) (p : SlotPart) (x z y : SlotState) → part_reads_clock p ≡ true → operates t fs p x ≡ Some y → (w : SlotState) × (operates t fs p z ≡ Some w)
part_any t fs (performs (calls q vs)) x z y h e = primitive_any t (mask_from Unmasked fs) q vs x z y h e
part_any t fs (performs (forks tree vs)) x z y h e = absurd (cc h)
part_any t fs (performs (forks_unmask tree vs)) x z y h e = absurd (cc h)
part_any t fs _ x z y h e = absurd (cc e)

-- of a thread that is there, in states with the same threads
reading_any : (funs : List SlottedFunction) (t : ℕ) (x z y : SlotState) → z.threads ≡ x.threads → thread_reads_clock (slice_get x.threads t) ≡ true → next funs x (entry.Op t) ≡ Some y → (w : SlotState) × (next funs z (entry.Op t) ≡ Some w)
reading_any funs t x z y same h e =
    let m = thread_there (slice_get x.threads 0) (λ th. on_thread (slice_get x.threads t) (λ u. op_entry t u x)) y e in
    let k = thread_there (slice_get x.threads t) (λ u. op_entry t u x) y m.3 in
    let free = passed_not k.0.blocked _ y k.3 in
    let w = part_any t k.0.term.frames k.0.term.part x z y (subst (λ o. thread_reads_clock o ≡ true) k.1 h) free.1 in (
      w.0,
      thread_leaves (slice_get z.threads 0) (λ th. on_thread (slice_get z.threads t) (λ u. op_entry t u z)) m.0 (Some w.0) (ap (λ (ths : List SlotThread). slice_get ths 0) same ∙ m.1) m.2
          (thread_leaves (slice_get z.threads t) (λ u. op_entry t u z) k.0 (Some w.0) (ap (λ (ths : List SlotThread). slice_get ths t) same ∙ k.1) k.2
          (ap (λ b. cond b None (operates t k.0.term.frames k.0.term.part z)) free.0 ∙ w.1)),
    )

pub reads_any : (funs : List SlottedFunction) (x z y : SlotState) (e : Entry) → z.threads ≡ x.threads → ReadsClock x e → next funs x e ≡ Some y → (w : SlotState) × (next funs z e ≡ Some w)
reads_any funs x z y (entry.Op t) same h e = reading_any funs t x z y same h e
reads_any funs x z y _ same h e = absurd h

pub reads_or : (x : SlotState) (e : Entry) → ReadsClock x e ⊎ ¬ ReadsClock x e
reads_or x (entry.Op t) = elim (thread_reads_clock (slice_get x.threads t)) as (λ b. (b ≡ true) ⊎ ¬ (b ≡ true)) [ true ↦ inl refl | false ↦ inr (λ h. cc h) ]
reads_or x _ = inr (λ h. h)

-- an entry other than a Tick that has a next state has one without time, in whatever timing
pub next_forgotten : (clock : ClockChoice) (funs : List SlottedFunction) (x y : SlotState) (e : Entry) → next funs x e ≡ Some y → ¬ IsTick e → (z : SlotState) × (next funs (forget clock x) e ≡ Some z)
next_forgotten Virtual funs x y e h plain = (y, h)
next_forgotten Real funs x y e h plain = ⊎_elim (λ r. reads_any funs x (untimed x) y e refl r h) (λ r. let k = forth funs x y e h plain r in (k.0, k.1)) (reads_or x e)
