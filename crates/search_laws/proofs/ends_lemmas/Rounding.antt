-- No round is of Ticks alone: each goes on to a later time.
use Rattle.std.proofs.Common.{◌≡◌, ◌⊎◌, ◌≤◌, ◌<◌, ◌+◌, ℕ, zero, suc, nat_le, Bool, true, false, cond, List, [], ◌∷◌, length, Option, Some, None, slice_get, refl, sym, ap, ◌∙◌, subst, arith, inl, inr, ⊎_elim, eq-eqb}
use Rattle.std.proofs.lemmas.Option.{same_Some}
use Rattle.std.proofs.lemmas.Bool.{leb-false}
use Rattle.hs_base.specs.declared.clock_choice.ClockChoice.{ClockChoice}
use Rattle.hs_base.specs.declared.limits.Limits.{Limits}
use Rattle.hs_rules.specs.declared.entry.Entry.{Entry}
use Rattle.hs_rules.specs.declared.entry.Entry.TheVariants as entry
use Rattle.hs_rules.specs.Endings.{IsTick}
use Rattle.rules_code.specs.CodeTrees.{SlottedFunction}
use Rattle.rules_waiting.specs.Waiting.{Sleeper, earliest}
use Rattle.exn_flight.specs.Asleep.{due_of}
use Rattle.slot_states.specs.SlotStates.{SlotThread, SlotState, wakes, ticks}
use Rattle.slot_states.specs.entering.Entering.{woken, entered, next}
use Rattle.slot_states.proofs.entering_lemmas.Passing.{passed, thread_there, thread_leaves}
use Rattle.search_laws.specs.Shown.{forget, Shown}
use Rattle.search_laws.specs.Going.{EagerEntries, IsStill, Takes}
use Rattle.search_laws.specs.Found.{Edge, AreTrueEdges}
use Rattle.search_laws.specs.ends.Rounds.{LeadOn, IsRound, HasWork}
use Rattle.search_laws.proofs.ends_lemmas.Going.{worth, work}

ticks_alone : (e : Entry) → worth e ≡ 0 → (at : ℕ) × (e ≡ entry.Tick at)
ticks_alone (entry.Tick at) h = (at, refl)
ticks_alone _ h = absurd (cc h)

tick_or_not : (e : Entry) → (worth e ≡ 0) ⊎ (¬ IsTick e)
tick_or_not (entry.Tick at) = inl refl
tick_or_not _ = inr (λ h. h)

-- where there is work on a way, an edge isn't a Tick
pub has_work : (edges : List Edge) (i : ℕ) (places : List ℕ) (j : ℕ) (h : LeadOn edges i places j) → 0 < work edges i places j h → HasWork edges places
has_work edges i [] j h w = absurd (omega arith)
has_work edges i (p ∷ ps) j h w =
    ⊎_elim
    (λ none. let k = has_work edges h.0.to ps j h.3 (omega (arith, none, w)) in (suc k.0, k.1, k.2, k.3, k.4, k.5))
    (λ plain. (0, p, h.0, refl, h.1, plain))
    (tick_or_not h.0.entry)

module _ (funs : List SlottedFunction) where
  -- the first sleeper isn't due where nothing but a Tick can be entered
  none_due : (x : SlotState) (main : SlotThread) → slice_get x.threads 0 ≡ Some main → main.finished ≡ false → IsStill funs x → (at : ℕ) (ss : List Sleeper) → x.sleepers ≡ ss → earliest ss ≡ Some at → (b : Bool) → nat_le at x.clock ≡ b → x.clock < at
  none_due x main is f still at [] e h b n = absurd (cc h)
  none_due x main is f still at (r ∷ rs) e h false n = leb-false at x.clock n
  none_due x main is f still at (r ∷ rs) e h true n =
      let due : due_of r.thread x.sleepers ≡ Some at = ap (due_of r.thread) e ∙ (ap (λ b. cond b (Some r.due) (due_of r.thread rs)) (eq-eqb r.thread r.thread refl) ∙ h) in
      let wakes_is : next funs x (entry.Wake r.thread) ≡ Some (wakes r.thread x) =
      thread_leaves (slice_get x.threads 0) (λ m. entered funs x (entry.Wake r.thread)) main (Some (wakes r.thread x)) is f
      (ap (λ o. woken r.thread o x) due ∙ ap (λ b. cond b (Some (wakes r.thread x)) None) n) in
      let z : ◌≡◌ {A = Option SlotState} None (Some (wakes r.thread x)) = sym (still (entry.Wake r.thread) (λ q. q)) ∙ wakes_is in absurd (cc z)

  same_clock : (most : ℕ) (es : List Entry) (x y : SlotState) → EagerEntries funs most es x y → y.clock ≡ x.clock
  same_clock most [] x y h = ap (λ (z : SlotState). z.clock) (sym h)
  same_clock most (e ∷ es) x y (m, move, is, few, h) = same_clock most es m y h ∙ ap (λ (z : SlotState). z.clock) move.moved

  module _ (clock : ClockChoice) (limits : Limits) where
    tick_later : (c d : Shown) (at : ℕ) (ls : List Entry) → Takes clock funs limits c (entry.Tick at) ls d → c.slots.clock < d.slots.clock
    tick_later c d at ls t =
        let m = thread_there (slice_get c.slots.threads 0) (λ main. entered funs c.slots (entry.Tick at)) t.left t.enters.leaves in
        let p = passed (nat_le c.slots.clock at) (Some (ticks at c.slots)) t.left m.3 in
        let lt = none_due c.slots m.0 m.1 m.2 t.enters.may.1 at c.slots.sleepers refl t.enters.may.2 (nat_le at c.slots.clock) refl in
        let same : (forget clock t.left).clock ≡ at = ap (λ k. (forget k t.left).clock) t.enters.may.0 ∙ ap (λ (z : SlotState). z.clock) (sym (same_Some (ticks at c.slots) t.left p.1)) in
        subst (λ n. c.slots.clock < n) (sym (same_clock limits.frames ls (forget clock t.left) d.slots t.rests ∙ same)) lt

    module _ (states : List Shown) (edges : List Edge) (true_edges : AreTrueEdges clock funs limits states edges) where
      way_later : (i : ℕ) (places : List ℕ) (j : ℕ) (h : LeadOn edges i places j) → work edges i places j h ≡ 0 → (c d : Shown) → slice_get states i ≡ Some c → slice_get states j ≡ Some d → c.slots.clock + length places ≤ d.slots.clock
      way_later i [] j h w c d f g =
          let same : c ≡ d = same_Some c d (sym f ∙ (ap (slice_get states) h ∙ g)) in
          subst (λ (q : Shown). c.slots.clock + 0 ≤ q.slots.clock) same (omega arith)
      way_later i (p ∷ ps) j h w c d f g =
          let t = true_edges p h.0 h.1 in
          let same : t.state ≡ c = same_Some t.state c (sym t.is ∙ (ap (slice_get states) h.2 ∙ f)) in
          let at = ticks_alone h.0.entry (omega (arith, w)) in
          let lt = tick_later c t.other at.0 t.locals (subst (λ q. Takes clock funs limits q (entry.Tick at.0) t.locals t.other) same (subst (λ q. Takes clock funs limits t.state q t.locals t.other) at.1 t.takes)) in
          let le = way_later h.0.to ps j h.3 (omega (arith, w)) t.other d t.there g in
          omega (arith, lt, le)

      pub round_works : (at : ℕ) (places : List ℕ) (h : IsRound edges at places) → 0 < work edges at places at h.1
      round_works at [] h = absurd (omega (arith, h.0))
      round_works at (p ∷ ps) h = by (work edges at (p ∷ ps) at h.1) refl
        where
          by : (n : ℕ) → work edges at (p ∷ ps) at h.1 ≡ n → 0 < work edges at (p ∷ ps) at h.1
          by (suc n) e = omega (arith, e)
          by zero e =
              let t = true_edges p h.1.0 h.1.1 in
              let is : slice_get states at ≡ Some t.state = ap (slice_get states) (sym h.1.2) ∙ t.is in
              let le = way_later at (p ∷ ps) at h.1 e t.state t.state is is in
              absurd (omega (arith, le))
