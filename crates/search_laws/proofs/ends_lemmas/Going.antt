-- Runs of a timing go along the edges of a search, as often as wanted.
use Rattle.std.proofs.Common.{◌≡◌, ◌≤◌, ◌<◌, ◌+◌, ℕ, zero, suc, List, [], ◌∷◌, ◌++◌, length, Some, slice_get, refl, sym, ap, ◌∙◌, subst, arith, ⊎_elim}
use Rattle.std.proofs.lemmas.Option.{same_Some}
use Rattle.hs_base.specs.declared.clock_choice.ClockChoice.{ClockChoice}
use Rattle.hs_base.specs.declared.clock_choice.ClockChoice.TheVariants.{Real, Virtual}
use Rattle.hs_base.specs.declared.limits.Limits.{Limits}
use Rattle.hs_base.specs.declared.tree.script.Script.{Script}
use Rattle.hs_rules.specs.declared.entry.Entry.{Entry}
use Rattle.hs_rules.specs.declared.entry.Entry.TheVariants as entry
use Rattle.rules_expansion.specs.trees.Programs.{Fn, script_of}
use Rattle.rules_meaning.specs.CoreMeaning.{Code, code_of}
use Rattle.rules_typing.specs.TypingScripts.{Accepted}
use Rattle.rules_code.specs.CodeTrees.{SlottedFunction, code_trees}
use Rattle.hs_rules.specs.State.{State}
use Rattle.hs_rules.specs.Runs.{first_of, IsRun}
use Rattle.outcome_laws.specs.timing.WithoutTime.{without_ticks}
use Rattle.outcome_laws.specs.Timings.{MayTick, TickFits, TimedRun, RunsPast, IsEndless}
use Rattle.outcome_laws.proofs.Timed.{timed_join, run_of_timed}
use Rattle.outcome_laws.proofs.Going.{count_more}
use Rattle.slot_states.specs.SlotStates.{SlotState, Represents}
use Rattle.slot_states.specs.entering.Entering.{next}
use Rattle.search_laws.specs.rests.Rests.{EagerMoves}
use Rattle.search_laws.specs.Shown.{forget, Shown, Arrives}
use Rattle.search_laws.specs.Going.{Leaves, Takes}
use Rattle.search_laws.specs.Found.{Edge, AreTrueEdges}
use Rattle.search_laws.proofs.Cited.{entered, reads, back, ticked, move_enters}
use Rattle.search_laws.proofs.Walking.{taken_fits, no_tick}
use Rattle.search_laws.proofs.Following.{exactly, moves_of}
use Rattle.search_laws.specs.ends.Rounds.{LeadOn}

-- how many entries other than Ticks an entry is
abbrev pub worth : Entry → ℕ
worth e = length (without_ticks (e ∷ []))

-- and those of the edges on a way
abbrev pub work : (edges : List Edge) (i : ℕ) (places : List ℕ) (j : ℕ) → LeadOn edges i places j → ℕ
work edges i [] j h = 0
work edges i (p ∷ ps) j h = worth h.0.entry + work edges h.0.to ps j h.3

worth_last : (es : List Entry) (e : Entry) → length (without_ticks (es ++ e ∷ [])) ≡ length (without_ticks es) + worth e
worth_last [] e = omega arith
worth_last (x ∷ xs) e = omega (arith, count_more x (xs ++ e ∷ []), count_more x xs, worth_last xs e)

module _ (script : Script) (accepted : Accepted script) (limits : Limits) where
  abbrev ds : List Fn
  ds = script_of script

  abbrev code : Code
  code = code_of ds

  abbrev funs : List SlottedFunction
  funs = code_trees ds

  module _ (clock : ClockChoice) (begin : State) (begins : first_of ds ≡ Some begin) where
    -- a run of the timing with at least so many entries other than Ticks leaves a state for which this one stands
    pub record On (m : ℕ) (x : SlotState) : Type 0 where
      pub entries : List Entry
      pub state : State
      pub run : TimedRun clock code begin entries state
      pub many : m ≤ length (without_ticks entries)
      pub represents : Represents ds x state

    fewer : (m n : ℕ) (x : SlotState) → m ≤ n → On n x → On m x
    fewer m n x le a = record { entries = a.entries; state = a.state; run = a.run; many = omega (arith, le, a.many); represents = a.represents }

    is_run : (m : ℕ) (x : SlotState) (a : On m x) → IsRun ds a.entries a.state
    is_run m x a = (begin, begins, run_of_timed code (MayTick clock code) a.entries begin a.state a.run)

    -- one more entry
    one_on : (m : ℕ) (x y : SlotState) (e : Entry) → next funs x e ≡ Some y → (a : On m x) → TickFits (MayTick clock code) a.state e → On (m + worth e) y
    one_on m x y e is a fits =
        let k = entered script accepted x y e is a.entries a.state (is_run m x a) a.represents in
        record {
          entries = a.entries ++ e ∷ [];
          state = k.0;
          run = timed_join code (MayTick clock code) a.entries (e ∷ []) begin a.state k.0 a.run (k.0, k.1, fits, refl);
          many = omega (arith, worth_last a.entries e, a.many);
          represents = k.2;
        }

    -- eager local rules
    rest_on : (k m : ℕ) (x y : SlotState) → EagerMoves funs k x y → On m x → On m y
    rest_on zero m x y h a = subst (On m) h a
    rest_on (suc k) m x y h a = rest_on k m h.0 y h.2 (fewer m (m + 1) h.0 (omega arith) (one_on m x h.0 (entry.Local h.1.number 1) (move_enters funs x h.0 h.1) a tt))

  -- ---- an entry that is taken

  -- a state that is kept so, and a run that leaves one for which it stands
  abbrev pub Exactly : ClockChoice → (begin : State) → first_of ds ≡ Some begin → ℕ → SlotState → Type 0
  Exactly clock begin begins m z = (x : SlotState) × (forget clock x ≡ z) × On clock begin begins m x

  module _ (begin : State) (begins : first_of ds ≡ Some begin) where
    -- with its Tick in real timing
    entry_on : (clock : ClockChoice) (m : ℕ) (x z : SlotState) (e : Entry) → Leaves clock funs (forget clock x) e z → On clock begin begins m x → Exactly clock begin begins (m + worth e) (forget clock z)
    entry_on Virtual m x z e l a = (z, refl, one_on Virtual begin begins m x z e l.leaves a (taken_fits Virtual script accepted limits Virtual a.entries a.state (is_run Virtual begin begins m x a) x a.represents e l.may))
    entry_on Real m x z e l a =
        let plain = no_tick funs (forget Real x) e l.may in
        let k = back funs x z e l.leaves plain (λ q. l.timeless ((reads x e).1 q)) in
        ⊎_elim
        (λ same. (k.0, k.2, one_on Real begin begins m x k.0 e (subst (λ q. next funs q e ≡ Some k.0) same k.1) a (taken_fits Real script accepted limits Real a.entries a.state (is_run Real begin begins m x a) x a.represents e l.may)))
        (λ d.
        let b = one_on Real begin begins m x _ (entry.Tick d.1) d.4 a tt in
        (k.0, k.2, fewer Real begin begins (m + worth e) ((m + 0) + worth e) k.0 (omega arith) (one_on Real begin begins (m + 0) _ k.0 e k.1 b (subst (TickFits (MayTick Real code) b.state) (sym d.2) tt))))
        (ticked funs x z e l.leaves)

    module _ (clock : ClockChoice) where
      abbrev Goes : ℕ → SlotState → Type 0
      Goes = Exactly clock begin begins

      pub edge_on : (m : ℕ) (c : Shown) (e : Entry) (ls : List Entry) (d : Shown) → Takes clock funs limits c e ls d → Goes m c.slots → Goes (m + worth e) d.slots
      edge_on m c e ls d t a =
          let l = subst (λ q. Leaves clock funs q e t.left) (sym a.1) t.enters in
          let b = entry_on clock m a.0 t.left e l a.2 in
          let ms = subst (λ q. EagerMoves funs (length ls) q d.slots) (sym b.1) (moves_of funs limits.frames ls (forget clock t.left) d.slots t.rests) in
          let w = exactly funs clock (length ls) b.0 d.slots ms in
          (w.0, w.2, rest_on clock begin begins (length ls) (m + worth e) b.0 w.0 w.1 b.2)

      module _ (states : List Shown) (edges : List Edge) (true_edges : AreTrueEdges clock funs limits states edges) where
        -- where a way leads from one state, a run goes along it to the other
        pub way_on : (m i j : ℕ) (places : List ℕ) (h : LeadOn edges i places j) (c d : Shown) → slice_get states i ≡ Some c → slice_get states j ≡ Some d → Goes m c.slots → Goes (m + work edges i places j h) d.slots
        way_on m i j [] h c d f g a =
            let same : c ≡ d = same_Some c d (sym f ∙ (ap (slice_get states) h ∙ g)) in
            subst (λ q. Goes (m + 0) q.slots) same (subst (λ n. Goes n c.slots) (omega arith) a)
        way_on m i j (p ∷ ps) h c d f g a =
            let t = true_edges p h.0 h.1 in
            let same : t.state ≡ c = same_Some t.state c (sym t.is ∙ (ap (slice_get states) h.2 ∙ f)) in
            let b = edge_on m c h.0.entry t.locals t.other (subst (λ q. Takes clock funs limits q h.0.entry t.locals t.other) same t.takes) a in
            subst (λ n. Goes n d.slots) (omega arith) (way_on (m + worth h.0.entry) h.0.to j ps h.3 t.other d t.there g b)

        module _ (at : ℕ) (places : List ℕ) (h : LeadOn edges at places at) (works : 0 < work edges at places at h) (c : Shown) (is : slice_get states at ≡ Some c) where
          -- so many times round
          rounds_on : (n m : ℕ) → Goes m c.slots → Goes (m + n) c.slots
          rounds_on zero m a = subst (λ k. Goes k c.slots) (omega arith) a
          rounds_on (suc n) m a =
              let b = way_on m at at places h c c is is a in
              let d = rounds_on n (m + 1) (b.0, b.1, fewer clock begin begins (m + 1) (m + work edges at places at h) b.0 (omega (arith, works)) b.2) in
              subst (λ k. Goes k c.slots) (omega arith) d

          pub runs_past : Goes 0 c.slots → (n : ℕ) → RunsPast clock code begin n
          runs_past a n = let b = rounds_on (suc n) 0 a in (b.2.entries, b.2.state, b.2.run, omega (arith, b.2.many))

  pub goes_for_ever : (clock : ClockChoice) (states : List Shown) (edges : List Edge) → AreTrueEdges clock funs limits states edges → (at : ℕ) (places : List ℕ) (h : LeadOn edges at places at) → 0 < work edges at places at h →
      (c : Shown) → slice_get states at ≡ Some c → (steps : ℕ) → Arrives clock ds limits steps c → IsEndless clock ds
  goes_for_ever clock states edges true_edges at places h works c is steps a =
      let start : On clock a.begin a.begins 0 a.stands.exact = record { entries = a.entries; state = a.state; run = a.run; many = omega arith; represents = a.stands.represents } in
      (a.begin, a.begins, runs_past a.begin a.begins clock states edges true_edges at places h works c is (a.stands.exact, a.stands.forgotten, start))
