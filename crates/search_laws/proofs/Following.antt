-- Each entry that is taken follows an edge of a search that has gone on from each of its states.
use Rattle.std.proofs.Common.{◌≡◌, ◌⊎◌, ℕ, List, [], ◌∷◌, ◌++◌, length, Some, slice_get, refl, sym, ap, ◌∙◌, subst, inl, inr, append-nil}
use Rattle.std.proofs.lemmas.Option.{same_Some}
use Rattle.hs_base.specs.declared.clock_choice.ClockChoice.{ClockChoice}
use Rattle.hs_base.specs.declared.clock_choice.ClockChoice.TheVariants.{Real, Virtual}
use Rattle.hs_base.specs.declared.limits.Limits.{Limits}
use Rattle.hs_base.specs.declared.tree.script.Script.{Script}
use Rattle.hs_rules.specs.declared.entry.Entry.{Entry}
use Rattle.hs_rules.specs.declared.entry.Entry.TheVariants as entry
use Rattle.rules_expansion.specs.trees.Programs.{Fn, script_of}
use Rattle.rules_meaning.specs.CoreMeaning.{Code, code_of}
use Rattle.rules_typing.specs.TypingScripts.{Accepted}
use Rattle.rules_code.specs.CodeTrees.{SlottedFunction, code_trees}
use Rattle.hs_rules.specs.State.{State}
use Rattle.hs_rules.specs.Entries.{Leads}
use Rattle.hs_rules.specs.Endings.{IsTick, IsQuiet}
use Rattle.hs_rules.specs.Runs.{IsRun}
use Rattle.hs_laws.proofs.RunParts.{run_more}
use Rattle.outcome_laws.specs.Timings.{MayTick}
use Rattle.outcome_laws.specs.reduction.EagerRules.{EagerSteps}
use Rattle.outcome_laws.specs.reduction.Paths.{IsTaken}
use Rattle.slot_states.specs.SlotStates.{SlotState, ticks, Represents}
use Rattle.slot_states.specs.Printing.{output_by, errors_by}
use Rattle.slot_states.proofs.Settled.{same_due}
use Rattle.slot_states.proofs.Printed.{nothing_yet, run_prints, next_adds}
use Rattle.slot_states.specs.entering.Entering.{entered, next}
use Rattle.slot_states.proofs.entering_lemmas.Passing.{passed, thread_there, none_or}
use Rattle.search_laws.specs.time.WithoutTime.{untimed}
use Rattle.search_laws.specs.rests.Rests.{EagerMoves}
use Rattle.search_laws.proofs.rests_lemmas.Untimed.{timed_moves}
use Rattle.search_laws.specs.Shown.{forget, Shown, StandsAs, IsFirst}
use Rattle.search_laws.specs.Going.{EagerEntries, IsStill, ReadsTime, MayTake, Takes}
use Rattle.search_laws.specs.Found.{Edge, AreTrueEdges, AreGone}
use Rattle.search_laws.proofs.Cited as cited
use Rattle.search_laws.proofs.Reading.{next_forgotten}
use Rattle.search_laws.proofs.Cited.{legal, reads, same_output, same_errors, forth, steps}

module _ (funs : List SlottedFunction) where
  -- ---- what a search keeps of it

  kept_too : (clock : ClockChoice) (x y : SlotState) (e : Entry) → next funs x e ≡ Some y → (clock ≡ Real → ¬ IsTick e) → (z : SlotState) × (next funs (forget clock x) e ≡ Some z)
  kept_too Real x y e h plain = next_forgotten Real funs x y e h (plain refl)
  kept_too Virtual x y e h plain = (y, h)

  -- and where no clock is read the two are the same but for time
  same_left : (clock : ClockChoice) (x y z : SlotState) (e : Entry) → next funs x e ≡ Some y → next funs (forget clock x) e ≡ Some z → (clock ≡ Real → ¬ IsTick e) → ¬ ReadsTime clock (forget clock x) e → forget clock z ≡ forget clock y
  same_left Real x y z e h g plain n =
      let f = forth funs x y e h (plain refl) (λ r. n ((reads x e).1 r)) in
      ap untimed (same_Some z f.0 (sym g ∙ f.1)) ∙ f.2
  same_left Virtual x y z e h g plain n = same_Some z y (sym g ∙ h)

  -- eager local rules without time are some with it
  pub exactly : (clock : ClockChoice) (k : ℕ) (y z : SlotState) → EagerMoves funs k (forget clock y) z → (w : SlotState) × EagerMoves funs k y w × (forget clock w ≡ z)
  exactly Real k y z h = timed_moves funs k y z h
  exactly Virtual k y z h = (z, h, refl)

  pub moves_of : (most : ℕ) (es : List Entry) (x y : SlotState) → EagerEntries funs most es x y → EagerMoves funs (length es) x y
  moves_of most [] x y h = h
  moves_of most (e ∷ es) x y (m, move, is, few, h) = (m, move, moves_of most es m y h)

kept_output : (clock : ClockChoice) (x : SlotState) (e : Entry) → output_by (forget clock x) e ≡ output_by x e
kept_output Real x e = same_output x e
kept_output Virtual x e = refl

kept_errors : (clock : ClockChoice) (x : SlotState) (e : Entry) → errors_by (forget clock x) e ≡ errors_by x e
kept_errors Real x e = same_errors x e
kept_errors Virtual x e = refl

-- a Tick of real timing, or another entry
pub tick_or : (clock : ClockChoice) (e : Entry) → ((clock ≡ Real) × (at : ℕ) × (e ≡ entry.Tick at)) ⊎ (clock ≡ Real → ¬ IsTick e)
tick_or Real (entry.Tick at) = inl (refl, at, refl)
tick_or Virtual e = inr (λ r. let z : Virtual ≡ Real = r in absurd (cc z))
tick_or Real _ = inr (λ r h. h)

-- ---- edges

-- a run leaves this state, for which one of the search stands
pub record Visited (clock : ClockChoice) (ds : List Fn) (states : List Shown) (s : State) : Type 0 where
  pub number : ℕ
  pub shown : Shown
  pub is : slice_get states number ≡ Some shown
  pub entries : List Entry
  pub run : IsRun ds entries s
  pub stands : StandsAs clock ds shown s

-- an edge of the search from the state of this number, and eager steps from u to a state for which the one stands to which it leads
pub record Follows (clock : ClockChoice) (ds : List Fn) (states : List Shown) (edges : List Edge) (i : ℕ) (u : State) : Type 0 where
  pub place : ℕ
  pub edge : Edge
  pub is : slice_get edges place ≡ Some edge
  pub from : edge.from ≡ i
  pub state : State
  pub eager : EagerSteps (code_of ds) edge.eager u state
  pub visited : Visited clock ds states state
  pub to : visited.number ≡ edge.to

module _ (script : Script) (accepted : Accepted script) where
  abbrev ds : List Fn
  ds = script_of script

  abbrev code : Code
  code = code_of ds

  abbrev funs : List SlottedFunction
  funs = code_trees ds

  -- ---- which entries may be taken

  module _ (es : List Entry) (s : State) (run : IsRun ds es s) (x : SlotState) (r : Represents ds x s) where
    quiet_still : IsQuiet code s → IsStill funs x
    quiet_still quiet e plain = none_or (next funs x e) (λ y h. let k = cited.entered script accepted x y e h es s run r in quiet e plain (k.0, k.1))

    tick_may : (clock : ClockChoice) (at : ℕ) → MayTick clock code s at → (clock ≡ Real → ⊥) → MayTake clock funs (forget clock x) (entry.Tick at)
    tick_may Real at m plain = absurd (plain refl)
    tick_may Virtual at m plain = (refl, quiet_still m.0, sym (same_due ds x s r) ∙ m.1)

    may_take : (clock : ClockChoice) (e : Entry) → IsTaken (MayTick clock code) s e → (clock ≡ Real → ¬ IsTick e) → MayTake clock funs (forget clock x) e
    may_take clock (entry.Tick at) t plain = tick_may clock at t (λ q. plain q tt)
    may_take clock (entry.Local i k) t plain = t
    may_take clock _ t plain = tt

  module _ (clock : ClockChoice) (limits : Limits) where
    -- ---- eager local rules

    -- eager steps lead from u to a state of a run for which d stands
    abbrev pub Rests : ℕ → State → Shown → Type 0
    Rests k u d = (r : State) × EagerSteps code k u r × (gs : List Entry) × IsRun ds gs r × StandsAs clock ds d r

    pub rested : (es : List Entry) (u : State) → IsRun ds es u → (y z : SlotState) → Represents ds y u → forget clock z ≡ forget clock y → (ls : List Entry) (d : Shown) → EagerEntries funs limits.frames ls (forget clock z) d.slots → u.output ≡ d.output → u.errors ≡ d.errors → Rests (length ls) u d
    rested es u run y z r same ls d h o f =
        let ms = subst (λ q. EagerMoves funs (length ls) q d.slots) same (moves_of funs limits.frames ls (forget clock z) d.slots h) in
        let w = exactly funs clock (length ls) y d.slots ms in
        let n = steps script accepted es u run y r (length ls) w.0 w.1 in
        (n.0, n.1, es ++ n.3, n.5, record { exact = w.0; represents = n.2; forgotten = w.2; output = n.6 ∙ o; errors = n.7 ∙ f })

    -- ---- one entry

    module _ (es : List Entry) (s : State) (run : IsRun ds es s) (c : Shown) (a : StandsAs clock ds c s) (e : Entry) (u : State) (l : Leads code s e u) (plain : clock ≡ Real → ¬ IsTick e) where
      after_it : IsRun ds (es ++ e ∷ []) u
      after_it = run_more ds es e s u run l

      exact_next : (y : SlotState) × (next funs a.exact e ≡ Some y) × Represents ds y u
      exact_next = legal script accepted es s u run a.exact a.represents e l

      -- the state that is kept has a next one
      kept_next : (z : SlotState) × (next funs c.slots e ≡ Some z)
      kept_next =
          let z = kept_too funs clock a.exact exact_next.0 e exact_next.1 plain in
          (z.0, subst (λ q. next funs q e ≡ Some z.0) a.forgotten z.1)

      -- and where the search goes by the entry, it comes to what stands for where the rules go
      pub goes_along : (ls : List Entry) (d : Shown) → Takes clock funs limits c e ls d → Rests (length ls) u d
      goes_along ls d k =
          let y = exact_next in
          let is : next funs (forget clock a.exact) e ≡ Some k.left = subst (λ q. next funs q e ≡ Some k.left) (sym a.forgotten) k.enters.leaves in
          let reads_not : ¬ ReadsTime clock (forget clock a.exact) e = λ q. k.enters.timeless (subst (λ v. ReadsTime clock v e) a.forgotten q) in
          let adds = next_adds ds a.exact s a.represents code u e l.0 in
          rested (es ++ e ∷ []) u after_it y.0 k.left y.2 (same_left funs clock a.exact y.0 k.left e y.1 is plain reads_not) ls d k.rests
          (adds.0 ∙ (ap (λ z. z ++ output_by a.exact e) a.output ∙ (ap (λ z. c.output ++ z) (sym (kept_output clock a.exact e) ∙ ap (λ q. output_by q e) a.forgotten) ∙ sym k.output)))
          (adds.1 ∙ (ap (λ z. z ++ errors_by a.exact e) a.errors ∙ (ap (λ z. c.errors ++ z) (sym (kept_errors clock a.exact e) ∙ ap (λ q. errors_by q e) a.forgotten) ∙ sym k.errors)))

      pub follow : (first : SlotState) (states : List Shown) (edges : List Edge) → AreGone clock funs limits first states edges → AreTrueEdges clock funs limits states edges → (i : ℕ) → slice_get states i ≡ Some c → IsTaken (MayTick clock code) s e → Follows clock ds states edges i u
      follow first states edges gone true_edges i is t =
          let may = subst (λ q. MayTake clock funs q e) a.forgotten (may_take es s run a.exact a.represents clock e t plain) in
          let led = gone.each i c is e may kept_next.0 kept_next.1 in
          let g = true_edges led.place led.edge led.is in
          let same : g.state ≡ c = same_Some g.state c (sym g.is ∙ (ap (slice_get states) led.from ∙ is)) in
          let k = goes_along g.locals g.other (subst (λ q. Takes clock funs limits q e g.locals g.other) same (subst (λ q. Takes clock funs limits g.state q g.locals g.other) led.entry g.takes)) in
          record {
            place = led.place;
            edge = led.edge;
            is = led.is;
            from = led.from;
            state = k.0;
            eager = subst (λ n. EagerSteps code n u k.0) g.many k.1;
            visited = record { number = led.edge.to; shown = g.other; is = g.there; entries = k.2; run = k.3; stands = k.4 };
            to = refl;
          }

  -- ---- a Tick of real timing

  pub tick_stays : (es : List Entry) (s : State) → IsRun ds es s → (c : Shown) → StandsAs Real ds c s → (at : ℕ) (u : State) → Leads code s (entry.Tick at) u → StandsAs Real ds c u
  tick_stays es s run c a at u l =
      let y = legal script accepted es s u run a.exact a.represents (entry.Tick at) l in
      let m = thread_there (slice_get a.exact.threads 0) (λ main. entered funs a.exact (entry.Tick at)) y.0 y.1 in
      let p = passed _ (Some (ticks at a.exact)) y.0 m.3 in
      let adds = next_adds ds a.exact s a.represents code u (entry.Tick at) l.0 in
      record {
        exact = y.0;
        represents = y.2;
        forgotten = ap untimed (sym (same_Some (ticks at a.exact) y.0 p.1)) ∙ a.forgotten;
        output = adds.0 ∙ (append-nil s.output ∙ a.output);
        errors = adds.1 ∙ (append-nil s.errors ∙ a.errors);
      }

  -- so the state of the search stays the same
  abbrev pub stays : (clock : ClockChoice) (states : List Shown) (s u : State) (v : Visited clock ds states s) (e : Entry) → Leads code s e u → (clock ≡ Real) × (at : ℕ) × (e ≡ entry.Tick at) → Visited clock ds states u
  stays clock states s u v e l k = record {
    number = v.number;
    shown = v.shown;
    is = v.is;
    entries = v.entries ++ e ∷ [];
    run = run_more ds v.entries e s u v.run l;
    stands = subst (λ c. StandsAs c ds v.shown u) (sym k.0) (tick_stays v.entries s v.run v.shown (subst (λ c. StandsAs c ds v.shown s) k.0 v.stands) k.1 u (subst (λ z. Leads code s z u) k.2 l));
  }

  -- ---- the begin

  -- eager steps lead from the first state to the first of a search
  abbrev pub begun : (clock : ClockChoice) (limits : Limits) (first : SlotState) (states : List Shown) (edges : List Edge) (is : IsFirst ds first) (gone : AreGone clock funs limits first states edges)
      → (r : State) × EagerSteps code (length gone.source.locals) is.0 r × Visited clock ds states r
  begun clock limits first states edges is gone =
      let p = run_prints ds [] is.0 is.1 in
      let q = nothing_yet ds in
      let k = rested clock limits [] is.0 is.1 first first is.2 refl gone.source.locals gone.begin gone.comes.rests (sym p.0 ∙ (q.0 ∙ sym gone.comes.output)) (sym p.1 ∙ (q.1 ∙ sym gone.comes.errors)) in
      (k.0, k.1, record { number = 0; shown = gone.begin; is = gone.is; entries = k.2; run = k.3; stands = k.4 })
