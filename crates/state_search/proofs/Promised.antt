-- What was found says what is promised of runs.
use Rattle.std.proofs.Common.{◌≡◌, ◌<◌, ℕ, zero, suc, List, [], ◌∷◌, length, map, Option, Some, None, slice_get, refl, sym, ap, ◌∙◌, subst, arith}
use Rattle.std.proofs.lemmas.Option.{same_Some}
use Rattle.plain_laws.proofs.Lists.{mapped_there}
use Rattle.hs_base.specs.declared.clock_choice.ClockChoice.{ClockChoice}
use Rattle.hs_base.specs.declared.limits.Limits.{Limits}
use Rattle.hs_base.specs.declared.tree.script.Script.{Script}
use Rattle.hs_rules.specs.declared.entry.Entry.{Entry}
use Rattle.hs_rules.specs.declared.entry.LimitKind.{LimitKind}
use Rattle.hs_rules.specs.declared.entry.LimitKind.TheVariants as limit
use Rattle.hs_rules.specs.State.{State}
use Rattle.hs_rules.specs.Endings.{allowed, FirstExceeded}
use Rattle.hs_rules.specs.Endings as endings
use Rattle.hs_rules.specs.Runs.{IsRun}
use Rattle.rules_expansion.specs.trees.Programs.{Fn, script_of}
use Rattle.rules_code.specs.declared.code.CodeBody.{CodeBody}
use Rattle.rules_code.specs.CodeTrees.{SlottedFunction, code_trees}
use Rattle.outcome_laws.specs.Outcomes as laws
use Rattle.outcome_laws.specs.Outcomes.{EndsBy, IsOutcomeOf}
use Rattle.outcome_listing.specs.declared.bounds.Bounds.{Bounds}
use Rattle.outcome_listing.specs.declared.explored.Cause.{Cause}
use Rattle.outcome_listing.specs.declared.explored.Cause.TheVariants as cause
use Rattle.slot_states.specs.SlotStates.{SlotState, Represents}
use Rattle.slot_states.specs.Resting.{used}
use Rattle.slot_states.proofs.AtRest.{first_stands_for}
use Rattle.slot_states.specs.entering.Entering.{next}
use Rattle.local_steps.specs.Machine.{funs_of}
use Rattle.number_states.specs.States.{first_slots}
use Rattle.search_laws.specs.Shown.{Shown, IsFirst, Arrives, Uses}
use Rattle.search_laws.specs.Going.{Leaves}
use Rattle.search_laws.specs.Found.{Source, Comes, HaveSources, AreTrueEdges, AreGone, HasKind, MayHaveKind, IsSeen}
use Rattle.search_laws.proofs.Candidates.{there_below}
use Rattle.search_laws.proofs.Walking.{is_run}
use Rattle.search_laws.proofs.Reached.{arrived, comes_arrive}
use Rattle.search_laws.proofs.HowTheyEnd.{main_right, ends_there}
use Rattle.search_laws.proofs.Gaps.{reading_legal, left_uses, first_uses}
use Rattle.search_laws.proofs.Complete.{seen}
use Rattle.state_search.specs.declared.found.Found.{Found}
use Rattle.state_search.specs.declared.found.Gap.{Gap}
use Rattle.state_search.specs.declared.found.Origin.{Origin}
use Rattle.state_search.specs.Meaning.{states_of, sources_of, edges_of, shown, kind_of, kinds_of, source_of, begun}
use Rattle.state_search.specs.Searching.{ExceedsFirst, MeetsBy, ReadsBy, HasCause, GapIs, Searched, IsClosed, IsCodeOf, AreReached, Shows, ShowsAll, ReadsHere, ShowsCause, ShowsGap}

-- ---- lists

there_mapped : {A B : Type 0} → (g : A → B) (xs : List A) (i : ℕ) (x : A) → slice_get xs i ≡ Some x → slice_get (map g xs) i ≡ Some (g x)
there_mapped g [] zero x e = absurd (cc e)
there_mapped g [] (suc i) x e = absurd (cc e)
there_mapped g (y ∷ xs) zero x e = ap Some (ap g (same_Some y x e))
there_mapped g (y ∷ xs) (suc i) x e = there_mapped g xs i x e

pub there_at : {A : Type 0} → (xs : List A) (n : ℕ) → n < length xs → (x : A) × (slice_get xs n ≡ Some x)
there_at [] n h = absurd (omega arith)
there_at (x ∷ xs) zero h = (x, refl)
there_at (x ∷ xs) (suc n) h = there_at xs n (omega arith)

-- ---- limits

-- a state of the rules that uses as much exceeds the same limit first
pub exceeds_so : (kind : LimitKind) (limits : Limits) (x : SlotState) (u : State) → ((k : LimitKind) → endings.used k u ≡ used k x) → ExceedsFirst kind limits x → FirstExceeded kind limits u
exceeds_so limit.Threads limits x u same h = subst (λ n. limits.threads < n) (sym (same limit.Threads)) h
exceeds_so limit.Cells limits x u same h = (λ q. h.0 (subst (λ n. limits.threads < n) (same limit.Threads) q), subst (λ n. limits.cells < n) (sym (same limit.Cells)) h.1)
exceeds_so limit.Frames limits x u same h =
    (λ q. h.0 (subst (λ n. limits.threads < n) (same limit.Threads) q), λ q. h.1 (subst (λ n. limits.cells < n) (same limit.Cells) q), subst (λ n. limits.frames < n) (sym (same limit.Frames)) h.2)
exceeds_so limit.Output limits x u same h = (
  λ q. h.0 (subst (λ n. limits.threads < n) (same limit.Threads) q),
  λ q. h.1 (subst (λ n. limits.cells < n) (same limit.Cells) q),
  λ q. h.2 (subst (λ n. limits.frames < n) (same limit.Frames) q),
  subst (λ n. limits.output < n) (sym (same limit.Output)) h.3,
)

module _ (bounds : Bounds) (b : CodeBody) (f : Found) (found : Searched bounds b f) (script : Script) (code : IsCodeOf b script) where
  abbrev ds : List Fn
  ds = script_of script

  abbrev clock : ClockChoice
  clock = bounds.clock

  abbrev funs : List SlottedFunction
  funs = code_trees ds

  same_funs : funs_of b ≡ funs
  same_funs = code.1.functions

  first : IsFirst ds (begun b)
  first = let h = first_stands_for script code.0 in (h.0, h.1, subst (λ tree. Represents ds (first_slots tree) h.0) (sym code.1.main_is) h.2)

  have : HaveSources clock funs bounds.limits (begun b) (states_of b f) (sources_of f)
  have = subst (λ z. HaveSources clock z bounds.limits (begun b) (states_of b f) (sources_of f)) same_funs found.sources

  here : (i : ℕ) (c : Shown) (o : Source) → slice_get (states_of b f) i ≡ Some c → slice_get (sources_of f) i ≡ Some o → Arrives clock ds bounds.limits o.steps c
  here i c o at its = arrived clock script code.0 bounds.limits (begun b) first (states_of b f) (sources_of f) have i c o at its

  run_of : (n : ℕ) (c : Shown) (a : Arrives clock ds bounds.limits n c) → IsRun ds a.entries a.state
  run_of n c a = is_run clock ds a.entries a.begin a.state a.begins a.run

  -- ---- sound
  pub reached : AreReached bounds script b f
  reached i c at =
      let h = have i c at in
      let o = mapped_there source_of f.origins.items i h.source h.is in
      let a = here i c (source_of o.0) at (h.is ∙ ap Some (sym o.2)) in
      record {
        origin = o.0;
        is = o.1;
        short = found.short i o.0 o.1;
        arrives = a;
        ends = λ end k.
            main_right clock script code.0 a.entries a.state (run_of o.0.steps c a) a.stands.exact a.stands.represents c a.stands.forgotten (Some end)
            (subst (λ z. MayHaveKind z c (Some end)) same_funs (found.ends i c (Some end) at k)) end refl;
      }

  -- ---- complete

  -- a state of the search has a kind
  kind_of_state : (i : ℕ) (c : Shown) → slice_get (states_of b f) i ≡ Some c → (k : Option laws.Final) × (slice_get (kinds_of f) i ≡ Some k)
  kind_of_state i c at =
      let n = mapped_there (shown f.numbers b) f.states i c at in
      let below = there_below f.states i n.0 n.1 in
      let kind = there_at f.kinds.items i (subst (λ m. i < m) (sym found.kinds) below) in
      (kind_of kind.0, there_mapped kind_of f.kinds.items i kind.0 kind.1)

  seen_shows : IsClosed bounds b f → (o : laws.Outcome) → IsSeen clock ds (states_of b f) o → Shows b f o
  seen_shows closed o s =
      let k = kind_of_state s.number s.state s.is in
      let has : HasKind funs s.state k.0 = subst (λ z. HasKind z s.state k.0) same_funs (closed.ends s.number s.state k.0 s.is k.1) in
      let end : k.0 ≡ Some o.end = ends_there clock script code.0 s.entries s.reached s.run s.stands.exact s.stands.represents s.state s.stands.forgotten k.0 has o.end s.shows.2 in
      record {
        number = s.number;
        state = s.state;
        is = s.is;
        output = sym s.stands.output ∙ s.shows.0;
        errors = sym s.stands.errors ∙ s.shows.1;
        end = subst (λ q. slice_get (kinds_of f) s.number ≡ Some q) end k.1;
      }

  gone_here : IsClosed bounds b f → AreGone clock funs bounds.limits (begun b) (states_of b f) (edges_of f)
  gone_here closed = subst (λ z. AreGone clock z bounds.limits (begun b) (states_of b f) (edges_of f)) same_funs closed.gone

  edges_here : AreTrueEdges clock funs bounds.limits (states_of b f) (edges_of f)
  edges_here = subst (λ z. AreTrueEdges clock z bounds.limits (states_of b f) (edges_of f)) same_funs found.edges

  pub shows_all : IsClosed bounds b f → ShowsAll bounds script b f
  shows_all closed o h = seen_shows closed o (seen clock script code.0 bounds.limits (begun b) first (states_of b f) (edges_of f) (gone_here closed) edges_here o h)

  -- ---- gaps
  reads_shown : (e : Option Entry) (parent : ℕ) → ReadsBy bounds b f e parent → ReadsHere bounds script b f e parent
  reads_shown None parent h = h
  reads_shown (Some e) parent (c, z, at, reads, is) =
      let s = have parent c at in
      let a = here parent c s.source at s.is in
      let k = reading_legal clock script code.0 bounds.limits s.source.steps c z e a reads (subst (λ q. next q c.slots e ≡ Some z) same_funs is) in
      (c, s.source.steps, a, k.0, at, k.1, k.2)

  meets_uses : (e : Option Entry) (parent : ℕ) (x : SlotState) (n : ℕ) → MeetsBy bounds b f e parent x n → Uses clock ds n x
  meets_uses None parent x n (is, none) = subst (λ m. Uses clock ds m x) (sym none) (subst (Uses clock ds 0) (sym is) (first_uses clock script code.0 (begun b) first))
  meets_uses (Some e) parent x n (c, s, at, its, leaves, steps) =
      subst (λ m. Uses clock ds m x) (sym steps)
      (left_uses clock script code.0 bounds.limits s.steps c e x (subst (λ z. Leaves clock z c.slots e x) same_funs leaves) (here parent c s at its))

  cause_shown : (o : Origin) (why : Cause) → HasCause bounds b f o why → ShowsCause bounds script b f o why
  cause_shown o cause.Clock h = reads_shown o.entry o.parent h
  cause_shown o cause.Fuel (d, comes, past) =
      (d, comes_arrive clock script code.0 bounds.limits (begun b) first (states_of b f) (sources_of f) have (source_of o) d (subst (λ z. Comes clock z bounds.limits (begun b) (states_of b f) (sources_of f) (source_of o) d) same_funs comes), past)
  cause_shown o (cause.Limit kind) (x, meets, exceeds, none) =
      let u = meets_uses o.entry o.parent x o.steps meets in
      (u.begin, u.entries, u.state, u.begins, u.run, exceeds_so kind bounds.limits x u.state u.uses exceeds)
  cause_shown o cause.States h = h

  pub gap_shown : (g : Option Gap) → GapIs bounds b f g → ShowsGap bounds script b f g
  gap_shown None h = tt
  gap_shown (Some g) h = cause_shown g.by g.cause h
