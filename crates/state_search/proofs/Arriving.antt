-- What an entry left is rested and comes to its place.
use Rattle.std.proofs.Common.{◌≡◌, ◌<◌, ◌+◌, ℕ, List, [], ◌++◌, length, map, Option, Some, None, slice_get, sym, ap, ◌∙◌, subst, arith}
use Rattle.std.proofs.lemmas.List.{length-map}
use Rattle.hs_rules.specs.declared.entry.Entry.{Entry}
use Rattle.rules_code.specs.declared.code.CodeBody.{CodeBody}
use Rattle.outcome_listing.specs.declared.bounds.Bounds.{Bounds}
use Rattle.local_steps.specs.Machine.{funs_of}
use Rattle.number_tables.specs.Tables.{Grows}
use Rattle.number_states.specs.declared.state.NumberState.{NumberState}
use Rattle.number_states.specs.Stocks.{Stock, HasGrown, text_at}
use Rattle.number_states.specs.States.{AreIn, Becomes, slots}
use Rattle.number_states.proofs.Growth.{text_at_on}
use Rattle.number_moves.specs.declared.rests.rules.EagerRules.{EagerRules}
use Rattle.number_moves.specs.rests.Resting.{Rests}
use Rattle.number_moves.specs.rests.Rules.{AreRules}
use Rattle.search_laws.specs.Shown.{Shown, FitsIn, forget}
use Rattle.search_laws.specs.Going.{EagerEntries, Takes}
use Rattle.search_laws.specs.Found.{Comes, IsBefore}
use Rattle.search_laws.proofs.Candidates.{there_below}
use Rattle.search_laws.proofs.Growing.{there_before}
use Rattle.state_search.specs.declared.found.Found.{Found}
use Rattle.state_search.specs.declared.found.Origin.{Origin}
use Rattle.state_search.specs.Meaning.{shown, states_of, sources_of, edges_of, edge_of, begun}
use Rattle.state_search.specs.Searching.{MeetsBy, GapIs, Searched}
use Rattle.state_search.specs.Working.{Going, Extends, ComesTo, IsLeftOf, IsLeftBy, ArrivesAt}
use Rattle.state_search.proofs.Keeping.{same_states}

module _ (bounds : Bounds) (b : CodeBody) where
  -- ---- what an entry left

  pub meets_left : (f : Found) (e : Option Entry) (parent : ℕ) (x : Shown) (n : ℕ) → IsLeftBy bounds b f e parent x n → MeetsBy bounds b f e parent x.slots n
  meets_left f None parent x n l = (l.slots, l.steps)
  meets_left f (Some e) parent x n l = (l.state, l.source, l.is, l.its, l.leaves, l.steps)

  -- it was left of a state that there is, whatever the tables have become
  pub left_on : (f : Found) (g : Stock) (r : EagerRules) (e : Option Entry) (parent : ℕ) (x : Shown) (n : ℕ) → Searched bounds b f → HasGrown f.numbers g → IsLeftBy bounds b f e parent x n → IsLeftBy bounds b (record f { numbers = g; rules = r }) e parent x n
  left_on f g r None parent x n s grown l = record { slots = l.slots; output = l.output; errors = l.errors; steps = l.steps; none = l.none }
  left_on f g r (Some e) parent x n s grown l = record {
    state = l.state;
    is = subst (λ xs. slice_get xs parent ≡ Some l.state) (sym (same_states bounds b f g s.there grown)) l.is;
    source = l.source;
    its = l.its;
    leaves = l.leaves;
    output = l.output;
    errors = l.errors;
    steps = l.steps;
  }

  pub before_left : (f : Found) (e : Option Entry) (parent : ℕ) (x : Shown) (n : ℕ) → IsLeftBy bounds b f e parent x n → IsBefore e parent (length f.states)
  before_left f None parent x n l = l.none
  before_left f (Some e) parent x n l = subst (λ m. parent < m) (length-map f.states (shown f.numbers b)) (there_below (states_of b f) parent l.state l.is)

  -- ---- rested

  -- these eager local rules lead from what was left, within the limits, but for time, to a state with the same texts
  pub record IsRested (x : Shown) (ls : List Entry) (d : Shown) : Type 0 where
    pub within : FitsIn bounds.limits x.slots
    pub rests : EagerEntries (funs_of b) bounds.limits.frames ls (forget bounds.clock x.slots) d.slots
    pub output : d.output ≡ x.output
    pub errors : d.errors ≡ x.errors

  pub rested : (g h : Stock) (x y z : NumberState) (old ls : List Entry) (k : ℕ) → AreIn g x → FitsIn bounds.limits (slots g b x) → Becomes (λ c. forget bounds.clock) g x g y → Rests (funs_of b) bounds.limits.frames k old ls (slots g b y) (slots h b z) → old ≡ [] →
      z.output ≡ y.output → z.errors ≡ y.errors → HasGrown g h → IsRested (shown g b x) ls (shown h b z) × (length ls ≡ k)
  rested g h x y z old ls k there fits timeless r none output errors grown =
      let same : ls ≡ r.locals = r.behind ∙ ap (λ os. os ++ r.locals) none in (
        record {
          within = fits;
          rests = subst (λ es. EagerEntries (funs_of b) bounds.limits.frames es (forget bounds.clock (slots g b x)) (slots h b z)) (sym same)
              (subst (λ q. EagerEntries (funs_of b) bounds.limits.frames r.locals q (slots h b z)) (timeless.is b) r.rests);
          output = ap (text_at h) (output ∙ timeless.output) ∙ text_at_on g h grown x.output there.output;
          errors = ap (text_at h) (errors ∙ timeless.errors) ∙ text_at_on g h grown x.errors there.errors;
        },
        ap length same ∙ r.many,
      )

  takes_left : (f : Found) (e : Entry) (parent : ℕ) (x d : Shown) (n : ℕ) (ls : List Entry) → (l : IsLeftOf bounds b f e parent x n) → IsRested x ls d → Takes bounds.clock (funs_of b) bounds.limits l.state e ls d
  takes_left f e parent x d n ls l r = record { left = x.slots; enters = l.leaves; within = r.within; rests = r.rests; output = r.output ∙ l.output; errors = r.errors ∙ l.errors }

  pub comes_left : (f : Found) (e : Option Entry) (parent : ℕ) (x d : Shown) (n steps : ℕ) (ls : List Entry) → IsLeftBy bounds b f e parent x n → IsRested x ls d → steps ≡ n + length ls →
      Comes bounds.clock (funs_of b) bounds.limits (begun b) (states_of b f) (sources_of f) (record { parent = parent; entry = e; locals = ls; steps = steps }) d
  comes_left f None parent x d n steps ls l r s = record {
    within = subst (FitsIn bounds.limits) l.slots r.within;
    rests = subst (λ z. EagerEntries (funs_of b) bounds.limits.frames ls (forget bounds.clock z) d.slots) l.slots r.rests;
    output = r.output ∙ l.output;
    errors = r.errors ∙ l.errors;
    steps = omega (arith, s, l.steps);
  }
  comes_left f (Some e) parent x d n steps ls l r s = record {
    parent = l.state;
    is = l.is;
    source = l.source;
    its = l.its;
    takes = takes_left f e parent x d n ls l r;
    steps = omega (arith, s, l.steps);
  }

  -- ---- at its place

  pub arrives_at : (f h : Found) (e : Option Entry) (parent : ℕ) (x d : Shown) (n to k : ℕ) (ls : List Entry) → IsLeftBy bounds b f e parent x n → IsRested x ls d → length ls ≡ k → Grows (states_of b f) (states_of b h) → slice_get (states_of b h) to ≡ Some d →
      ArrivesAt bounds b h e parent to k
  arrives_at f h None parent x d n to k ls l r many grows at = subst (λ m. to < m) (length-map h.states (shown h.numbers b)) (there_below (states_of b h) to d at)
  arrives_at f h (Some e) parent x d n to k ls l r many grows at = record {
    state = l.state;
    is = subst (λ xs. slice_get xs parent ≡ Some l.state) (sym grows.1) (there_before (states_of b f) grows.0 parent l.state l.is);
    other = d;
    there = at;
    locals = ls;
    many = many;
    takes = takes_left f e parent x d n ls l r;
  }

  pub extends_on : (f : Found) (g : Stock) (r : EagerRules) (h : Found) → Searched bounds b f → HasGrown f.numbers g → Extends b (record f { numbers = g; rules = r }) h → Extends b f h
  extends_on f g r h s grown e = record { states = subst (λ xs. Grows xs (states_of b h)) (same_states bounds b f g s.there grown) e.states; edges = e.edges; gap = e.gap }

  module _ (f : Found) (g : Stock) (known : EagerRules) (x z : NumberState) (o : Origin) (n k : ℕ) (left : IsLeftBy bounds b f o.entry o.parent (shown f.numbers b x) n) (r : IsRested (shown f.numbers b x) o.rest.items (shown g b z) × (length o.rest.items ≡ k))
      (steps : o.steps ≡ n + k) (found : Searched bounds b f) (more : HasGrown f.numbers g) where
    -- its origin is that of what is rested
    pub comes_rested : ComesTo bounds b (record f { numbers = g; rules = known }) o z
    comes_rested = record {
      comes = comes_left (record f { numbers = g; rules = known }) o.entry o.parent (shown f.numbers b x) (shown g b z) n o.steps o.rest.items (left_on f g known o.entry o.parent (shown f.numbers b x) n found more left) r.0
          (let many = r.1 in omega (arith, steps, many));
      before = before_left f o.entry o.parent (shown f.numbers b x) n left;
    }

    -- and where that is kept, it arrives there
    pub arrives_rested : (h : Found) (to : ℕ) → Extends b (record f { numbers = g; rules = known }) h → slice_get (states_of b h) to ≡ Some (shown g b z) → ArrivesAt bounds b h o.entry o.parent to k
    arrives_rested h to e at =
        arrives_at f h o.entry o.parent (shown f.numbers b x) (shown g b z) n to k o.rest.items left r.0 r.1 (extends_on f g known h found more e).states at

  -- ---- nothing yet

  no_place : {A : Type 0} → (xs : List A) (i : ℕ) (x : A) → xs ≡ [] → slice_get xs i ≡ Some x → ⊥
  no_place xs i x none at = let w = there_below xs i x at in let e = ap length none in absurd (omega (arith, w, e))

  pub nothing_yet : (f : Found) → AreRules b f.numbers f.rules → f.states ≡ [] → f.origins.items ≡ [] → f.kinds.items ≡ [] → f.moves.items ≡ [] → f.gap ≡ None → Going bounds b 0 f
  nothing_yet f rules states origins kinds moves gap =
      let shows : states_of b f ≡ [] = ap (map (shown f.numbers b)) states in
      let leads : edges_of f ≡ [] = ap (map edge_of) moves in
      record {
        searched = record {
          apart = λ i j x y at. absurd (no_place f.states i x states at);
          origins = ap length origins ∙ sym (ap length states);
          kinds = ap length kinds ∙ sym (ap length states);
          few = let e = ap length states in omega (arith, e);
          there = λ i x at. absurd (no_place f.states i x states at);
          sources = λ i c at. absurd (no_place (states_of b f) i c shows at);
          short = λ i o at. absurd (no_place f.origins.items i o origins at);
          ends = λ i c k at. absurd (no_place (states_of b f) i c shows at);
          edges = λ k g at. absurd (no_place (edges_of f) k g leads at);
          in_order = λ k l g h le at. absurd (no_place (edges_of f) k g leads at);
          gap = subst (GapIs bounds b f) (sym gap) tt;
        };
        rules = rules;
        up_to = λ k g at. absurd (no_place (edges_of f) k g leads at);
        gone = λ none i c below at. absurd (no_place (states_of b f) i c shows at);
        looked = λ i c k below at. absurd (no_place (states_of b f) i c shows at);
        early = λ i c k above at. absurd (no_place (states_of b f) i c shows at);
      }
