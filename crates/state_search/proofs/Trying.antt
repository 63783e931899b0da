-- What an entry that is tried adds to what has been found.
use Rattle.std.proofs.Common.{◌≡◌, ◌≤◌, ◌<◌, ◌+◌, ◌^◌, ℕ, true, false, [], ◌∷◌, ◌++◌, length, map, Some, None, slice_get, get_or, sym, ap, ◌∙◌, subst, arith, append-nil}
use Rattle.std.proofs.lemmas.List.{map-append}
use Rattle.std.proofs.lemmas.Option.{same_Some}
use Rattle.hs_base.specs.declared.clock_choice.ClockChoice.{ClockChoice}
use Rattle.hs_base.specs.declared.clock_choice.ClockChoice.TheVariants.{Real, Virtual}
use Rattle.hs_rules.specs.declared.entry.Entry.{Entry}
use Rattle.hs_rules.specs.declared.entry.Entry.TheVariants as entry
use Rattle.rules_code.specs.declared.code.CodeBody.{CodeBody}
use Rattle.outcome_listing.specs.declared.bounds.Bounds.{Bounds}
use Rattle.slot_states.specs.SlotStates.{SlotState}
use Rattle.slot_states.specs.Printing.{output_by, errors_by}
use Rattle.slot_states.specs.entering.Entering.{next}
use Rattle.local_steps.specs.Machine.{funs_of}
use Rattle.term_graph.proofs.Growth.{grows_on}
use Rattle.number_states.specs.declared.state.NumberState.{NumberState}
use Rattle.number_states.specs.Stocks.{Stock, HasGrown, text_at}
use Rattle.number_states.specs.States.{contents, slots}
use Rattle.number_states.proofs.Growth.{got_on, slots_of_on}
use Rattle.number_states.proofs.Changes.{got_mapped, got_read}
use Rattle.search_laws.specs.Shown.{Shown}
use Rattle.search_laws.specs.Going.{MayTake, ReadsTime, steps_by}
use Rattle.search_laws.specs.Found.{IsTrueEdge, AreTrueEdges, AreInOrder, IsFollowed, IsGone}
use Rattle.search_laws.proofs.Growing.{edges_one, gone_more, up_to_one, order_one}
use Rattle.state_search.specs.declared.found.Found.{Found}
use Rattle.state_search.specs.declared.found.Move.{Move}
use Rattle.state_search.specs.declared.found.Origin.{Origin}
use Rattle.state_search.specs.Meaning.{shown, states_of, sources_of, source_of, edges_of, edge_of, begun}
use Rattle.state_search.specs.Searching.{ReadsBy, Searched}
use Rattle.state_search.specs.Working.{AreUpTo, Going, Extends, IsTried, IsLeftOf}
use Rattle.state_search.proofs.Keeping.{gap_more, same_states}

-- ---- more is found

pub extends_same : (b : CodeBody) (f : Found) → Extends b f f
extends_same b f = record { states = ([], sym (append-nil (states_of b f))); edges = ([], sym (append-nil (edges_of f))); gap = λ e. e }

pub extends_on : (b : CodeBody) (f g h : Found) → Extends b f g → Extends b g h → Extends b f h
extends_on b f g h x y = record {
  states = grows_on (states_of b f) (states_of b g) (states_of b h) x.states y.states;
  edges = grows_on (edges_of f) (edges_of g) (edges_of h) x.edges y.edges;
  gap = λ e. x.gap (y.gap e);
}

-- nothing but a gap is new
pub extends_gap : (b : CodeBody) (f h : Found) → h ≡ record f { gap = h.gap } → (h.gap ≡ None → ⊥) → Extends b f h
extends_gap b f h same some = record {
  states = ([], ap (states_of b) same ∙ sym (append-nil (states_of b f)));
  edges = ([], ap edges_of same ∙ sym (append-nil (edges_of f)));
  gap = λ e. absurd (some e);
}

-- what stood at a number stands there
pub here_on : (b : CodeBody) (f h : Found) (i : ℕ) (c : Shown) → Extends b f h → slice_get (states_of b f) i ≡ Some c → slice_get (states_of b h) i ≡ Some c
here_on b f h i c x at = got_on (states_of b f) (states_of b h) i c x.states at

-- ---- one more move

-- the edges with one more
abbrev pub HasMove : Found → Found → Move → Type 0
HasMove h k m = (k ≡ record h { moves = k.moves }) × (edges_of k ≡ edges_of h ++ edge_of m ∷ [])

pub has_move : (h k : Found) (m : Move) → k ≡ record h { moves = k.moves } → k.moves.items ≡ h.moves.items ++ m ∷ [] → HasMove h k m
has_move h k m same items = (same, ap (map edge_of) items ∙ map-append edge_of h.moves.items (m ∷ []))

pub extends_move : (b : CodeBody) (h k : Found) (m : Move) → HasMove h k m → Extends b h k
extends_move b h k m (same, edges) = record {
  states = ([], ap (states_of b) same ∙ sym (append-nil (states_of b h)));
  edges = (edge_of m ∷ [], edges);
  gap = λ e. sym (ap (λ (z : Found). z.gap) same) ∙ e;
}

module _ (bounds : Bounds) (b : CodeBody) (n : ℕ) (h k : Found) (m : Move) (move : HasMove h k m) (going : Going bounds b n h) (from : m.from ≡ n) (leads : IsTrueEdge bounds.clock (funs_of b) bounds.limits (states_of b h) (edge_of m)) where
  abbrev with_move : Found
  with_move = record h { moves = k.moves }

  edges : edges_of k ≡ edges_of h ++ edge_of m ∷ []
  edges = move.1

  searched_move : Searched bounds b with_move
  searched_move =
      let s = going.searched in
      record {
        apart = s.apart;
        origins = s.origins;
        kinds = s.kinds;
        few = s.few;
        there = s.there;
        sources = s.sources;
        short = s.short;
        ends = s.ends;
        edges = subst (AreTrueEdges bounds.clock (funs_of b) bounds.limits (states_of b h)) (sym edges)
            (edges_one bounds.clock (funs_of b) bounds.limits (begun b) (states_of b h) (edges_of h) (edge_of m) s.edges leads);
        in_order = subst AreInOrder (sym edges) (order_one n (edges_of h) (edge_of m) going.up_to s.in_order from);
        gap = gap_more bounds b h with_move h.gap ([], sym (append-nil (states_of b h))) ([], sym (append-nil (sources_of h))) (λ e. e) s.gap;
      }

  pub going_move : Going bounds b n k
  going_move = subst (Going bounds b n) (sym move.0) (record {
    searched = searched_move;
    rules = going.rules;
    up_to = subst (AreUpTo n) (sym edges) (up_to_one n (edges_of h) (edge_of m) going.up_to from);
    gone = λ none i c below at. subst (λ es. IsGone bounds.clock (funs_of b) es i c) (sym edges) (gone_more bounds.clock (funs_of b) bounds.limits (begun b) (edges_of h) (edge_of m ∷ []) i c (going.gone none i c below at));
    looked = going.looked;
    early = going.early;
  })

-- ---- an entry of a state

module _ (bounds : Bounds) (b : CodeBody) (f : Found) (at : ℕ) (state : NumberState) (g : Stock) (e : Entry) (going : Going bounds b at f) (is : slice_get f.states at ≡ Some state) (more : HasGrown f.numbers g) where
  abbrev grown_found : Found
  grown_found = record f { numbers = g }

  abbrev c : Shown
  c = shown f.numbers b state

  same : states_of b grown_found ≡ states_of b f
  same = same_states bounds b f g going.searched.there more

  here : slice_get (states_of b grown_found) at ≡ Some c
  here = ap (λ xs. slice_get xs at) same ∙ got_mapped (shown f.numbers b) f.states at state is

  pub extends_grown : Extends b f grown_found
  extends_grown = record { states = ([], same ∙ sym (append-nil (states_of b f))); edges = ([], sym (append-nil (edges_of f))); gap = λ q. q }

  -- it has no next state
  pub tried_none : next (funs_of b) c.slots e ≡ None → IsTried bounds b grown_found at e false
  tried_none none d h = subst (λ (z : Shown). next (funs_of b) z.slots e ≡ None) (same_Some c d (sym here ∙ h)) none

  -- it has one, and whatever has been found since has an edge for it or a gap
  pub tried_next : (h : Found) (z : SlotState) → Extends b grown_found h → next (funs_of b) c.slots e ≡ Some z → (h.gap ≡ None → IsFollowed (funs_of b) (edges_of h) at c e) → IsTried bounds b h at e true
  tried_next h z x leads followed d k =
      let is_c : c ≡ d = same_Some c d (sym (here_on b grown_found h at c x here) ∙ k) in
      (subst (λ (w : Shown). (y : SlotState) × (next (funs_of b) w.slots e ≡ Some y)) is_c (z, leads), λ none. subst (λ (w : Shown). IsFollowed (funs_of b) (edges_of h) at w e) is_c (followed none))

  -- it reads the clock
  pub reads_here : (z : SlotState) → ReadsTime bounds.clock c.slots e → next (funs_of b) c.slots e ≡ Some z → ReadsBy bounds b grown_found (Some e) at
  reads_here z reads leads = (c, z, here, reads, leads)

  -- the tables have grown, and it is read alike
  slots_same : slots g b state ≡ slots f.numbers b state
  slots_same = slots_of_on f.numbers g more b (contents state) (going.searched.there at state is)

  pub reads_then : ReadsTime bounds.clock (slots g b state) e → ReadsTime bounds.clock c.slots e
  reads_then r = subst (λ x. ReadsTime bounds.clock x e) slots_same r

  pub timeless_then : (ReadsTime bounds.clock (slots g b state) e → ⊥) → ReadsTime bounds.clock c.slots e → ⊥
  timeless_then r = subst (λ x. ReadsTime bounds.clock x e → ⊥) slots_same r

  -- what it leaves
  pub left_here : (y : NumberState) (o : Origin) (n : ℕ) → slice_get f.origins.items at ≡ Some o → MayTake bounds.clock (funs_of b) c.slots e → (ReadsTime bounds.clock c.slots e → ⊥) → next (funs_of b) c.slots e ≡ Some (slots g b y)
      → text_at g y.output ≡ text_at f.numbers state.output ++ output_by c.slots e → text_at g y.errors ≡ text_at f.numbers state.errors ++ errors_by c.slots e → n ≡ o.steps + steps_by bounds.clock e
      → IsLeftOf bounds b grown_found e at (shown g b y) n
  left_here y o n its may timeless leaves output errors steps = record {
    state = c;
    is = here;
    source = source_of o;
    its = got_mapped source_of f.origins.items at o its;
    leaves = record { may = may; timeless = timeless; leaves = leaves };
    output = output;
    errors = errors;
    steps = steps;
  }

-- ---- steps

-- the origin that is read is that of the state
pub origin_there : (bounds : Bounds) (b : CodeBody) (f : Found) (at : ℕ) (o : Origin) → Going bounds b at f → at < length f.states → o ≡ get_or f.origins.items at o → slice_get f.origins.items at ≡ Some o
origin_there bounds b f at o going below is = let count = going.searched.origins in got_read f.origins.items at o (omega arith) is

step_few : (clock : ClockChoice) (e : Entry) → steps_by clock e ≤ 2
step_few Real (entry.Local t k) = omega arith
step_few Real (entry.Op t) = omega arith
step_few Real (entry.Receive t) = omega arith
step_few Real (entry.Wake t) = omega arith
step_few Real (entry.Finish t) = omega arith
step_few Real (entry.Tick at) = omega arith
step_few Real entry.Stranded = omega arith
step_few Virtual e = omega arith

-- the path to a state has few steps, and so one with one entry more
pub few_steps : (bounds : Bounds) (b : CodeBody) (f : Found) (at : ℕ) (o : Origin) (e : Entry) (clock : ClockChoice) → Searched bounds b f → slice_get f.origins.items at ≡ Some o → bounds.fuel < 2 ^ 32 → o.steps + steps_by clock e < 2 ^ 33
few_steps bounds b f at o e clock s is fits = let short = s.short at o is in let step = step_few clock e in omega arith
