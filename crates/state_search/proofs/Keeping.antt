-- What has been found stays right where the tables grow, a gap is noted, or a state is added.
use Rattle.std.proofs.Common.{◌≡◌, ◌≤◌, ◌<◌, ◌+◌, ℕ, suc, List, [], ◌∷◌, ◌++◌, length, map, Option, Some, None, slice_get, refl, sym, ap, ap₂, ◌∙◌, subst, arith, append-nil, length-append, ◌⊎◌, inl, inr, ⊎_elim}
use Rattle.std.proofs.lemmas.List.{map-append, length-map}
use Rattle.hs_rules.specs.declared.entry.Entry.{Entry}
use Rattle.rules_code.specs.declared.code.CodeBody.{CodeBody}
use Rattle.outcome_laws.specs.Outcomes as laws
use Rattle.outcome_listing.specs.declared.bounds.Bounds.{Bounds}
use Rattle.outcome_listing.specs.declared.explored.Cause.{Cause}
use Rattle.outcome_listing.specs.declared.explored.Cause.TheVariants as cause
use Rattle.outcome_listing.specs.declared.explored.Final.{Final}
use Rattle.slot_states.specs.SlotStates.{SlotState}
use Rattle.local_steps.specs.Machine.{funs_of}
use Rattle.number_tables.specs.Tables.{Grows, AreApart, IsNumberOf}
use Rattle.number_states.specs.declared.state.NumberState.{NumberState}
use Rattle.number_states.specs.Stocks.{Stock, HasGrown, text_at}
use Rattle.number_states.specs.States.{Contents, contents, slots_of, AreIn}
use Rattle.number_states.specs.Keys.{state_key}
use Rattle.number_states.proofs.Changes.{got_mapped}
use Rattle.number_states.proofs.Exact.{exact_contents}
use Rattle.number_states.proofs.Growth.{slots_of_on, all_in_on, text_at_on}
use Rattle.number_moves.specs.declared.rests.rules.EagerRules.{EagerRules}
use Rattle.number_moves.specs.rests.Rules.{AreRules}
use Rattle.number_moves.proofs.rests_lemmas.Ruling.{rules_on}
use Rattle.search_laws.specs.Shown.{Shown}
use Rattle.search_laws.specs.Found.{Source, Comes, IsBefore, HaveSources, Edge, AreTrueEdges, AreInOrder, IsGone, ended_by}
use Rattle.search_laws.proofs.Candidates.{there_below}
use Rattle.search_laws.proofs.Growing.{there_before, there_last, before_or_last, comes_more, sources_more, edges_more}
use Rattle.state_search.specs.declared.found.Found.{Found}
use Rattle.state_search.specs.declared.found.Gap.{Gap}
use Rattle.state_search.specs.declared.found.Origin.{Origin}
use Rattle.state_search.specs.Meaning.{shown, states_of, sources_of, edges_of, source_of, kinds_of, kind_of, begun}
use Rattle.state_search.specs.Searching.{HasCause, ReadsBy, MeetsBy, GapIs, Searched}
use Rattle.state_search.specs.Working.{AreUpTo, Going, Extends, ComesTo, Bars}

-- ---- what a state shows

-- where the tables grow it is the same
pub shown_on : (g h : Stock) (b : CodeBody) (x : NumberState) → HasGrown g h → AreIn g x → shown h b x ≡ shown g b x
shown_on g h b x grown t =
    ap₂ (λ (z : SlotState) (w : List ℕ × List ℕ). record { slots = z; output = w.0; errors = w.1 }) (slots_of_on g h grown b (contents x) t)
    (ap₂ (λ (p q : List ℕ). (p, q)) (text_at_on g h grown x.output t.output) (text_at_on g h grown x.errors t.errors))

all_shown_on : (g h : Stock) (b : CodeBody) (xs : List NumberState) → HasGrown g h → ((i : ℕ) (x : NumberState) → slice_get xs i ≡ Some x → AreIn g x) → map (shown h b) xs ≡ map (shown g b) xs
all_shown_on g h b [] grown t = refl
all_shown_on g h b (x ∷ xs) grown t = ap₂ (λ y ys. y ∷ ys) (shown_on g h b x grown (t 0 x refl)) (all_shown_on g h b xs grown (λ i y e. t (suc i) y e))

-- by what it holds
abbrev shown_by : Stock → CodeBody → Contents → Shown
shown_by g b c = record { slots = slots_of g b c; output = text_at g c.output; errors = text_at g c.errors }

-- states with one key show the same
pub shown_alike : (g : Stock) (b : CodeBody) (x y : NumberState) → state_key x ≡ state_key y → shown g b x ≡ shown g b y
shown_alike g b x y e = ap (shown_by g b) (exact_contents (contents x) (contents y) e)

-- what stands in two lists of one length with one more each is in both, or the last of both
both : {A B : Type 0} → (xs : List A) (ys : List B) (x : A) (y : B) (i : ℕ) (c : A) (k : B) → length ys ≡ length xs → slice_get (xs ++ x ∷ []) i ≡ Some c → slice_get (ys ++ y ∷ []) i ≡ Some k → ((slice_get xs i ≡ Some c) × (slice_get ys i ≡ Some k)) ⊎ ((i ≡ length xs) × (x ≡ c) × (y ≡ k))
both xs ys x y i c k long at bt =
    ⊎_elim
    (λ p. ⊎_elim (λ q. inl (p, q)) (λ q. let w = there_below xs i c p in absurd (omega (arith, q.0))) (before_or_last ys y i k bt))
    (λ p. ⊎_elim (λ q. let w = there_below ys i k q in absurd (omega (arith, p.0))) (λ q. inr (p.0, p.1, q.1)) (before_or_last ys y i k bt))
    (before_or_last xs x i c at)

-- the number of a new one
pub added : (old new : List NumberState) (n : ℕ) (x : NumberState) → ((m : ℕ) → IsNumberOf state_key old m x → ⊥) → IsNumberOf state_key new n x → (new ≡ old) ⊎ (new ≡ old ++ x ∷ []) → (new ≡ old ++ x ∷ []) × (n ≡ length old)
added old new n x none is (inl e) = absurd (none n (subst (λ xs. IsNumberOf state_key xs n x) e is))
added old new n x none (one, at, key) (inr e) = (
  e,
  ⊎_elim (λ h. absurd (none n (one, h, key))) (λ h. h.0) (before_or_last old x n one (subst (λ xs. slice_get xs n ≡ Some one) e at)),
)

-- a number below those that were there is that of one of them
pub number_known : (old new : List NumberState) (n : ℕ) (x : NumberState) → IsNumberOf state_key new n x → (new ≡ old) ⊎ (new ≡ old ++ x ∷ []) → n < length old → ((m : ℕ) → IsNumberOf state_key old m x → new ≡ old) → (new ≡ old) × IsNumberOf state_key old n x
number_known old new n x is (inl e) below stays = (e, subst (λ xs. IsNumberOf state_key xs n x) e is)
number_known old new n x (one, at, key) (inr e) below stays =
    ⊎_elim (λ h. let there : IsNumberOf state_key old n x = (one, h, key) in (stays n there, there)) (λ h. absurd (omega (arith, h.0, below)))
    (before_or_last old x n one (subst (λ xs. slice_get xs n ≡ Some one) e at))

-- any other is that of one that wasn't there
pub number_new : (old new : List NumberState) (n : ℕ) (x : NumberState) → IsNumberOf state_key new n x → length old ≤ n → ((m : ℕ) → IsNumberOf state_key old m x → new ≡ old) → (m : ℕ) → IsNumberOf state_key old m x → ⊥
number_new old new n x (one, at, key) above stays m there = let w = there_below old n one (subst (λ xs. slice_get xs n ≡ Some one) (stays m there) at) in absurd (omega (arith, w, above))

-- no two have one key with it
apart_more : (xs : List NumberState) (x : NumberState) → AreApart state_key xs → ((m : ℕ) → IsNumberOf state_key xs m x → ⊥) → AreApart state_key (xs ++ x ∷ [])
apart_more xs x h none i j p q at bt key =
    ⊎_elim
    (λ k. ⊎_elim (λ l. h i j p q k l key) (λ l. absurd (none i (p, k, key ∙ ap state_key (sym l.1)))) (before_or_last xs x j q bt))
    (λ k. ⊎_elim (λ l. absurd (none j (q, l, sym key ∙ ap state_key (sym k.1)))) (λ l. k.0 ∙ sym l.0) (before_or_last xs x j q bt))
    (before_or_last xs x i p at)

-- a state with the key of another shows the same at its number
pub kept_known : (b : CodeBody) (f : Found) (x : NumberState) (j : ℕ) → IsNumberOf state_key f.states j x → slice_get (states_of b f) j ≡ Some (shown f.numbers b x)
kept_known b f x j (one, at, key) = got_mapped (shown f.numbers b) f.states j one at ∙ ap Some (shown_alike f.numbers b one x key)

module _ (bounds : Bounds) (b : CodeBody) where
  abbrev AllSources : List Shown → List Source → Type 0
  AllSources states sources = HaveSources bounds.clock (funs_of b) bounds.limits (begun b) states sources

  abbrev AllEdges : List Shown → List Edge → Type 0
  AllEdges states edges = AreTrueEdges bounds.clock (funs_of b) bounds.limits states edges

  -- ---- gaps

  reads_more : (f h : Found) (e : Option Entry) (parent : ℕ) → Grows (states_of b f) (states_of b h) → ReadsBy bounds b f e parent → ReadsBy bounds b h e parent
  reads_more f h None parent s r = r
  reads_more f h (Some e) parent s (c, z, at, reads, is) = (c, z, subst (λ xs. slice_get xs parent ≡ Some c) (sym s.1) (there_before (states_of b f) s.0 parent c at), reads, is)

  meets_more : (f h : Found) (e : Option Entry) (parent : ℕ) (x : SlotState) (n : ℕ) → Grows (states_of b f) (states_of b h) → Grows (sources_of f) (sources_of h) → MeetsBy bounds b f e parent x n → MeetsBy bounds b h e parent x n
  meets_more f h None parent x n s o m = m
  meets_more f h (Some e) parent x n s o (c, q, at, its, leaves, steps) = (
    c,
    q,
    subst (λ xs. slice_get xs parent ≡ Some c) (sym s.1) (there_before (states_of b f) s.0 parent c at),
    subst (λ xs. slice_get xs parent ≡ Some q) (sym o.1) (there_before (sources_of f) o.0 parent q its),
    leaves,
    steps,
  )

  comes_on : (f h : Found) (o : Source) (d : Shown) → Grows (states_of b f) (states_of b h) → Grows (sources_of f) (sources_of h) → Comes bounds.clock (funs_of b) bounds.limits (begun b) (states_of b f) (sources_of f) o d →
      Comes bounds.clock (funs_of b) bounds.limits (begun b) (states_of b h) (sources_of h) o d
  comes_on f h o d s q c =
      subst (λ ys. Comes bounds.clock (funs_of b) bounds.limits (begun b) (states_of b h) ys o d) (sym q.1)
      (subst (λ xs. Comes bounds.clock (funs_of b) bounds.limits (begun b) xs (sources_of f ++ q.0) o d) (sym s.1) (comes_more bounds.clock (funs_of b) bounds.limits (begun b) (states_of b f) s.0 (sources_of f) q.0 o d c))

  cause_more : (f h : Found) (o : Origin) (why : Cause) → Grows (states_of b f) (states_of b h) → Grows (sources_of f) (sources_of h) → (length f.states ≡ bounds.states → length h.states ≡ bounds.states) → HasCause bounds b f o why → HasCause bounds b h o why
  cause_more f h o cause.Clock s q full c = reads_more f h o.entry o.parent s c
  cause_more f h o cause.Fuel s q full (d, comes, past) = (d, comes_on f h (source_of o) d s q comes, past)
  cause_more f h o (cause.Limit kind) s q full (x, meets, exceeds, none) = (x, meets_more f h o.entry o.parent x o.steps s q meets, exceeds, none)
  cause_more f h o cause.States s q full c = full c

  pub gap_more : (f h : Found) (g : Option Gap) → Grows (states_of b f) (states_of b h) → Grows (sources_of f) (sources_of h) → (length f.states ≡ bounds.states → length h.states ≡ bounds.states) → GapIs bounds b f g → GapIs bounds b h g
  gap_more f h None s q full c = tt
  gap_more f h (Some g) s q full c = cause_more f h g.by g.cause s q full c

  -- a gap that is noted
  pub noted : (n : ℕ) (f : Found) (g : Option Gap) → Going bounds b n f → (g ≡ None → ⊥) → Searched bounds b (record f { gap = g }) → Going bounds b n (record f { gap = g })
  noted n f g h some s = record { searched = s; rules = h.rules; up_to = h.up_to; gone = λ e. absurd (some e); looked = h.looked; early = h.early }

  pub noted_so : (n : ℕ) (f h : Found) → h ≡ record f { gap = h.gap } → Going bounds b n f → (h.gap ≡ None → ⊥) → Searched bounds b h → Going bounds b n h
  noted_so n f h same going some s = subst (Going bounds b n) (sym same) (noted n f h.gap going some (subst (Searched bounds b) same s))

  -- what keeps a state from being added is the cause of a gap
  pub barred : (f : Found) (x : NumberState) (o : Origin) (why : Cause) → Searched bounds b f → ComesTo bounds b f o x → Bars bounds f o.steps why → HasCause bounds b f o why
  barred f x o cause.Fuel s comes past = (shown f.numbers b x, comes.comes, past)
  barred f x o cause.States s comes full = let few = s.few in omega (arith, few, full)
  barred f x o cause.Clock s comes never = absurd never
  barred f x o (cause.Limit kind) s comes never = absurd never

  -- ---- the tables grow

  pub same_states : (f : Found) (g : Stock) → ((i : ℕ) (x : NumberState) → slice_get f.states i ≡ Some x → AreIn f.numbers x) → HasGrown f.numbers g → states_of b (record f { numbers = g }) ≡ states_of b f
  same_states f g t grown = all_shown_on f.numbers g b f.states grown t

  searched_on : (f : Found) (g : Stock) → Searched bounds b f → HasGrown f.numbers g → Searched bounds b (record f { numbers = g })
  searched_on f g s grown =
      let h : Found = record f { numbers = g } in
      let same : states_of b h ≡ states_of b f = same_states f g s.there grown in
      record {
        apart = s.apart;
        origins = s.origins;
        kinds = s.kinds;
        few = s.few;
        there = λ i x e. all_in_on f.numbers g grown (contents x) (s.there i x e);
        sources = subst (λ xs. AllSources xs (sources_of f)) (sym same) s.sources;
        short = s.short;
        ends = λ i c k at. s.ends i c k (subst (λ xs. slice_get xs i ≡ Some c) same at);
        edges = subst (λ xs. AllEdges xs (edges_of f)) (sym same) s.edges;
        in_order = s.in_order;
        gap = gap_more f h f.gap ([], same ∙ sym (append-nil (states_of b f))) ([], sym (append-nil (sources_of f))) (λ e. e) s.gap;
      }

  pub grown : (n : ℕ) (f : Found) (g : Stock) → Going bounds b n f → HasGrown f.numbers g → Going bounds b n (record f { numbers = g })
  grown n f g h more =
      let same : states_of b (record f { numbers = g }) ≡ states_of b f = same_states f g h.searched.there more in
      record {
        searched = searched_on f g h.searched more;
        rules = rules_on b f.numbers g f.rules more h.rules;
        up_to = h.up_to;
        gone = λ none i c below at. h.gone none i c below (subst (λ xs. slice_get xs i ≡ Some c) same at);
        looked = λ i c k below at. h.looked i c k below (subst (λ xs. slice_get xs i ≡ Some c) same at);
        early = λ i c k above at. h.early i c k above (subst (λ xs. slice_get xs i ≡ Some c) same at);
      }

  -- more is known of eager rules
  searched_ruled : (f : Found) (r : EagerRules) → Searched bounds b f → Searched bounds b (record f { rules = r })
  searched_ruled f r s = record {
    apart = s.apart;
    origins = s.origins;
    kinds = s.kinds;
    few = s.few;
    there = s.there;
    sources = s.sources;
    short = s.short;
    ends = s.ends;
    edges = s.edges;
    in_order = s.in_order;
    gap = gap_more f (record f { rules = r }) f.gap ([], sym (append-nil (states_of b f))) ([], sym (append-nil (sources_of f))) (λ e. e) s.gap;
  }

  pub ruled : (n : ℕ) (f : Found) (g : Stock) (r : EagerRules) → Going bounds b n f → HasGrown f.numbers g → AreRules b g r → Going bounds b n (record f { numbers = g; rules = r })
  ruled n f g r h more known =
      let next = grown n f g h more in
      record {
        searched = searched_ruled (record f { numbers = g }) r next.searched;
        rules = known;
        up_to = next.up_to;
        gone = next.gone;
        looked = next.looked;
        early = next.early;
      }

  -- ---- one more state

  -- a state is added, with its origin and its kind by main alone
  pub record Adds (f h : Found) (x : NumberState) (o : Origin) : Type 0 where
    pub kind : Option Final
    pub numbers : h.numbers ≡ f.numbers
    pub states : h.states ≡ f.states ++ x ∷ []
    pub origins : h.origins.items ≡ f.origins.items ++ o ∷ []
    pub kinds : h.kinds.items ≡ f.kinds.items ++ kind ∷ []
    pub rules : h.rules ≡ f.rules
    pub moves : edges_of h ≡ edges_of f
    pub gap : h.gap ≡ f.gap
    pub there : AreIn f.numbers x
    pub ended : kind_of kind ≡ ended_by (slice_get (shown f.numbers b x).slots.threads 0)
    pub none : (m : ℕ) → IsNumberOf state_key f.states m x → ⊥
    pub short : o.steps ≤ bounds.fuel
    pub few : length f.states < bounds.states

  module _ (f h : Found) (x : NumberState) (o : Origin) (a : Adds f h x o) where
    states_added : states_of b h ≡ states_of b f ++ shown f.numbers b x ∷ []
    states_added = ap (λ g. map (shown g b) h.states) a.numbers ∙ (ap (map (shown f.numbers b)) a.states ∙ map-append (shown f.numbers b) f.states (x ∷ []))

    sources_added : sources_of h ≡ sources_of f ++ source_of o ∷ []
    sources_added = ap (map source_of) a.origins ∙ map-append source_of f.origins.items (o ∷ [])

    kinds_added : kinds_of h ≡ kinds_of f ++ kind_of a.kind ∷ []
    kinds_added = ap (map kind_of) a.kinds ∙ map-append kind_of f.kinds.items (a.kind ∷ [])

    abbrev d : Shown
    d = shown f.numbers b x

    count : length (states_of b f) ≡ length f.states
    count = length-map f.states (shown f.numbers b)

    grows : Grows (states_of b f) (states_of b h)
    grows = (d ∷ [], states_added)

    sources_grow : Grows (sources_of f) (sources_of h)
    sources_grow = (source_of o ∷ [], sources_added)

    pub kept_extends : Extends b f h
    kept_extends = record { states = grows; edges = ([], a.moves ∙ sym (append-nil (edges_of f))); gap = λ e. sym a.gap ∙ e }

    -- it stands at the number that it was given
    pub kept_there : (j : ℕ) → j ≡ length f.states → slice_get (states_of b h) j ≡ Some d
    kept_there j e = subst (λ xs. slice_get xs j ≡ Some d) (sym states_added) (subst (λ m. slice_get (states_of b f ++ d ∷ []) m ≡ Some d) (count ∙ sym e) (there_last (states_of b f) d))

  module _ (n : ℕ) (f h : Found) (x : NumberState) (o : Origin) (a : Adds f h x o) (within : n ≤ length f.states) (old : Going bounds b n f) (by : ComesTo bounds b f o x) where
    abbrev one : Shown
    one = shown f.numbers b x

    as_many_sources : length (sources_of f) ≡ length (states_of b f)
    as_many_sources = length-map f.origins.items source_of ∙ (old.searched.origins ∙ sym (count f h x o a))

    as_many_kinds : length (kinds_of f) ≡ length (states_of b f)
    as_many_kinds = length-map f.kinds.items kind_of ∙ (old.searched.kinds ∙ sym (count f h x o a))

    -- a state with its kind was there, or is the last
    of_both : (i : ℕ) (c : Shown) (k : Option laws.Final) → slice_get (states_of b h) i ≡ Some c → slice_get (kinds_of h) i ≡ Some k →
        ((slice_get (states_of b f) i ≡ Some c) × (slice_get (kinds_of f) i ≡ Some k)) ⊎ ((i ≡ length (states_of b f)) × (one ≡ c) × (kind_of a.kind ≡ k))
    of_both i c k at bt =
        both (states_of b f) (kinds_of f) one (kind_of a.kind) i c k as_many_kinds (subst (λ xs. slice_get xs i ≡ Some c) (states_added f h x o a) at)
        (subst (λ xs. slice_get xs i ≡ Some k) (kinds_added f h x o a) bt)

    last_kind : (c : Shown) (k : Option laws.Final) → one ≡ c → kind_of a.kind ≡ k → k ≡ ended_by (slice_get c.slots.threads 0)
    last_kind c k same is = sym is ∙ (a.ended ∙ ap (λ (z : Shown). ended_by (slice_get z.slots.threads 0)) same)

    sources_on : AllSources (states_of b h) (sources_of h)
    sources_on =
        subst (λ ys. AllSources (states_of b h) ys) (sym (sources_added f h x o a))
        (subst (λ xs. AllSources xs (sources_of f ++ source_of o ∷ [])) (sym (states_added f h x o a))
        (sources_more bounds.clock (funs_of b) bounds.limits (begun b) (states_of b f) (sources_of f) (source_of o) one old.searched.sources as_many_sources by.comes
        (subst (IsBefore o.entry o.parent) (sym (count f h x o a)) by.before)))

    edges_on : AllEdges (states_of b h) (edges_of h)
    edges_on =
        subst (λ es. AllEdges (states_of b h) es) (sym a.moves)
        (subst (λ xs. AllEdges xs (edges_of f)) (sym (states_added f h x o a)) (edges_more bounds.clock (funs_of b) bounds.limits (begun b) (states_of b f) (one ∷ []) (edges_of f) old.searched.edges))

    full : length f.states ≡ bounds.states → length h.states ≡ bounds.states
    full e = let few = a.few in absurd (omega arith)

    there_on : (i : ℕ) (y : NumberState) → slice_get h.states i ≡ Some y → AreIn h.numbers y
    there_on i y at =
        subst (λ g. AreIn g y) (sym a.numbers)
        (⊎_elim (λ e. old.searched.there i y e) (λ e. subst (AreIn f.numbers) e.1 a.there) (before_or_last f.states x i y (subst (λ xs. slice_get xs i ≡ Some y) a.states at)))

    short_on : (i : ℕ) (q : Origin) → slice_get h.origins.items i ≡ Some q → q.steps ≤ bounds.fuel
    short_on i q at =
        ⊎_elim (λ e. old.searched.short i q e) (λ e. subst (λ (z : Origin). z.steps ≤ bounds.fuel) e.1 a.short)
        (before_or_last f.origins.items o i q (subst (λ xs. slice_get xs i ≡ Some q) a.origins at))

    searched_added : Searched bounds b h
    searched_added =
        let more = ap length a.states ∙ length-append f.states (x ∷ []) in
        let few = a.few in
        record {
          apart = subst (AreApart state_key) (sym a.states) (apart_more f.states x old.searched.apart a.none);
          origins = ap length a.origins ∙ (length-append f.origins.items (o ∷ []) ∙ (ap (λ m. m + 1) old.searched.origins ∙ sym more));
          kinds = ap length a.kinds ∙ (length-append f.kinds.items (a.kind ∷ []) ∙ (ap (λ m. m + 1) old.searched.kinds ∙ sym more));
          few = omega (arith, more, few);
          there = there_on;
          sources = sources_on;
          short = short_on;
          ends = λ i c k at bt. ⊎_elim (λ e. old.searched.ends i c k e.0 e.1) (λ e. inr (last_kind c k e.1 e.2)) (of_both i c k at bt);
          edges = edges_on;
          in_order = subst AreInOrder (sym a.moves) old.searched.in_order;
          gap = subst (GapIs bounds b h) (sym a.gap) (gap_more f h f.gap (grows f h x o a) (sources_grow f h x o a) full old.searched.gap);
        }

    pub kept_new : Going bounds b n h
    kept_new = record {
      searched = searched_added;
      rules = subst (λ g. AreRules b g h.rules) (sym a.numbers) (subst (AreRules b f.numbers) (sym a.rules) old.rules);
      up_to = subst (AreUpTo n) (sym a.moves) old.up_to;
      gone = λ none i c below at.
          subst (λ es. IsGone bounds.clock (funs_of b) es i c) (sym a.moves)
          (old.gone (sym a.gap ∙ none) i c below
          (⊎_elim (λ e. e) (λ e. absurd (omega (arith, e.0, (count f h x o a)))) (before_or_last (states_of b f) one i c (subst (λ xs. slice_get xs i ≡ Some c) (states_added f h x o a) at))));
      looked = λ i c k below at bt. ⊎_elim (λ e. old.looked i c k below e.0 e.1) (λ e. absurd (omega (arith, e.0, (count f h x o a)))) (of_both i c k at bt);
      early = λ i c k above at bt. ⊎_elim (λ e. old.early i c k above e.0 e.1) (λ e. last_kind c k e.1 e.2) (of_both i c k at bt);
    }
