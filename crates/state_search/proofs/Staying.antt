-- What has been found stays right where a state is done with.
use Rattle.std.proofs.Common.{◌≡◌, ◌<◌, ◌+◌, ℕ, zero, suc, List, [], ◌∷◌, length, map, Option, Some, None, slice_get, slice_set, get_or, Bool, true, false, refl, sym, ap, ◌∙◌, subst, arith, append-nil, ◌⊎◌, inl, inr, ⊎_elim}
use Rattle.std.proofs.lemmas.List.{length-set, set-get_or}
use Rattle.std.specs.Option.{is_some}
use Rattle.std.proofs.lemmas.Option.{same_Some}
use Rattle.plain_laws.proofs.Numbers.{below_or_last}
use Rattle.hs_base.specs.declared.clock_choice.ClockChoice.{ClockChoice}
use Rattle.hs_base.specs.declared.clock_choice.ClockChoice.TheVariants.{Real, Virtual}
use Rattle.hs_rules.specs.declared.entry.Entry.{Entry}
use Rattle.hs_rules.specs.declared.entry.Entry.TheVariants as entry
use Rattle.rules_code.specs.declared.code.CodeBody.{CodeBody}
use Rattle.rules_code.specs.CodeTrees.{SlottedFunction}
use Rattle.rules_waiting.specs.Waiting.{Sleeper, earliest}
use Rattle.outcome_laws.specs.Outcomes as laws
use Rattle.outcome_listing.specs.declared.bounds.Bounds.{Bounds}
use Rattle.outcome_listing.specs.declared.explored.Final.{Final}
use Rattle.outcome_listing.specs.Finals.{final_of}
use Rattle.slot_states.specs.SlotStates.{SlotState}
use Rattle.local_steps.specs.Machine.{funs_of}
use Rattle.number_states.specs.declared.state.NumberState.{NumberState}
use Rattle.number_states.proofs.Changes.{got_mapped, got_read}
use Rattle.search_laws.specs.Shown.{Shown}
use Rattle.search_laws.specs.Going.{IsStill, MayTake}
use Rattle.search_laws.specs.Found.{Edge, IsFollowed, IsGone, IsStuck, EndsAs, HasKind, ended_by}
use Rattle.state_search.specs.declared.found.Found.{Found}
use Rattle.state_search.specs.Meaning.{shown, states_of, sources_of, edges_of, kinds_of, kind_of}
use Rattle.state_search.specs.Searching.{Searched}
use Rattle.state_search.specs.Working.{Going, Extends, IsTried, MayBeTaken, IsStillAt, settled}
use Rattle.state_search.proofs.Keeping.{gap_more}
use Rattle.state_search.proofs.Trying.{here_on}
use Rattle.hs_laws.proofs.Later.{none_earliest}

-- ---- done with one more

-- the search has gone on from the state of this number too, and knows how it has ended
pub going_next : (bounds : Bounds) (b : CodeBody) (n : ℕ) (f : Found) → Going bounds b n f → (f.gap ≡ None → (c : Shown) → slice_get (states_of b f) n ≡ Some c → IsGone bounds.clock (funs_of b) (edges_of f) n c)
    → ((c : Shown) (k : Option laws.Final) → slice_get (states_of b f) n ≡ Some c → slice_get (kinds_of f) n ≡ Some k → HasKind (funs_of b) c k) → Going bounds b (n + 1) f
going_next bounds b n f going gone kind = record {
  searched = going.searched;
  rules = going.rules;
  up_to = λ k g at. let h = going.up_to k g at in omega arith;
  gone = λ none i c below at.
      ⊎_elim (λ lt. going.gone none i c lt at) (λ is. subst (λ m. IsGone bounds.clock (funs_of b) (edges_of f) m c) (sym is) (gone none c (subst (λ m. slice_get (states_of b f) m ≡ Some c) is at))) (below_or_last i n below);
  looked = λ i c k below at bt.
      ⊎_elim (λ lt. going.looked i c k lt at bt) (λ is. kind c k (subst (λ m. slice_get (states_of b f) m ≡ Some c) is at) (subst (λ m. slice_get (kinds_of f) m ≡ Some k) is bt)) (below_or_last i n below);
  early = λ i c k above at bt. going.early i c k (omega arith) at bt;
}

-- ---- how it has ended

-- where something can go on, as main has
pub kind_unstuck : (funs : List SlottedFunction) (x : SlotState) (o : Option laws.Final) → (IsStuck funs x → ⊥) → EndsAs funs x o o
kind_unstuck funs x None h = h
kind_unstuck funs x (Some laws.Done) h = refl
kind_unstuck funs x (Some laws.Uncaught) h = refl
kind_unstuck funs x (Some laws.Deadlock) h = refl

-- so in what has been found
pub kind_early : (bounds : Bounds) (b : CodeBody) (n : ℕ) (f : Found) → Going bounds b n f → ((c : Shown) → slice_get (states_of b f) n ≡ Some c → IsStuck (funs_of b) c.slots → ⊥) → (c : Shown) (k : Option laws.Final) → slice_get (states_of b f) n ≡ Some c → slice_get (kinds_of f) n ≡ Some k → HasKind (funs_of b) c k
kind_early bounds b n f going free c k at bt =
    subst (EndsAs (funs_of b) c.slots (ended_by (slice_get c.slots.threads 0))) (sym (going.early n c k (omega arith) at bt)) (kind_unstuck (funs_of b) c.slots (ended_by (slice_get c.slots.threads 0)) (free c at))

-- where nothing can
kind_stuck : (funs : List SlottedFunction) (x : SlotState) (k : Option Final) (o : Option laws.Final) → kind_of k ≡ o → IsStuck funs x → EndsAs funs x o (kind_of (settled k))
kind_stuck funs x None o e h = subst (λ z. EndsAs funs x z (Some laws.Deadlock)) e h
kind_stuck funs x (Some f) o e h = subst (λ z. EndsAs funs x z (Some (final_of f))) e refl

-- ---- where no entry but a Tick has a next state

-- the search has gone on if it has by a Tick
pub still_gone : (clock : ClockChoice) (funs : List SlottedFunction) (edges : List Edge) (i : ℕ) (c : Shown) → IsStill funs c.slots → ((at : ℕ) → MayTake clock funs c.slots (entry.Tick at) → IsFollowed funs edges i c (entry.Tick at)) → IsGone clock funs edges i c
still_gone clock funs edges i c still tick (entry.Tick at) m z h = tick at m z h
still_gone clock funs edges i c still tick (entry.Local t k) m z h = let no = still (entry.Local t k) (λ q. q) in absurd (cc (no, h))
still_gone clock funs edges i c still tick (entry.Op t) m z h = let no = still (entry.Op t) (λ q. q) in absurd (cc (no, h))
still_gone clock funs edges i c still tick (entry.Receive t) m z h = let no = still (entry.Receive t) (λ q. q) in absurd (cc (no, h))
still_gone clock funs edges i c still tick (entry.Wake t) m z h = let no = still (entry.Wake t) (λ q. q) in absurd (cc (no, h))
still_gone clock funs edges i c still tick (entry.Finish t) m z h = let no = still (entry.Finish t) (λ q. q) in absurd (cc (no, h))
still_gone clock funs edges i c still tick entry.Stranded m z h = let no = still entry.Stranded (λ q. q) in absurd (cc (no, h))

pub somebody_sleeps : (ss : List Sleeper) (due : ℕ) → earliest ss ≡ Some due → ss ≡ [] → ⊥
somebody_sleeps [] due e is = cc e
somebody_sleeps (s ∷ ss) due e is = cc is

-- ---- a kind is settled

nothing_there : {A : Type 0} → (xs : List A) (i : ℕ) (k : A) → xs ≡ [] → slice_get xs i ≡ Some k → ⊥
nothing_there [] zero k e h = cc h
nothing_there [] (suc i) k e h = cc h
nothing_there (x ∷ xs) i k e h = cc e

set_there : {A B : Type 0} → (g : A → B) (xs : List A) (n : ℕ) (y : A) (i : ℕ) (k : B) → slice_get (map g (slice_set xs n y)) i ≡ Some k → ((i ≡ n) × (g y ≡ k)) ⊎ ((i ≡ n → ⊥) × (slice_get (map g xs) i ≡ Some k))
set_there g [] zero y i k e = absurd (nothing_there [] i k refl e)
set_there g [] (suc n) y i k e = absurd (nothing_there [] i k refl e)
set_there g (x ∷ xs) zero y zero k e = inl (refl, same_Some (g y) k e)
set_there g (x ∷ xs) zero y (suc i) k e = inr (λ h. omega (arith, h), e)
set_there g (x ∷ xs) (suc n) y zero k e = inr (λ h. omega (arith, h), e)
set_there g (x ∷ xs) (suc n) y (suc i) k e = ⊎_elim (λ h. inl (ap suc h.0, h.1)) (λ h. inr (λ q. h.0 (omega (arith, q)), h.1)) (set_there g xs n y i k e)

known_same : (k : Option Final) → is_some k ≡ true → settled k ≡ k
known_same None some = absurd (cc some)
known_same (Some f) some = refl

-- one that is known is left as it is
pub settled_known : (ks : List (Option Final)) (n : ℕ) (x k : Option Final) → n < length ks → x ≡ get_or ks n x → is_some x ≡ true → slice_get ks n ≡ Some k → ks ≡ slice_set ks n (settled k)
settled_known ks n x k below is some at =
    let same : x ≡ k = same_Some x k (sym (got_read ks n x below is) ∙ at) in
    sym (ap (slice_set ks n) (known_same k (subst (λ z. is_some z ≡ true) same some) ∙ (sym same ∙ is)) ∙ set-get_or ks n x)

module _ (bounds : Bounds) (b : CodeBody) (n : ℕ) (f h : Found) (k : Option Final) (same : h ≡ record f { kinds = h.kinds }) (kinds : h.kinds.items ≡ slice_set f.kinds.items n (settled k)) (was : slice_get f.kinds.items n ≡ Some k) (going : Going bounds b n f)
    (stuck : (c : Shown) → slice_get (states_of b f) n ≡ Some c → IsStuck (funs_of b) c.slots) where
  abbrev with_kinds : Found
  with_kinds = record f { kinds = h.kinds }

  -- a kind is that of this number, or was there
  kind_there : (i : ℕ) (q : Option laws.Final) → slice_get (kinds_of with_kinds) i ≡ Some q → ((i ≡ n) × (kind_of (settled k) ≡ q)) ⊎ ((i ≡ n → ⊥) × (slice_get (kinds_of f) i ≡ Some q))
  kind_there i q at = set_there kind_of f.kinds.items n (settled k) i q (subst (λ ks. slice_get (map kind_of ks) i ≡ Some q) kinds at)

  kind_here : (i : ℕ) (c : Shown) (q : Option laws.Final) → i ≡ n → kind_of (settled k) ≡ q → slice_get (states_of b f) i ≡ Some c → HasKind (funs_of b) c q
  kind_here i c q is kind at =
      let here = subst (λ m. slice_get (states_of b f) m ≡ Some c) is at in
      subst (HasKind (funs_of b) c) kind (kind_stuck (funs_of b) c.slots k (ended_by (slice_get c.slots.threads 0)) (going.early n c (kind_of k) (omega arith) here (got_mapped kind_of f.kinds.items n k was)) (stuck c here))

  searched_settled : Searched bounds b with_kinds
  searched_settled =
      let s = going.searched in
      record {
        apart = s.apart;
        origins = s.origins;
        kinds = ap length kinds ∙ (length-set f.kinds.items n (settled k) ∙ s.kinds);
        few = s.few;
        there = s.there;
        sources = s.sources;
        short = s.short;
        ends = λ i c q at bt. ⊎_elim (λ e. inl (kind_here i c q e.0 e.1 at)) (λ e. s.ends i c q at e.1) (kind_there i q bt);
        edges = s.edges;
        in_order = s.in_order;
        gap = gap_more bounds b f with_kinds f.gap ([], sym (append-nil (states_of b f))) ([], sym (append-nil (sources_of f))) (λ e. e) s.gap;
      }

  stuck_gone : (c : Shown) → slice_get (states_of b f) n ≡ Some c → IsGone bounds.clock (funs_of b) (edges_of f) n c
  stuck_gone c at =
      let s = stuck c at in
      still_gone bounds.clock (funs_of b) (edges_of f) n c s.0 (λ t m. absurd (let e : ◌≡◌ {A = Option ℕ} None (Some t) = sym (ap earliest s.1) ∙ m.2 in cc e))

  pub going_settled : Going bounds b (n + 1) h
  going_settled = subst (Going bounds b (n + 1)) (sym same) (record {
    searched = searched_settled;
    rules = going.rules;
    up_to = λ l g at. let q = going.up_to l g at in omega arith;
    gone = λ none i c below at.
        ⊎_elim (λ lt. going.gone none i c lt at) (λ is. subst (λ m. IsGone bounds.clock (funs_of b) (edges_of f) m c) (sym is) (stuck_gone c (subst (λ m. slice_get (states_of b f) m ≡ Some c) is at))) (below_or_last i n below);
    looked = λ i c q below at bt.
        ⊎_elim (λ e. kind_here i c q e.0 e.1 at)
        (λ e. ⊎_elim (λ lt. going.looked i c q lt at e.1) (λ is. absurd (e.0 is)) (below_or_last i n below)) (kind_there i q bt);
    early = λ i c q above at bt. ⊎_elim (λ e. absurd (omega (arith, e.0))) (λ e. going.early i c q (omega arith) at e.1) (kind_there i q bt);
  })

-- ---- a state that stays

-- an entry that was tried has its edge, where it has a next state
pub followed_tried : (bounds : Bounds) (b : CodeBody) (f : Found) (n : ℕ) (e : Entry) (r : Bool) → IsTried bounds b f n e r → f.gap ≡ None → (c : Shown) → slice_get (states_of b f) n ≡ Some c → IsFollowed (funs_of b) (edges_of f) n c e
followed_tried bounds b f n e true tried none c at z h = (tried c at).1 none z h
followed_tried bounds b f n e false tried none c at z h = let no = tried c at in absurd (cc (no, h))

module _ (bounds : Bounds) (b : CodeBody) (n : ℕ) (f : Found) (state : NumberState) (going : Going bounds b n f) (still : IsStillAt b f n) (is : slice_get f.states n ≡ Some state) where
  abbrev one : Shown
  one = shown f.numbers b state

  here : slice_get (states_of b f) n ≡ Some one
  here = got_mapped (shown f.numbers b) f.states n state is

  is_one : (c : Shown) → slice_get (states_of b f) n ≡ Some c → one ≡ c
  is_one c at = same_Some one c (sym here ∙ at)

  pub stays_stuck : earliest one.slots.sleepers ≡ None → (c : Shown) → slice_get (states_of b f) n ≡ Some c → IsStuck (funs_of b) c.slots
  stays_stuck nobody c at = subst (λ (z : Shown). IsStuck (funs_of b) z.slots) (is_one c at) (still one here, none_earliest one.slots.sleepers nobody)

  module _ (due : ℕ) (sleeps : earliest one.slots.sleepers ≡ Some due) where
    free : (c : Shown) → one ≡ c → IsStuck (funs_of b) c.slots → ⊥
    free c e stuck = somebody_sleeps one.slots.sleepers due sleeps (subst (λ (z : Shown). z.slots.sleepers ≡ []) (sym e) stuck.1)

    -- in real timing there is no Tick
    pub stays_real : bounds.clock ≡ Real → Going bounds b (n + 1) f
    stays_real real = going_next bounds b n f going
        (λ none c at. still_gone bounds.clock (funs_of b) (edges_of f) n c (still c at) (λ t m. absurd (let e : ◌≡◌ {A = ClockChoice} Real Virtual = sym real ∙ m.0 in cc e)))
        (kind_early bounds b n f going (λ c at. free c (is_one c at)))

    pub may_tick : bounds.clock ≡ Virtual → MayBeTaken bounds b f n (entry.Tick due)
    may_tick virtual c at = subst (λ (z : Shown). MayTake bounds.clock (funs_of b) z.slots (entry.Tick due)) (is_one c at) (virtual, still one here, sleeps)

    -- in virtual timing there is one
    pub stays_tick : (h : Found) (r : Bool) → Extends b f h → Going bounds b n h → IsTried bounds b h n (entry.Tick due) r → Going bounds b (n + 1) h
    stays_tick h r more later tried =
        let at_h = here_on b f h n one more here in
        let same : (c : Shown) → slice_get (states_of b h) n ≡ Some c → one ≡ c = λ c at. same_Some one c (sym at_h ∙ at) in
        going_next bounds b n h later
        (λ none c at. still_gone bounds.clock (funs_of b) (edges_of h) n c (subst (λ (z : Shown). IsStill (funs_of b) z.slots) (same c at) (still one here))
        (λ t m. subst (λ u. IsFollowed (funs_of b) (edges_of h) n c (entry.Tick u)) (same_Some due t (sym sleeps ∙ subst (λ (z : Shown). earliest z.slots.sleepers ≡ Some t) (sym (same c at)) m.2)) (followed_tried bounds b h n (entry.Tick due) r tried none c at)))
        (kind_early bounds b n h later (λ c at. free c (same c at)))
