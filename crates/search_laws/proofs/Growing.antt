-- What has been found stays right where more is found.
use Rattle.std.proofs.Common.{◌≡◌, ◌≤◌, ℕ, zero, suc, List, [], ◌∷◌, ◌++◌, length, Option, Some, None, slice_get, refl, sym, ap, ◌∙◌, subst, arith, ◌⊎◌, inl, inr, ⊎_elim}
use Rattle.std.proofs.lemmas.Option.{same_Some}
use Rattle.hs_base.specs.declared.clock_choice.ClockChoice.{ClockChoice}
use Rattle.hs_base.specs.declared.limits.Limits.{Limits}
use Rattle.hs_rules.specs.declared.entry.Entry.{Entry}
use Rattle.hs_rules.specs.declared.entry.Entry.TheVariants as entry
use Rattle.hs_rules.specs.declared.entry.LimitKind.TheVariants as limit
use Rattle.rules_code.specs.CodeTrees.{SlottedFunction}
use Rattle.slot_states.specs.SlotStates.{SlotState}
use Rattle.slot_states.specs.Resting.{used}
pub use Rattle.hs_laws.proofs.Lists.{item_append as there_before}
pub use Rattle.plain_laws.proofs.Lists.{get_last as there_last}
use Rattle.search_laws.specs.rests.Rests.{EagerMove}
use Rattle.search_laws.specs.Shown.{Shown}
use Rattle.search_laws.specs.Going.{EagerEntries}
use Rattle.search_laws.specs.Found.{Source, ComesOf, Comes, IsBefore, HasSource, HaveSources, Edge, IsTrueEdge, AreTrueEdges, AreInOrder, IsFollowed, IsGone}
use Rattle.search_laws.proofs.Candidates.{there_below}

-- ---- lists

-- what is there was there before, or is the last
pub before_or_last : {A : Type 0} → (xs : List A) (y : A) (i : ℕ) (x : A) → slice_get (xs ++ y ∷ []) i ≡ Some x → (slice_get xs i ≡ Some x) ⊎ ((i ≡ length xs) × (y ≡ x))
before_or_last [] y zero x e = inr (refl, same_Some y x e)
before_or_last [] y (suc i) x e = absurd (cc e)
before_or_last (z ∷ xs) y zero x e = inl e
before_or_last (z ∷ xs) y (suc i) x e = ⊎_elim (λ h. inl h) (λ h. inr (ap suc h.0, h.1)) (before_or_last xs y i x e)

-- ---- eager rules

-- one more eager local rule at the end
pub entries_more : (funs : List SlottedFunction) (most : ℕ) (ls : List Entry) (x y z : SlotState) (t : ℕ) → EagerEntries funs most ls x y → (move : EagerMove funs y z) → move.number ≡ t → used limit.Frames z ≤ most → EagerEntries funs most (ls ++ entry.Local t 1 ∷ []) x z
entries_more funs most [] x y z t h move is few = subst (λ q. EagerEntries funs most (entry.Local t 1 ∷ []) q z) (sym h) (z, move, ap (λ n. entry.Local n 1) (sym is), few, refl)
entries_more funs most (e ∷ es) x y z t (m, first, at, least, h) move is few = (m, first, at, least, entries_more funs most es m y z t h move is few)

module _ (clock : ClockChoice) (funs : List SlottedFunction) (limits : Limits) (first : SlotState) where
  -- ---- sources

  of_more : (states more : List Shown) (sources others : List Source) (q : Option Entry) (o : Source) (d : Shown) → ComesOf clock funs limits first states sources q o d → ComesOf clock funs limits first (states ++ more) (sources ++ others) q o d
  of_more states more sources others None o d h = h
  of_more states more sources others (Some e) o d h = record {
    parent = h.parent;
    is = there_before states more o.parent h.parent h.is;
    source = h.source;
    its = there_before sources others o.parent h.source h.its;
    takes = h.takes;
    steps = h.steps;
  }

  pub comes_more : (states more : List Shown) (sources others : List Source) (o : Source) (d : Shown) → Comes clock funs limits first states sources o d → Comes clock funs limits first (states ++ more) (sources ++ others) o d
  comes_more states more sources others o d h = of_more states more sources others o.entry o d h

  has_more : (states more : List Shown) (sources others : List Source) (i : ℕ) (c : Shown) → HasSource clock funs limits first states sources i c → HasSource clock funs limits first (states ++ more) (sources ++ others) i c
  has_more states more sources others i c h = record {
    source = h.source;
    is = there_before sources others i h.source h.is;
    before = h.before;
    comes = comes_more states more sources others h.source c h.comes;
  }

  -- one more state, with its source
  pub sources_more : (states : List Shown) (sources : List Source) (o : Source) (d : Shown) → HaveSources clock funs limits first states sources → length sources ≡ length states → Comes clock funs limits first states sources o d → IsBefore o.entry o.parent (length states) →
      HaveSources clock funs limits first (states ++ d ∷ []) (sources ++ o ∷ [])
  sources_more states sources o d have count comes before i c at =
      ⊎_elim
      (λ h. has_more states (d ∷ []) sources (o ∷ []) i c (have i c h))
      (λ h. subst (λ z. HasSource clock funs limits first (states ++ d ∷ []) (sources ++ o ∷ []) i z) h.1 (record {
        source = o;
        is = ap (slice_get (sources ++ o ∷ [])) (h.0 ∙ sym count) ∙ there_last sources o;
        before = subst (λ n. IsBefore o.entry o.parent n) (sym h.0) before;
        comes = comes_more states (d ∷ []) sources (o ∷ []) o d comes;
      }))
      (before_or_last states d i c at)

  -- ---- edges

  pub edge_more : (states more : List Shown) (g : Edge) → IsTrueEdge clock funs limits states g → IsTrueEdge clock funs limits (states ++ more) g
  edge_more states more g h = record {
    state = h.state;
    is = there_before states more g.from h.state h.is;
    other = h.other;
    there = there_before states more g.to h.other h.there;
    locals = h.locals;
    many = h.many;
    takes = h.takes;
  }

  pub edges_more : (states more : List Shown) (edges : List Edge) → AreTrueEdges clock funs limits states edges → AreTrueEdges clock funs limits (states ++ more) edges
  edges_more states more edges h k g at = edge_more states more g (h k g at)

  pub edges_one : (states : List Shown) (edges : List Edge) (g : Edge) → AreTrueEdges clock funs limits states edges → IsTrueEdge clock funs limits states g → AreTrueEdges clock funs limits states (edges ++ g ∷ [])
  edges_one states edges g h one k f at = ⊎_elim (λ q. h k f q) (λ q. subst (IsTrueEdge clock funs limits states) q.1 one) (before_or_last edges g k f at)

  -- ---- what is gone on from

  pub gone_more : (edges others : List Edge) (i : ℕ) (c : Shown) → IsGone clock funs edges i c → IsGone clock funs (edges ++ others) i c
  gone_more edges others i c h e may z is =
      let l = h e may z is in
      record { place = l.place; edge = l.edge; is = there_before edges others l.place l.edge l.is; from = l.from; entry = l.entry }

pub followed_more : (funs : List SlottedFunction) (edges others : List Edge) (i : ℕ) (c : Shown) (e : Entry) → IsFollowed funs edges i c e → IsFollowed funs (edges ++ others) i c e
followed_more funs edges others i c e h z is =
    let l = h z is in
    record { place = l.place; edge = l.edge; is = there_before edges others l.place l.edge l.is; from = l.from; entry = l.entry }

pub followed_last : (funs : List SlottedFunction) (edges : List Edge) (g : Edge) (i : ℕ) (c : Shown) (e : Entry) → g.from ≡ i → g.entry ≡ e → IsFollowed funs (edges ++ g ∷ []) i c e
followed_last funs edges g i c e from is z h = record { place = length edges; edge = g; is = there_last edges g; from = from; entry = is }

-- edges from states up to this one
abbrev pub AreUpTo : ℕ → List Edge → Type 0
AreUpTo n edges = (k : ℕ) (g : Edge) → slice_get edges k ≡ Some g → g.from ≤ n

pub up_to_one : (n : ℕ) (edges : List Edge) (g : Edge) → AreUpTo n edges → g.from ≡ n → AreUpTo n (edges ++ g ∷ [])
up_to_one n edges g h is k f at = ⊎_elim (λ q. h k f q) (λ q. subst (λ (z : Edge). z.from ≤ n) q.1 (omega (arith, is))) (before_or_last edges g k f at)

pub order_one : (n : ℕ) (edges : List Edge) (g : Edge) → AreUpTo n edges → AreInOrder edges → g.from ≡ n → AreInOrder (edges ++ g ∷ [])
order_one n edges g up order is k l a b le at bt =
    ⊎_elim
    (λ q. ⊎_elim (λ p. order k l a b le p q) (λ p. absurd (let w = there_below edges l b q in omega (arith, p.0))) (before_or_last edges g k a at))
    (λ q. subst (λ (z : Edge). a.from ≤ z.from) q.1
    (⊎_elim (λ p. let u = up k a p in omega (arith, u, is)) (λ p. subst (λ (z : Edge). z.from ≤ g.from) p.1 (omega arith)) (before_or_last edges g k a at)))
    (before_or_last edges g l b bt)
