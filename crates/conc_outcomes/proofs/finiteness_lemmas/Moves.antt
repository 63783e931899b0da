-- Moves as edges, by their places.
use Rattle.std.proofs.Common.{◌≡◌, ◌≤◌, ◌<◌, ◌+◌, ℕ, zero, suc, true, false, List, [], ◌∷◌, ◌++◌, drop, length, map, Some, slice_get, slice_set, get_or, refl, sym, ap, ◌∙◌, subst, arith, ltb, ltb-true, ltb-false}
use Rattle.std.proofs.lemmas.Option.{same_Some, slice_get_within, slice_get-get_or, get_or_from_slice_get}
use Rattle.std.specs.List.Sorted.{IsNonDecreasingBy}
use Rattle.search_laws.specs.Found.{Edge, AreInOrder}
use Rattle.state_search.specs.declared.found.Move.{Move}
use Rattle.state_search.specs.Meaning.{edge_of}
use Rattle.search_laws.specs.ends.Rounds.{IsRound}
use Rattle.conc_outcomes.specs.declared.finiteness.marks.Mark.{Mark}
use Rattle.conc_outcomes.specs.declared.finiteness.marks.Mark.TheVariants.{New, Open, Done}
use Rattle.conc_outcomes.specs.finiteness.Walks.{Walks, Goes, HaveRanks}
use Rattle.conc_outcomes.proofs.finiteness_lemmas.Steps.{skipped, skips_less, over_by, went, went_less, back_within, backed, backed_less, all_done, rounds}

pub edge_at : (ms : List Move) (k : ℕ) (m : Move) → slice_get ms k ≡ Some m → slice_get (map edge_of ms) k ≡ Some (edge_of m)
edge_at [] k m h = absurd (cc h)
edge_at (x ∷ ms) zero m h = ap (λ y. Some (edge_of y)) (same_Some x m h)
edge_at (x ∷ ms) (suc k) m h = edge_at ms k m h

pub move_at : (ms : List Move) (k : ℕ) (g : Edge) → slice_get (map edge_of ms) k ≡ Some g → (m : Move) × (slice_get ms k ≡ Some m) × (edge_of m ≡ g)
move_at [] k g h = absurd (cc h)
move_at (x ∷ ms) zero g h = (x, refl, same_Some (edge_of x) g h)
move_at (x ∷ ms) (suc k) g h = move_at ms k g h

pub as_many : (ms : List Move) → length (map edge_of ms) ≡ length ms
as_many [] = refl
as_many (m ∷ ms) = ap suc (as_many ms)

pub within : (ms : List Move) (k : ℕ) (g : Edge) → slice_get (map edge_of ms) k ≡ Some g → k < length ms
within ms k g is = let m = move_at ms k g is in slice_get_within ms k m.0 m.1

-- moves in order rise by where they lead from
pub rise : (ms : List Move) → AreInOrder (map edge_of ms) → IsNonDecreasingBy (λ (m : Move). m.from) ms
rise ms order i j d le lt =
    order i j (edge_of (get_or ms i d)) (edge_of (get_or ms j d)) le
    (edge_at ms i (get_or ms i d) (slice_get-get_or ms i d (omega (arith, le, lt))))
    (edge_at ms j (get_or ms j d) (slice_get-get_or ms j d lt))

-- where a search by halves in moves that rise stops, those before lead from lower states
pub lower : (ms : List Move) (state k : ℕ) (g : Edge) → ((d : Move) → ltb (get_or ms k d).from state ≡ true) → slice_get (map edge_of ms) k ≡ Some g → g.from < state
lower ms state k g h is =
    let m = move_at ms k g is in
    let f : (get_or ms k m.0).from ≡ g.from = ap (λ (y : Move). y.from) (get_or_from_slice_get ms k m.0 m.0 m.1) ∙ ap (λ (y : Edge). y.from) m.2 in
    omega (arith, ltb-true (get_or ms k m.0).from state (h m.0), f)

pub no_lower : (ms : List Move) (state k : ℕ) (g : Edge) → ((d : Move) → ltb (get_or ms k d).from state ≡ false) → slice_get (map edge_of ms) k ≡ Some g → state ≤ g.from
no_lower ms state k g h is =
    let m = move_at ms k g is in
    let f : (get_or ms k m.0).from ≡ g.from = ap (λ (y : Move). y.from) (get_or_from_slice_get ms k m.0 m.0 m.1) ∙ ap (λ (y : Edge). y.from) m.2 in
    omega (arith, ltb-false (get_or ms k m.0).from state (h m.0), f)

-- ---- the steps of a walk, by moves

module _ (ms : List Move) (marks : List Mark) (way : List ℕ) (at place : ℕ) (w : Walks (map edge_of ms) marks way at place) where
  abbrev edges : List Edge
  edges = map edge_of ms

  -- the next move leads from where the walk is to this state
  abbrev pub Leads : ℕ → Type 0
  Leads state = (g : Edge) × (slice_get edges place ≡ Some g) × (g.from ≡ at) × (g.to ≡ state)

  pub leads_at : (m : Move) → slice_get ms place ≡ Some m → m.from ≡ at → Leads m.to
  leads_at m is from = (edge_of m, edge_at ms place m is, from, refl)

  pub state_within : (state : ℕ) → Leads state → state < length marks
  state_within state l = let lt = (w.all place l.0 l.1).1 in omega (arith, lt, l.3)

  pub skip_at : (state : ℕ) → Leads state → slice_get marks state ≡ Some Done → Goes edges marks place marks way at (place + 1)
  skip_at state l done = (skipped edges marks way at place w l.0 l.1 (ap (slice_get marks) l.3 ∙ done), skips_less edges marks way at place w l.0 l.1)

  pub round_at : (state : ℕ) → Leads state → (d : ℕ) → slice_get marks state ≡ Some (Open d) → (items : List ℕ) → items ≡ drop d way ++ place ∷ [] → IsRound edges state items
  round_at state l d open_ items is =
      subst (λ ps. IsRound edges state ps) (sym is) (subst (λ s. IsRound edges s (drop d way ++ place ∷ [])) l.3 (rounds edges marks way at place w l.0 l.1 l.2 d (ap (slice_get marks) l.3 ∙ open_)))

  pub go_to : (state : ℕ) → Leads state → slice_get marks state ≡ Some New → (path : List ℕ) → path ≡ way ++ place ∷ [] → (d : ℕ) → d ≡ suc (length way) → (next : ℕ) → next ≤ length ms →
      ((k : ℕ) (g : Edge) → slice_get edges k ≡ Some g → k < next → g.from < state) → ((k : ℕ) (g : Edge) → slice_get edges k ≡ Some g → next ≤ k → state ≤ g.from) → Goes edges marks place (slice_set marks state (Open d)) path state next
  go_to state l new path is d depth next bound before behind =
      let g = l.0 in
      let fresh : slice_get marks g.to ≡ Some New = ap (slice_get marks) l.3 ∙ new in
      let walks = went edges marks way at place w g l.1 l.2 fresh d depth next (λ k h get lt. subst (λ s. h.from < s) (sym l.3) (before k h get lt)) (λ k h get le. subst (λ s. s ≤ h.from) (sym l.3) (behind k h get le)) (subst (λ n. next ≤ n) (sym (as_many ms)) bound) in
      let less = went_less edges marks way at place w g l.1 l.2 fresh d depth next (λ k h get lt. subst (λ s. h.from < s) (sym l.3) (before k h get lt)) (λ k h get le. subst (λ s. s ≤ h.from) (sym l.3) (behind k h get le)) (subst (λ n. next ≤ n) (sym (as_many ms)) bound) in
      subst (λ s. Goes edges marks place (slice_set marks s (Open d)) path s next) l.3 (subst (λ ps. Goes edges marks place (slice_set marks g.to (Open d)) ps g.to next) (sym is) (walks, less))

  module _ (order : AreInOrder edges) where
    pub over_at : ((m : Move) → slice_get ms place ≡ Some m → m.from ≡ at → ⊥) → (p : ℕ) (g : Edge) → slice_get edges p ≡ Some g → g.from ≡ at → p < place
    over_at none = over_by edges marks way at place w order (λ g is from. let m = move_at ms place g is in none m.0 m.1 (ap (λ (y : Edge). y.from) m.2 ∙ from))

    module _ (over : (p : ℕ) (g : Edge) → slice_get edges p ≡ Some g → g.from ≡ at → p < place) where
      pub ends_at : way ≡ [] → HaveRanks edges
      ends_at none = all_done edges marks way at place w over none

      pub back_in : (front : List ℕ) (q : ℕ) → way ≡ front ++ q ∷ [] → q < length ms
      back_in front q last = subst (λ n. q < n) (as_many ms) (back_within edges marks way at place w over front q last)

      pub back_at : (front : List ℕ) (q : ℕ) → way ≡ front ++ q ∷ [] → (d : Move) → Goes edges marks place (slice_set marks at Done) front (get_or ms q d).from (q + 1)
      back_at front q last d = (
        backed edges marks way at place w over front q last order (edge_of (get_or ms q d)) (edge_at ms q (get_or ms q d) (slice_get-get_or ms q d (back_in front q last))),
        backed_less edges marks way at place w over front q last,
      )
