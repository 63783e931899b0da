-- A walk along the edges of a search, in depth (own).
use Rattle.std.specs.Prelude.{◌≡◌, ◌≤◌, ◌<◌, ◌+◌, ◌-◌, ◌*◌, ℕ, suc, List, [], ◌∷◌, length, Option, Some, None, slice_get}
use Rattle.search_laws.specs.Found.{Edge}
use Rattle.search_laws.specs.ends.Rounds.{RanksFall, IsRound}
use Rattle.conc_outcomes.specs.declared.finiteness.marks.Mark.{Mark}
use Rattle.conc_outcomes.specs.declared.finiteness.marks.Mark.TheVariants.{New, Open, Done}
use Rattle.conc_outcomes.specs.declared.finiteness.marks.Ends.{Ends}
use Rattle.conc_outcomes.specs.declared.finiteness.marks.Ends.TheVariants.{Never, Round}

-- each edge leads from one of so many states to one of them
abbrev pub AreWithin : ℕ → List Edge → Type 0
AreWithin count edges = (p : ℕ) (g : Edge) → slice_get edges p ≡ Some g → (g.from < count) × (g.to < count)

-- Ranks of what is done: each edge from there leads to what is done, and lower by more than the eager rules behind its entry.
abbrev pub DoneRanks : List Edge → List Mark → (ℕ → ℕ) → Type 0
DoneRanks edges marks rank = (p : ℕ) (g : Edge) → slice_get edges p ≡ Some g → slice_get marks g.from ≡ Some Done → (slice_get marks g.to ≡ Some Done) × (g.eager + rank g.to < rank g.from)

-- A walk whose path has the edges at these places is at this state, and is to look at the edge of this place.
pub record Walks (edges : List Edge) (marks : List Mark) (way : List ℕ) (at place : ℕ) : Type 0 where
  pub all : AreWithin (length marks) edges
  pub began : slice_get marks 0 ≡ Some (Open 0)
  pub here : slice_get marks at ≡ Some (Open (length way))
  -- each edge of the path leads from the state that is open at its depth to the next
  pub on : (j p : ℕ) → slice_get way j ≡ Some p → (g : Edge) × (slice_get edges p ≡ Some g) × (slice_get marks g.from ≡ Some (Open j)) × (slice_get marks g.to ≡ Some (Open (suc j)))
  pub deep : (i d : ℕ) → slice_get marks i ≡ Some (Open d) → d ≤ length way
  -- no two states are open at one depth
  pub alone : (i k d : ℕ) → slice_get marks i ≡ Some (Open d) → slice_get marks k ≡ Some (Open d) → i ≡ k
  -- what leads from an open state, and was looked at before the edge of the path, leads to what is done
  pub tried : (p : ℕ) (g : Edge) → slice_get edges p ≡ Some g → (j q : ℕ) → slice_get marks g.from ≡ Some (Open j) → slice_get way j ≡ Some q → p < q → slice_get marks g.to ≡ Some Done
  pub tried_here : (p : ℕ) (g : Edge) → slice_get edges p ≡ Some g → g.from ≡ at → p < place → slice_get marks g.to ≡ Some Done
  pub ranks : (rank : ℕ → ℕ) × DoneRanks edges marks rank
  -- nothing else that leads from where the walk is stands before the place
  pub ahead : (p : ℕ) (g : Edge) → slice_get edges p ≡ Some g → place ≤ p → at ≤ g.from
  pub within : place ≤ length edges

-- ---- how much is left

abbrev pub mark_weight : Mark → ℕ
mark_weight New = 2
mark_weight (Open d) = 1
mark_weight Done = 0

abbrev pub weight : List Mark → ℕ
weight [] = 0
weight (m ∷ ms) = mark_weight m + weight ms

-- for each new state two more steps than there are edges, for each open one half of that, and one for each edge ahead
abbrev pub left : List Edge → List Mark → ℕ → ℕ
left edges marks place = weight marks * (length edges + 1) + (length edges - place)

-- ---- the answer

-- there are ranks of some states, the first among them, that fall along each edge
abbrev pub HaveRanks : List Edge → Type 0
HaveRanks edges = (rank : ℕ → Option ℕ) × RanksFall edges rank × (n : ℕ) × (rank 0 ≡ Some n)

abbrev pub Judges : List Edge → Ends → Type 0
Judges edges Never = HaveRanks edges
Judges edges (Round at moves) = IsRound edges at moves.items

-- a walk goes on, with less left
abbrev pub Goes : List Edge → List Mark → ℕ → List Mark → List ℕ → ℕ → ℕ → Type 0
Goes edges old old_place marks way at place = Walks edges marks way at place × (left edges marks place < left edges old old_place)

-- a step of a walk has the answer, or it goes on
abbrev pub Answers : List Edge → List Mark → ℕ → List Mark → List ℕ → ℕ → ℕ → Option Ends → Type 0
Answers edges old old_place marks way at place None = Goes edges old old_place marks way at place
Answers edges old old_place marks way at place (Some e) = Judges edges e
