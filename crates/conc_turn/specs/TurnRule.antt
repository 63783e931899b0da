-- The rule of the turn, and what each step tells (own).
-- Word 0 is 1 while a seat has the turn, and else 0. The one slot has the value, and is out with the seat that has the turn.
use Rattle.std.specs.Prelude.{◌≡◌, ◌≢◌, ℕ, zero, suc, ◌+◌, ◌-◌, ◌<◌, true, false, List, [], ◌∷◌, length, Option, Some, None, if◌then◌else◌, leb}
use mathlib.Core.Option.{some, none}
use mathlib.Core.List.{IsPrefix}
use lib.ListN.{get_elem?}
use Rattle.atomic_table.specs.Table.{State, Me, Step}
use Rattle.hs_rules.specs.declared.kept.Plan.{Plan}
use Rattle.hs_rules.specs.declared.entry.Entry.{Entry}
use Rattle.conc_turn.specs.declared.view.View.{View}

abbrev pub total : (View → ℕ) → List View → ℕ
total f [] = 0
total f (v ∷ vs) = f v + total f vs

abbrev pub shares_in : View → ℕ
shares_in v = v.shares

-- a view that doesn't have the turn
abbrev pub view_with : Option Plan → List Entry → ℕ → ℕ → View
view_with plan seen shares lost = record { plan = plan; seen = seen; joined = []; found = []; holds = false; shares = shares; lost = lost }

-- What the rule asks of the view number `id`. `holder` is 0, or one more than the number of the view that has the turn; `top` is the history of the value at home, or the one with which it was found.
-- The view that has the turn is that one, has a share, and has found `top`. Each other view has seen a beginning of `top`.
-- A view with a share has the plan. One without has lost no try and has seen the empty history.
abbrev pub Fits : Plan → ℕ → List Entry → ℕ → View → Type 0
Fits plan holder top id v =
    (v.holds ≡ true → (holder ≡ suc id) × (v.found ≡ top) × (0 < v.shares))
    × (v.holds ≡ false → IsPrefix v.seen top × IsPrefix v.joined top)
    × (0 < v.shares → v.plan ≡ Some plan)
    × (v.shares ≡ 0 → (v.holds ≡ false) × (v.lost ≡ 0) × (v.seen ≡ []))

abbrev pub holding : View → List Entry → View
holding v found = record v { found = found; holds = true }

abbrev pub losing : View → View
losing v = record v { lost = v.lost + 1 }

abbrev pub giving : View → List Entry → View
giving v seen = record v { seen = seen; joined = []; found = []; holds = false }

-- the longer of two histories
abbrev pub longer : List Entry → List Entry → List Entry
longer xs ys = if leb (length xs) (length ys) then ys else xs

module _ {D : Type 0} (plan_of : D → Plan) (history_of : D → List Entry) where
  -- where the value is: at home, with the plan and the history `top`, while word 0 is 0; else out with the view that has the turn, while word 0 is 1
  abbrev pub Lies : Plan → ℕ → List Entry → State (Option D) View → Type 0
  Lies plan zero top s = (s.words ≡ 0 ∷ []) × ((d : D) × (s.homes ≡ some (Some d) ∷ []) × (plan_of d ≡ plan) × (history_of d ≡ top))
  Lies plan (suc id) top s = (s.words ≡ 1 ∷ []) × (s.homes ≡ none ∷ []) × ((v : View) × (get_elem? s.views id ≡ some v) × (v.holds ≡ true))

  -- the rule: it holds between any two steps
  pub record IsRuled (plan : Plan) (s : State (Option D) View) : Type 0 where
    pub holder : ℕ
    pub top : List Entry
    -- the shares of all views add up to 16
    pub whole : total shares_in s.views ≡ 16
    pub each : (id : ℕ) (v : View) → get_elem? s.views id ≡ some v → Fits plan holder top id v
    pub lies : Lies plan holder top s

  -- Take: where word 0 was 0, the seat has the turn, with a value of the plan whose history begins with what it had seen. Else word 0 was 1, and the seat has one lost try more
  abbrev pub tries_to_take : Step (Option D) → Me (Option D) View → ℕ → Me (Option D) View → Type 0
  tries_to_take st m r m' =
      (r ≡ 0 → (d : D) × (m' ≡ (holding m.0 (history_of d), (0, Some d) ∷ m.1)) × (Some (plan_of d) ≡ m.0.plan) × IsPrefix m.0.seen (history_of d))
      × (r ≢ 0 → (r ≡ 1) × (m' ≡ (losing m.0, m.1)))

module _ {D : Type 0} where
  -- Give: the seat has the turn no more, and has seen the history of the value that it gave
  abbrev pub gives_back : (D → List Entry) → Step (Option D) → Me (Option D) View → ℕ → Me (Option D) View → Type 0
  gives_back history_of st m r m' = (d : D) → m.1 ≡ (0, Some d) ∷ [] → m' ≡ (giving m.0 (history_of d), [])

  -- The load after a join: of the two histories that were seen the longer one stays, and both begin it
  abbrev pub compares : Step (Option D) → Me (Option D) View → ℕ → Me (Option D) View → Type 0
  compares st m r m' = (m' ≡ (record m.0 { seen = longer m.0.seen m.0.joined; joined = [] }, m.1)) × IsPrefix m.0.seen (longer m.0.seen m.0.joined) × IsPrefix m.0.joined (longer m.0.seen m.0.joined)

-- Split: what is left of a view that gives shares away, and the new view, which has them and has seen the same
abbrev pub left_of : ℕ → View → View
left_of n v = record v { shares = v.shares - n }

abbrev pub right_of : ℕ → View → View
right_of n v = view_with v.plan v.seen n 0

-- Join: the view that has the shares and the lost tries of both, and the one that is spent
abbrev pub both_of : View → View → View
both_of v w = record v { joined = w.seen; shares = v.shares + w.shares; lost = v.lost + w.lost }

abbrev pub spent_view : View
spent_view = view_with None [] 0 0
