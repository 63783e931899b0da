-- What a clause says of a turn, and of the turn while somebody has it.
use Rattle.std.specs.Prelude.{◌≡◌, ℕ, ◌+◌, ◌<◌, true, List, [], ◌∷◌, Option, Some, None}
use Rattle.atomic_table.specs.Seated.{TableId}
use Rattle.hs_rules.specs.declared.kept.Plan.{Plan}
use Rattle.hs_rules.specs.declared.entry.Entry.{Entry}
use Rattle.conc_turn.specs.declared.view.View.{View}
use Rattle.conc_turn.specs.declared.seat.Seat.{Seat}
use Rattle.conc_turn.specs.declared.turn.Turn.{Turn}
use Rattle.conc_turn.specs.declared.turn.Held.{Held}
use Rattle.conc_turn.specs.declared.turn.Tried.{Tried}
use Rattle.conc_turn.specs.declared.turn.Tried.TheVariants.{Got, Busy}
use Rattle.conc_turn.specs.Seats.{IsSeatAt, seen_by, shares_of, lost_by}
use mathlib.Core.List.{IsPrefix}

module _ {D : Type 0} where
  abbrev pub turn_table : Turn D → TableId
  turn_table t = t.table.shared.table_id

module _ {D : Type 0} (plan_of : D → Plan) where
  -- the plan of a turn is that of the value that it was made with
  abbrev pub turn_plan : Turn D → Plan
  turn_plan t = plan_of t.table.shared.key.value

  -- a seat of this turn
  abbrev pub IsSeatOf : Turn D → Seat → Type 0
  IsSeatOf t s = IsSeatAt (turn_table t) (turn_plan t) s

module _ {D : Type 0} where
  abbrev pub held_view : Held D → View
  held_view h = h.seat.me.0

  abbrev pub held_table : Held D → TableId
  held_table h = h.seat.table_id

  -- the plan that the seat knows
  abbrev pub held_plan : Held D → Option Plan
  held_plan h = (held_view h).plan

  -- the history that the value had at the take
  abbrev pub found_by : Held D → List Entry
  found_by h = (held_view h).found

  abbrev pub held_shares : Held D → ℕ
  held_shares h = (held_view h).shares

  abbrev pub held_lost : Held D → ℕ
  held_lost h = (held_view h).lost

  -- the value that is held
  abbrev pub value_in : Held D → D
  value_in h = h.kept

  -- the same with another value
  abbrev pub with_value : Held D → D → Held D
  with_value h d = record h { kept = d }

  -- its seat has the turn, with the slot empty; so each is that came from a take
  abbrev pub IsTaken : Held D → Type 0
  IsTaken h = (held_table h ≡ turn_table h.turn.now) × ((held_view h).holds ≡ true) × (0 < held_shares h) × ((held_view h).joined ≡ []) × (h.seat.me.1 ≡ (0, None) ∷ [])

  abbrev pub MatchTried : Tried D → (Held D → Type 0) → (Seat → ℕ → Type 0) → Type 0
  MatchTried (Got h) P Q = P h
  MatchTried (Busy s w) P Q = Q s w

module _ {D : Type 0} (plan_of : D → Plan) (history_of : D → List Entry) where
  -- This turn, taken, with a value of its plan. The history of the value is the one that was found
  abbrev pub IsHeldOf : Turn D → Held D → Type 0
  IsHeldOf t h =
      IsTaken h × (held_table h ≡ turn_table t) × (held_plan h ≡ Some (turn_plan plan_of t))
      × (plan_of (value_in h) ≡ turn_plan plan_of t) × (history_of (value_in h) ≡ found_by h)

  -- a try that got the turn: what the seat had seen begins the value's history, and its shares and lost tries are the seat's
  abbrev pub IsGot : Turn D → Seat → Held D → Type 0
  IsGot t s h = IsHeldOf t h × IsPrefix (seen_by s) (history_of (value_in h)) × (held_shares h ≡ shares_of s) × (held_lost h ≡ lost_by s)

module _ {D : Type 0} (plan_of : D → Plan) where
  -- a try that found the turn taken: the word was 1, and the seat is as it was, with one lost try more
  abbrev pub IsLost : Turn D → Seat → Seat → ℕ → Type 0
  IsLost t old s word = (word ≡ 1) × IsSeatOf plan_of t s × (seen_by s ≡ seen_by old) × (shares_of s ≡ shares_of old) × (lost_by s ≡ lost_by old + 1)
