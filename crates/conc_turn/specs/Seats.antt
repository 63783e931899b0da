-- What a clause says of a seat.
use Rattle.std.specs.Prelude.{◌≡◌, ℕ, ◌<◌, List, Option, Some}
use mathlib.Core.List.{IsPrefix}
use Rattle.atomic_table.specs.Seated.{TableId}
use Rattle.hs_rules.specs.declared.kept.Plan.{Plan}
use Rattle.hs_rules.specs.declared.entry.Entry.{Entry}
use Rattle.conc_turn.specs.declared.view.View.{View}
use Rattle.conc_turn.specs.declared.seat.Seat.{Seat}
use Rattle.conc_turn.specs.Views.{view_in}

abbrev pub view_of : Seat → View
view_of s = view_in s.badge.views

abbrev pub plan_of : Seat → Option Plan
plan_of s = (view_of s).plan

-- the history that it has seen
abbrev pub seen_by : Seat → List Entry
seen_by s = (view_of s).seen

abbrev pub shares_of : Seat → ℕ
shares_of s = (view_of s).shares

-- its lost tries
abbrev pub lost_by : Seat → ℕ
lost_by s = (view_of s).lost

-- a seat of this table, which has the plan and a share
abbrev pub IsSeatAt : TableId → Plan → Seat → Type 0
IsSeatAt id plan s = (s.badge.table_id ≡ id) × (plan_of s ≡ Some plan) × (0 < shares_of s)

-- The seat b is the seat a later on: of the same turn, with the same plan and shares. What it has seen begins with what a had seen
abbrev pub IsLater : Seat → Seat → Type 0
IsLater a b = (b.badge.table_id ≡ a.badge.table_id) × (plan_of b ≡ plan_of a) × (shares_of b ≡ shares_of a) × IsPrefix (seen_by a) (seen_by b)
