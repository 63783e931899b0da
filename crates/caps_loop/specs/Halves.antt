-- What a half of the capabilities has to run with (own).
use Rattle.std.specs.Prelude.{◌≡◌, ℕ, ◌<◌, ◌≤◌, All, length, vec_len}
use Rattle.rules_code.specs.Codes.{body_of}
use Rattle.rules_code.specs.declared.code.Code.{Code}
use Rattle.hs_rules.specs.declared.kept.Plan.{Plan}
use Rattle.conc_turn.specs.declared.seat.Seat.{Seat}
use Rattle.conc_turn.specs.declared.turn.Turn.{Turn}
use Rattle.conc_turn.specs.Seats.{shares_of}
use Rattle.conc_turn.specs.Turns.{IsSeatOf, turn_plan}
use Rattle.conc_hands.specs.declared.hands.Hands.{Hands}
use Rattle.conc_hands.specs.declared.list.HandList.{HandList}
use Rattle.conc_hands.specs.Hands.{IsHandOf, hands_code, hands_count}
use Rattle.conc_hands.specs.Lists.{hands_in}
use Rattle.caps_visits.specs.declared.parkers.Parkers.{Parkers}

module _ {D J S : Type 0} (plan_of : D → Plan) where
  -- so many capabilities with a seat of the turn, which has a share for each, and a hand for each; and what all share fits together
  pub record IsHalf (turn : Turn D) (hands : Hands J S) (code : Code) (parkers : Parkers) (seat : Seat) (list : HandList J S) (count : ℕ) : Type 0 where
    pub seated : IsSeatOf plan_of turn seat
    pub some : 0 < count
    pub shared : count ≤ shares_of seat
    pub handed : length (hands_in list) ≡ count
    pub own : All (IsHandOf hands) (hands_in list)
    pub planned : hands_code hands ≡ (turn_plan plan_of turn).body
    pub coded : body_of code ≡ hands_code hands
    pub berthed : vec_len parkers.berths ≡ hands_count hands
