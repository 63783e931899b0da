-- What a clause says of a list of hands.
use Rattle.std.specs.Prelude.{◌≡◌, ℕ, ◌-◌, List, [], ◌∷◌, ◌++◌, All}
use Rattle.std.specs.Vec.{vec_len, vec_capacity}
use Rattle.conc_hands.specs.declared.flags.view.Reading.{Reading}
use Rattle.conc_hands.specs.declared.hand.Hand.{Hand}
use Rattle.conc_hands.specs.declared.list.HandList.{HandList}
use Rattle.conc_hands.specs.Hands.{pushed_by, taken_by, handed_in_by, collected_by, raised_by, read_by}

module _ {J S : Type 0} where
  abbrev pub hands_in : HandList J S → List (Hand J S)
  hands_in l = l.hands.items

  -- how many more hands fit
  abbrev pub spare_in : HandList J S → ℕ
  spare_in l = vec_capacity l.hands - vec_len l.hands

  -- the hands are of the object that this hand is of
  abbrev pub FromOneObject : List (Hand J S) → Hand J S → Type 0
  FromOneObject xs hand = All (λ (x : Hand J S). x.pen.seat.table_id ≡ hand.pen.seat.table_id) xs

  -- the lists of all hands, one after the other
  abbrev pub joined_over : {A : Type 0} → (Hand J S → List A) → List (Hand J S) → List A
  joined_over f [] = []
  joined_over f (x ∷ xs) = f x ++ joined_over f xs

  abbrev pub all_pushed : List (Hand J S) → List ℕ
  all_pushed xs = joined_over pushed_by xs

  abbrev pub all_taken : List (Hand J S) → List ℕ
  all_taken xs = joined_over taken_by xs

  abbrev pub all_handed_in : List (Hand J S) → List ℕ
  all_handed_in xs = joined_over handed_in_by xs

  abbrev pub all_collected : List (Hand J S) → List ℕ
  all_collected xs = joined_over collected_by xs

  abbrev pub all_raised : List (Hand J S) → List ℕ
  all_raised xs = joined_over raised_by xs

  abbrev pub all_read : List (Hand J S) → List Reading
  all_read xs = joined_over read_by xs
