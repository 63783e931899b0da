-- What a clause says of the end, and of what is left.
use Rattle.std.specs.Prelude.{◌≡◌, ℕ, zero, suc, List, [], ◌∷◌, ◌++◌, map, slice_get, Some}
use Rattle.hs_rules.specs.declared.kept.Ticketed.{Ghosts}
use Rattle.conc_hands.specs.queues.QueueRule.{SameTickets}
use Rattle.conc_hands.specs.queues.Inboxes.{inbox_view}
use Rattle.conc_hands.specs.declared.hand.Hand.{Hand}
use Rattle.conc_hands.specs.declared.hands.Hands.{Hands}
use Rattle.conc_hands.specs.declared.left.JobsLeft.{JobsLeft}
use Rattle.conc_hands.specs.declared.left.SlicesLeft.{SlicesLeft}
use Rattle.conc_hands.specs.Hands.{IsHandOf, hands_count, number_of}
use Rattle.conc_hands.specs.Gathering.{ends_in, AreJobsIn}

-- the numbers below n
abbrev pub up_to : ℕ → List ℕ
up_to zero = []
up_to (suc n) = up_to n ++ n ∷ []

module _ {J S : Type 0} where
  -- the hands of this object, each number once
  pub record AreAllHands (h : Hands J S) (xs : List (Hand J S)) : Type 0 where
    pub of_object : (i : ℕ) (x : Hand J S) → slice_get xs i ≡ Some x → IsHandOf h x
    pub once : SameTickets (map (λ (x : Hand J S). number_of x) xs) (up_to (hands_count h))

  -- the tickets of the jobs that are left: what was pushed is what was taken together with them, each as often
  abbrev pub AreJobs : {g : Ghosts S} → JobsLeft J S g → List ℕ → Type 0
  AreJobs l left = AreJobsIn (ends_in l.hands.items) left

module _ {S : Type 0} where
  -- the tickets of the slices that are left: what was handed in is what was collected together with them
  abbrev pub AreSlices : SlicesLeft S → List ℕ → Type 0
  AreSlices l left = SameTickets (inbox_view l.pass).put ((inbox_view l.pass).taken ++ left)
