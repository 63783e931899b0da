-- What is gathered at the end.
use Rattle.std.specs.Prelude.{◌≡◌, ℕ, zero, suc, ◌+◌, ◌<◌, List, [], ◌∷◌, length, map, set, slice_get, Some}
use Rattle.std.specs.declared.alloc.Global.{Global}
use Rattle.atomic_blocks.specs.Lent.{RowsId}
use Rattle.conc_hands.specs.declared.queues.deque.Door.{Door}
use Rattle.conc_hands.specs.declared.queues.deque.DequePass.{DequePass}
use Rattle.conc_hands.specs.declared.queues.inbox.Inbox.{Inbox}
use Rattle.conc_hands.specs.queues.QueueRule.{weigh, SameTickets, spent}
use Rattle.conc_hands.specs.queues.Deques.{deque_view, pass_view, IsDequePass}
use Rattle.conc_hands.specs.queues.Inboxes.{IsInboxPass}
use Rattle.conc_hands.specs.declared.flags.flags.Flags.{Flags}
use Rattle.conc_hands.specs.flags.Pens.{IsPenOf, view_of}
use Rattle.conc_hands.specs.declared.hand.Hand.{Hand}
use Rattle.conc_hands.specs.declared.hand.JobsEnd.{JobsEnd}
use Rattle.conc_hands.specs.Ends.{IsEndOf, stolen_by, end_pushed, end_taken}
use Rattle.conc_hands.specs.Hands.{inbox_view_of}

-- k where the two numbers are the same, and else 0
abbrev pub if_same : ℕ → ℕ → ℕ → ℕ
if_same zero zero k = k
if_same zero (suc n) k = 0
if_same (suc m) zero k = 0
if_same (suc m) (suc n) k = if_same m n k

abbrev pub total_over : {A : Type 0} → (A → ℕ) → List A → ℕ
total_over f [] = 0
total_over f (x ∷ xs) = f x + total_over f xs

-- the number at a place, or 0
abbrev pub number_in : List ℕ → ℕ → ℕ
number_in [] k = 0
number_in (n ∷ ns) zero = n
number_in (n ∷ ns) (suc k) = number_in ns k

module _ {J : Type 0} where
  -- the shares of the pass at place n
  abbrev pub share_of_pass : ℕ → List (DequePass J) → ℕ
  share_of_pass n [] = 0
  share_of_pass zero (p ∷ ps) = (pass_view p).shares
  share_of_pass (suc n) (p ∷ ps) = share_of_pass n ps

  -- the shares that a hand has of deque n
  abbrev pub shares_of_deque : ℕ → JobsEnd J → ℕ
  shares_of_deque n e = if_same e.number n (deque_view e.deque).shares + share_of_pass n e.passes.items

  abbrev pub pushed_weight : (ℕ → ℕ) → JobsEnd J → ℕ
  pushed_weight h e = weigh h (end_pushed e)

  abbrev pub taken_weight : (ℕ → ℕ) → JobsEnd J → ℕ
  taken_weight h e = weigh h (end_taken e)

  abbrev pub numbers_of : List (JobsEnd J) → List ℕ
  numbers_of es = map (λ (e : JobsEnd J). e.number) es

  abbrev pub number_at : List (JobsEnd J) → ℕ → ℕ
  number_at es k = number_in (numbers_of es) k

  -- hands of one object, each with a pass for each deque
  abbrev pub AreEnds : List (Door J) → List (JobsEnd J) → Type 0
  AreEnds doors es = (i : ℕ) (e : JobsEnd J) → slice_get es i ≡ Some e → IsEndOf doors e × (length e.passes.items ≡ length doors)

  -- of each deque they have all shares, and one of them is its owner
  abbrev pub AreDealt : List (Door J) → List (JobsEnd J) → Type 0
  AreDealt doors es = (n : ℕ) → n < length doors → (total_over (shares_of_deque n) es ≡ 16) × (total_over (λ (e : JobsEnd J). if_same e.number n 1) es ≡ 1)

  -- each owner has all shares of its deque, and its passes have taken nothing
  abbrev pub AreWhole : List (JobsEnd J) → Type 0
  AreWhole es = (i : ℕ) (e : JobsEnd J) → slice_get es i ≡ Some e → ((deque_view e.deque).shares ≡ 16) × (stolen_by e.passes.items ≡ [])

  -- from the deques of the hands below this place all that was pushed was taken
  abbrev pub AreEmptyBelow : ℕ → List (JobsEnd J) → Type 0
  AreEmptyBelow at es = (i : ℕ) (e : JobsEnd J) → i < at → slice_get es i ≡ Some e → SameTickets (end_pushed e) (end_taken e)

  abbrev pub IsEmptyAt : ℕ → List (JobsEnd J) → Type 0
  IsEmptyAt at es = (e : JobsEnd J) → slice_get es at ≡ Some e → SameTickets (end_pushed e) (end_taken e)

  abbrev pub SameTotals : List (JobsEnd J) → List (JobsEnd J) → Type 0
  SameTotals es fs = (h : ℕ → ℕ) → (total_over (pushed_weight h) fs ≡ total_over (pushed_weight h) es) × (total_over (taken_weight h) fs ≡ total_over (taken_weight h) es)

  -- a ticket joined the taken ones
  abbrev pub TotalsTaken : ℕ → List (JobsEnd J) → List (JobsEnd J) → Type 0
  TotalsTaken n es fs = (h : ℕ → ℕ) → (total_over (pushed_weight h) fs ≡ total_over (pushed_weight h) es) × (total_over (taken_weight h) fs ≡ total_over (taken_weight h) es + h n)

  -- the tickets that are left: what was pushed is what was taken together with them, each as often
  abbrev pub AreJobsIn : List (JobsEnd J) → List ℕ → Type 0
  AreJobsIn es left = (h : ℕ → ℕ) → total_over (pushed_weight h) es ≡ total_over (taken_weight h) es + weigh h left

  -- the pass at place n of hand q is spent
  abbrev pub IsSpentAt : List (JobsEnd J) → ℕ → ℕ → Type 0
  IsSpentAt es q n = (e : JobsEnd J) (p : DequePass J) → slice_get es q ≡ Some e → slice_get e.passes.items n ≡ Some p → pass_view p ≡ spent

  -- nothing is lost: the numbers stay, and so does what is over all hands. A pass that is spent stays so
  pub record IsConserved (es fs : List (JobsEnd J)) : Type 0 where
    pub numbers : numbers_of fs ≡ numbers_of es
    pub shares : (n : ℕ) → total_over (shares_of_deque n) fs ≡ total_over (shares_of_deque n) es
    pub pushed : (h : ℕ → ℕ) → total_over (pushed_weight h) fs ≡ total_over (pushed_weight h) es
    pub taken : (h : ℕ → ℕ) → total_over (taken_weight h) fs ≡ total_over (taken_weight h) es
    pub spent_stays : (q n : ℕ) → IsSpentAt es q n → IsSpentAt fs q n

  -- the pass at this place was taken out, and a spent one of the same deque put in its place
  abbrev pub Swapped : RowsId × Global → ℕ → JobsEnd J → JobsEnd J → Type 0
  Swapped id place e f = (f.number ≡ e.number) × (f.deque ≡ e.deque) × ((p : DequePass J) × (f.passes.items ≡ set e.passes.items place p) × (pass_view p ≡ spent) × IsDequePass id p)

module _ {J S : Type 0} where
  abbrev pub ends_in : List (Hand J S) → List (JobsEnd J)
  ends_in xs = map (λ (x : Hand J S). x.jobs) xs

  -- its pass is of the inbox and has shares, and its pen is of the flags and has one share
  abbrev pub HasRights : Inbox S → Flags → Hand J S → Type 0
  HasRights inbox flags x = (IsInboxPass inbox x.post × (0 < (inbox_view_of x).shares)) × (IsPenOf flags x.pen × ((view_of x.pen).shares ≡ 1))

  abbrev pub HaveRights : Inbox S → Flags → List (Hand J S) → Type 0
  HaveRights inbox flags xs = (i : ℕ) (x : Hand J S) → slice_get xs i ≡ Some x → HasRights inbox flags x

  abbrev pub shares_over : List (Hand J S) → ℕ
  shares_over [] = 0
  shares_over (x ∷ xs) = (inbox_view_of x).shares + shares_over xs
