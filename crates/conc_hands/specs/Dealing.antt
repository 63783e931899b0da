-- What the hands are made of.
use Rattle.std.specs.Prelude.{◌≡◌, ℕ, ◌+◌, ◌-◌, ◌<◌, ◌≤◌, List, [], ◌∷◌, length, slice_get, Option, Some, Bool, true, false, ◌==◌}
use Rattle.std.specs.declared.alloc.Global.{Global}
use Rattle.std.specs.declared.vec.Vec.{Vec}
use Rattle.std.specs.Int.{IsNextPowerOfTwo}
use Rattle.rules_code.specs.declared.code.CodeBody.{CodeBody}
use Rattle.conc_hands.specs.declared.queues.view.QueueView.{QueueView}
use Rattle.conc_hands.specs.declared.queues.deque.Deque.{Deque}
use Rattle.conc_hands.specs.declared.queues.deque.Door.{Door}
use Rattle.conc_hands.specs.declared.queues.deque.DequePass.{DequePass}
use Rattle.conc_hands.specs.queues.QueueRule.{view_with, spent}
use Rattle.conc_hands.specs.queues.Deques.{deque_view, deque_id, door_id, room_of, pass_view, IsDequePass}
use Rattle.conc_hands.specs.declared.hand.Hand.{Hand}
use Rattle.conc_hands.specs.declared.hands.Hands.{Hands}
use Rattle.conc_hands.specs.Hands.{HasInboxShares, IsHandOf, number_of, pushed_by, taken_by, handed_in_by, collected_by, raised_by, read_by}
use Rattle.conc_hands.specs.Hands as hands

-- the view of a new pass: spent where it is the owner's
abbrev pub dealt_if : Option CodeBody → Bool → QueueView
dealt_if code true = spent
dealt_if code false = view_with code 1 [] []

-- the view of a new inbox pass of the hand with this number
abbrev pub IsDealtPost : CodeBody → ℕ → ℕ → QueueView → Type 0
IsDealtPost code count number v = (v.code ≡ Some code) × (v.put ≡ []) × (v.taken ≡ []) × HasInboxShares count number v.shares

module _ {J : Type 0} where
  -- the passes of one hand, by deque
  pub record IsRow (doors : List (Door J)) (code : CodeBody) (number : ℕ) (ps : List (DequePass J)) : Type 0 where
    pub views : (k : ℕ) (p : DequePass J) → slice_get ps k ≡ Some p → pass_view p ≡ dealt_if (Some code) (number == k)
    pub ids : (k : ℕ) (p : DequePass J) → slice_get ps k ≡ Some p → (d : Door J) → slice_get doors k ≡ Some d → IsDequePass (door_id d) p

  -- the row of the hand with this number has so many passes
  abbrev pub IsRowOf : List (Door J) → CodeBody → ℕ → ℕ → Vec (DequePass J) Global → Type 0
  IsRowOf doors code count number row = (length row.items ≡ count) × IsRow doors code number row.items

  -- the rows of the hands from this number on
  abbrev pub AreRows : List (Door J) → CodeBody → ℕ → ℕ → List (Vec (DequePass J) Global) → Type 0
  AreRows doors code count first rows = (q : ℕ) (row : Vec (DequePass J) Global) → slice_get rows q ≡ Some row → IsRowOf doors code count (q + first) row

  -- the same while passes of the deque number `own` are dealt: the rows below `at` have theirs
  abbrev pub AreDealt : List (Door J) → CodeBody → ℕ → ℕ → List (Vec (DequePass J) Global) → Type 0
  AreDealt doors code own at rows = (q : ℕ) (row : Vec (DequePass J) Global) → slice_get rows q ≡ Some row
      → (q < at → length row.items ≡ own + 1) × (at ≤ q → length row.items ≡ own) × IsRow doors code q row.items

  -- an empty deque at its owner, which has dealt its shares
  abbrev pub IsDequeOf : List (Door J) → CodeBody → ℕ → ℕ → Deque J → Type 0
  IsDequeOf doors code caps number d =
      (deque_view d ≡ view_with (Some code) (17 - caps) [] []) × IsNextPowerOfTwo 64 (room_of d) × ((door : Door J) → slice_get doors number ≡ Some door → deque_id d ≡ door_id door)

  -- the deques of the hands from this number on
  abbrev pub AreDeques : List (Door J) → CodeBody → ℕ → ℕ → List (Deque J) → Type 0
  AreDeques doors code caps first ds = (q : ℕ) (d : Deque J) → slice_get ds q ≡ Some d → IsDequeOf doors code caps (q + first) d

  pub record IsLaidOut (code : CodeBody) (caps : ℕ) (ds : List (Deque J)) (doors : List (Door J)) (rs : List (Vec (DequePass J) Global)) : Type 0 where
    pub deque_count : length ds ≡ caps
    pub door_count : length doors ≡ caps
    pub row_count : length rs ≡ caps
    pub deques : AreDeques doors code caps 0 ds
    pub rows : AreRows doors code caps 0 rs

module _ {J S : Type 0} where
  -- a hand with empty lists, and the room of a new deque
  abbrev pub IsFresh : Hand J S → Type 0
  IsFresh x = IsNextPowerOfTwo 64 (hands.room_of x) × (pushed_by x ≡ []) × (taken_by x ≡ []) × (handed_in_by x ≡ []) × (collected_by x ≡ []) × (raised_by x ≡ []) × (read_by x ≡ [])

  -- hands of this object, in order of number, with empty lists
  abbrev pub AreFresh : Hands J S → List (Hand J S) → Type 0
  AreFresh h xs = (k : ℕ) (x : Hand J S) → slice_get xs k ≡ Some x → IsHandOf h x × (number_of x ≡ k) × IsFresh x
