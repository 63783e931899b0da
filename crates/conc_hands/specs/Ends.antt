-- What a hand has for jobs: its own deque, and a pass for each deque.
use Rattle.std.specs.Prelude.{◌≡◌, ◌≢◌, ℕ, zero, suc, ◌+◌, ◌<◌, ◌≤◌, List, [], ◌∷◌, ◌++◌, length, slice_get, Option, Some, Bool, true, false, ◌==◌}
use Rattle.rules_code.specs.declared.code.CodeBody.{CodeBody}
use Rattle.conc_hands.specs.declared.queues.view.QueueView.{QueueView}
use Rattle.conc_hands.specs.declared.queues.deque.Door.{Door}
use Rattle.conc_hands.specs.declared.queues.deque.DequePass.{DequePass}
use Rattle.conc_hands.specs.queues.QueueRule.{MetEmpty}
use Rattle.conc_hands.specs.queues.Deques.{deque_view, deque_id, door_id, room_of, pass_view, IsDequePass}
use Rattle.conc_hands.specs.declared.hand.JobsEnd.{JobsEnd}

-- a pass has put nothing. One with a share names the code, and one without has taken nothing
abbrev pub IsClean : Option CodeBody → QueueView → Type 0
IsClean code v = (v.put ≡ []) × (0 < v.shares → v.code ≡ code) × (v.shares ≡ 0 → v.taken ≡ [])

abbrev pub share_if : Bool → ℕ
share_if true = 0
share_if false = 1

-- the shares of the pass at place k of a hand with this number: none for its own deque
abbrev pub share_at : ℕ → ℕ → ℕ
share_at number k = share_if (number == k)

module _ {J : Type 0} where
  -- the code that its jobs belong to
  abbrev pub end_code : JobsEnd J → Option CodeBody
  end_code e = (deque_view e.deque).code

  abbrev pub end_room : JobsEnd J → ℕ
  end_room e = room_of e.deque

  -- the tickets that were taken through passes
  abbrev pub stolen_by : List (DequePass J) → List ℕ
  stolen_by [] = []
  stolen_by (p ∷ ps) = (pass_view p).taken ++ stolen_by ps

  abbrev pub end_pushed : JobsEnd J → List ℕ
  end_pushed e = (deque_view e.deque).put

  -- popped, and then stolen
  abbrev pub end_taken : JobsEnd J → List ℕ
  end_taken e = (deque_view e.deque).taken ++ stolen_by e.passes.items

  -- it is the owner of the deque that its number names, and each pass is of the deque that its place names
  pub record IsEndOf (doors : List (Door J)) (e : JobsEnd J) : Type 0 where
    pub place : e.number < length doors
    pub own : (d : Door J) → slice_get doors e.number ≡ Some d → deque_id e.deque ≡ door_id d
    pub few : length e.passes.items ≤ length doors
    pub passes_of : (k : ℕ) (p : DequePass J) → slice_get e.passes.items k ≡ Some p → (d : Door J) → slice_get doors k ≡ Some d → IsDequePass (door_id d) p
    pub clean : (k : ℕ) (p : DequePass J) → slice_get e.passes.items k ≡ Some p → IsClean (end_code e) (pass_view p)

  -- it has a pass for each of so many deques, with one share, but for its own none; of its own deque it has the shares that are left of 16
  pub record IsDealt (count : ℕ) (e : JobsEnd J) : Type 0 where
    pub all : length e.passes.items ≡ count
    pub own_shares : (deque_view e.deque).shares + count ≡ 17
    pub pass_shares : (k : ℕ) (p : DequePass J) → slice_get e.passes.items k ≡ Some p → (pass_view p).shares ≡ share_at e.number k

module _ {J : Type 0} (number : J → ℕ) (belongs : J → CodeBody) where
  -- there is a state that meets the rule of the deque at `from`, with the view of this pass, in which the deque is empty
  abbrev pub EmptyAt : ℕ → JobsEnd J → Type 0
  EmptyAt from e = (p : DequePass J) × (slice_get e.passes.items from ≡ Some p) × MetEmpty number belongs (pass_view p)
