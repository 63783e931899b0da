-- What a clause says of the hands and of one hand.
use Rattle.std.specs.Prelude.{◌≡◌, ℕ, ◌+◌, ◌<◌, List, [], ◌∷◌, ◌++◌, length, Option, Some, if◌then◌else◌, ◌==◌}
use Rattle.rules_code.specs.declared.code.CodeBody.{CodeBody}
use Rattle.conc_hands.specs.declared.queues.view.QueueView.{QueueView}
use Rattle.conc_hands.specs.queues.QueueRule.{SameTickets}
use Rattle.conc_hands.specs.queues.Deques.{deque_view}
use Rattle.conc_hands.specs.queues.Inboxes.{IsInboxPass, inbox_view}
use Rattle.conc_hands.specs.declared.flags.view.Reading.{Reading}
use Rattle.conc_hands.specs.flags.Pens.{IsPenOf, view_of, flags_hands, flags_code}
use Rattle.conc_hands.specs.declared.hand.Hand.{Hand}
use Rattle.conc_hands.specs.declared.hands.Hands.{Hands}
use Rattle.conc_hands.specs.Ends.{IsEndOf, IsDealt, end_code, end_room, end_pushed, end_taken, EmptyAt}

-- the last hand has the shares of the inbox that the others leave of 16, and each other one
abbrev pub HasInboxShares : ℕ → ℕ → ℕ → Type 0
HasInboxShares count number shares = shares + (if number + 1 == count then count else 16) ≡ 17

module _ {J S : Type 0} where
  -- the code that all jobs and slices belong to
  abbrev pub hands_code : Hands J S → CodeBody
  hands_code h = flags_code h.flags

  -- how many hands there are
  abbrev pub hands_count : Hands J S → ℕ
  hands_count h = flags_hands h.flags

  abbrev pub number_of : Hand J S → ℕ
  number_of x = x.jobs.number

  abbrev pub room_of : Hand J S → ℕ
  room_of x = end_room x.jobs

  abbrev pub pushed_by : Hand J S → List ℕ
  pushed_by x = end_pushed x.jobs

  -- popped or stolen
  abbrev pub taken_by : Hand J S → List ℕ
  taken_by x = end_taken x.jobs

  abbrev pub inbox_view_of : Hand J S → QueueView
  inbox_view_of x = inbox_view x.post

  abbrev pub handed_in_by : Hand J S → List ℕ
  handed_in_by x = (inbox_view_of x).put

  abbrev pub collected_by : Hand J S → List ℕ
  collected_by x = (inbox_view_of x).taken

  abbrev pub raised_by : Hand J S → List ℕ
  raised_by x = (view_of x.pen).raised

  -- what it has read in the flags, as pairs of a word's place and the number there
  abbrev pub read_by : Hand J S → List Reading
  read_by x = (view_of x.pen).read

  -- what it knows of its own deque
  abbrev pub own_view : Hand J S → QueueView
  own_view x = deque_view x.jobs.deque

  -- a hand of this object
  pub record IsHandOf (h : Hands J S) (x : Hand J S) : Type 0 where
    pub doors : length h.doors.items ≡ hands_count h
    pub end : IsEndOf h.doors.items x.jobs
    pub dealt : IsDealt (hands_count h) x.jobs
    pub jobs_code : end_code x.jobs ≡ Some (hands_code h)
    pub post : IsInboxPass h.inbox x.post
    pub post_shares : HasInboxShares (hands_count h) (number_of x) (inbox_view_of x).shares
    pub slices_code : (inbox_view_of x).code ≡ Some (hands_code h)
    pub pen : IsPenOf h.flags x.pen
    pub one_share : (view_of x.pen).shares ≡ 1

  abbrev pub SameJobs : Hand J S → Hand J S → Type 0
  SameJobs x y = (pushed_by y ≡ pushed_by x) × (taken_by y ≡ taken_by x)

  abbrev pub SameSlices : Hand J S → Hand J S → Type 0
  SameSlices x y = (handed_in_by y ≡ handed_in_by x) × (collected_by y ≡ collected_by x)

  abbrev pub SameFlags : Hand J S → Hand J S → Type 0
  SameFlags x y = (raised_by y ≡ raised_by x) × (read_by y ≡ read_by x)

module _ {J S : Type 0} (number : J → ℕ) (belongs : J → CodeBody) where
  -- there is a state that meets the rule of the deque at `from`, with this hand's view, in which the deque is empty
  abbrev pub FoundEmpty : ℕ → Hand J S → Type 0
  FoundEmpty from x = EmptyAt number belongs from x.jobs

  -- this job was taken: it belongs to the code, and its ticket joins those that the hand took
  abbrev pub TookJob : CodeBody → Hand J S → Hand J S → J → Type 0
  TookJob code x y j = (belongs j ≡ code) × (pushed_by y ≡ pushed_by x) × SameTickets (taken_by y) (taken_by x ++ number j ∷ [])

module _ {J S : Type 0} (number : S → ℕ) (belongs : S → CodeBody) where
  -- this slice was taken: it belongs to the code, and its ticket joins those that the hand collected
  abbrev pub CollectedSlice : CodeBody → Hand J S → Hand J S → S → Type 0
  CollectedSlice code x y s = (belongs s ≡ code) × (handed_in_by y ≡ handed_in_by x) × (collected_by y ≡ collected_by x ++ number s ∷ [])
