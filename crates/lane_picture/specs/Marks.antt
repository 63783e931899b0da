-- The marks of a film (own), after the time lines of viewers of event logs such as ThreadScope: a lane for each thread and for
-- each cell, and a column for the first state and for each entry. What a lane shows in a column is what the entry leaves.
use Rattle.std.specs.Prelude.{ℕ, zero, suc, ◌+◌, ◌==◌, Bool, true, false, cond, ◌&&◌, List, [], ◌∷◌, ◌++◌, length, map, Option, Some, None, slice_get}
use Rattle.hs_base.specs.declared.mask.Mask.{Mask}
use Rattle.hs_base.specs.declared.mask.Mask.TheVariants.{Unmasked, Masked, Uninterruptible}
use Rattle.lane_picture.specs.declared.film.Doing.{Doing}
use Rattle.lane_picture.specs.declared.film.Doing.TheVariants.{Running, Taking, Reading, Putting, Throwing, Sleeping}
use Rattle.lane_picture.specs.declared.film.Pose.{Pose}
use Rattle.lane_picture.specs.declared.film.Event.{Event}
use Rattle.lane_picture.specs.declared.film.Event.TheVariants as event
use Rattle.lane_picture.specs.declared.film.Frame.{Frame}
use Rattle.lane_picture.specs.declared.film.Look.{Look}
use Rattle.lane_picture.specs.declared.film.Look.TheVariants as look
use Rattle.lane_picture.specs.declared.film.Lane.{Lane}
use Rattle.lane_picture.specs.declared.film.Lane.TheVariants as lane
use Rattle.lane_picture.specs.declared.spans.Span.{Span}

-- ---- what a mark stands for

pub data Sign : Type 0 where
  -- the lane shows this in each of the columns
  Stays : Look → Sign
  -- the entry of the column led from the first of the two frames to the other
  Happens : Frame → Frame → Sign
  -- the cell answers this thread, which waited there
  Answers : ℕ → Sign
  -- the thread waited at this cell, and nothing can serve it any more
  Strands : ℕ → Sign

pub record Mark : Type 0 where
  pub lane : Lane
  -- the first column, and the first behind the last
  pub from : ℕ
  pub to : ℕ
  pub sign : Sign

-- a mark in one column
abbrev pub at_column : Lane → ℕ → Sign → Mark
at_column l n s = record { lane = l; from = n; to = n + 1; sign = s }

-- ---- what a lane shows

abbrev pub thread_look : Option (Option Pose) → Option Look
thread_look None = None
thread_look (Some None) = None
thread_look (Some (Some p)) = Some (look.Thread p)

abbrev pub cell_look : Option Bool → Option Look
cell_look None = None
cell_look (Some full) = Some (look.Cell full)

-- nothing before a thread was forked and once it has finished, and nothing before a cell was made
abbrev pub look_at : Lane → Frame → Option Look
look_at (lane.Thread t) f = thread_look (slice_get f.poses t)
look_at (lane.Cell m) f = cell_look (slice_get f.cells m)
look_at lane.Clock f = None

-- ---- the same

abbrev pub same_doing : Doing → Doing → Bool
same_doing Running Running = true
same_doing (Taking m) (Taking n) = m == n
same_doing (Reading m) (Reading n) = m == n
same_doing (Putting m) (Putting n) = m == n
same_doing (Throwing t) (Throwing u) = t == u
same_doing (Sleeping a) (Sleeping b) = a == b
same_doing _ _ = false

abbrev pub same_mask : Mask → Mask → Bool
same_mask Unmasked Unmasked = true
same_mask Masked Masked = true
same_mask Uninterruptible Uninterruptible = true
same_mask _ _ = false

abbrev pub same_bool : Bool → Bool → Bool
same_bool true b = b
same_bool false true = false
same_bool false false = true

abbrev pub same_look : Look → Look → Bool
same_look (look.Thread p) (look.Thread q) = same_doing p.doing q.doing && same_mask p.mask q.mask
same_look (look.Cell a) (look.Cell b) = same_bool a b
same_look _ _ = false

-- ---- spans: the longest ranges of columns over which a lane shows the same

abbrev pub span : (from to : ℕ) → Look → Span
span a b l = record { from = a; to = b; look = l }

-- A column before others, whose spans these are: it belongs to the first where that begins right behind it and shows the same.
abbrev pub with_column : ℕ → Option Look → List Span → List Span
with_column n None ss = ss
with_column n (Some l) [] = span n (n + 1) l ∷ []
with_column n (Some l) (s ∷ ss) = cond ((s.from == n + 1) && same_look l s.look) (span n s.to s.look ∷ ss) (span n (n + 1) l ∷ s ∷ ss)

-- the spans of what a lane shows in the columns from this one on
abbrev pub spans_from : ℕ → List (Option Look) → List Span
spans_from n [] = []
spans_from n (x ∷ xs) = with_column n x (spans_from (n + 1) xs)

abbrev pub spans_of : List (Option Look) → List Span
spans_of xs = spans_from 0 xs

abbrev pub span_mark : Lane → Span → Mark
span_mark l s = record { lane = l; from = s.from; to = s.to; sign = Stays s.look }

abbrev pub lane_marks : List Frame → Lane → List Mark
lane_marks film l = map (span_mark l) (spans_of (map (look_at l) film))

-- ---- what happens in a column

abbrev pub waits_at : Doing → Option ℕ
waits_at Running = None
waits_at (Taking m) = Some m
waits_at (Reading m) = Some m
waits_at (Putting m) = Some m
waits_at (Throwing t) = None
waits_at (Sleeping due) = None

abbrev pub is_running : Doing → Bool
is_running Running = true
is_running _ = false

abbrev pub doing_of : Option (Option Pose) → Doing
doing_of None = Running
doing_of (Some None) = Running
doing_of (Some (Some p)) = p.doing

-- what thread t does in a frame; running where it isn't there
abbrev pub doing_in : Frame → ℕ → Doing
doing_in f t = doing_of (slice_get f.poses t)

-- thread k, which waited at a cell and waits no more: the cell answered it where an operation led here, and else it is stranded
abbrev pub freed : (n : ℕ) → Event → (k m : ℕ) → List Mark
freed n (event.Does t d) k m = at_column (lane.Cell m) n (Answers k) ∷ []
freed n event.Strands k m = at_column (lane.Thread k) n (Strands m) ∷ []
freed n _ k m = []

abbrev pub freed_by : (n : ℕ) → Event → (k : ℕ) → Option ℕ → Bool → List Mark
freed_by n e k None free = []
freed_by n e k (Some m) free = cond free (freed n e k m) []

abbrev pub freed_at : (n : ℕ) → Frame → Frame → ℕ → List Mark
freed_at n a b k = freed_by n b.event k (waits_at (doing_in a k)) (is_running (doing_in b k))

-- these of each number below, in order
abbrev pub all_below : {A : Type 0} → (ℕ → List A) → ℕ → List A
all_below f zero = []
all_below f (suc n) = all_below f n ++ f n

-- the lane of an event
abbrev pub lane_of : Event → Option Lane
lane_of event.Nothing = None
lane_of (event.Steps t k) = Some (lane.Thread t)
lane_of (event.Does t d) = Some (lane.Thread t)
lane_of (event.Receives t u e) = Some (lane.Thread t)
lane_of (event.Wakes t) = Some (lane.Thread t)
lane_of (event.Returns t) = Some (lane.Thread t)
lane_of (event.Fails t e) = Some (lane.Thread t)
lane_of (event.Ticks at) = Some lane.Clock
lane_of event.Strands = None

abbrev pub event_marks : (n : ℕ) → Option Lane → Frame → Frame → List Mark
event_marks n None a b = []
event_marks n (Some l) a b = at_column l n (Happens a b) ∷ []

-- the marks of column n, whose entry led from frame a to frame b
abbrev pub entry_marks : (n : ℕ) → Frame → Frame → List Mark
entry_marks n a b = event_marks n (lane_of b.event) a b ++ all_below (freed_at n a b) (length a.poses)

abbrev pub between : (n : ℕ) → Option Frame → Option Frame → List Mark
between n (Some a) (Some b) = entry_marks n a b
between n _ _ = []

-- the first column has none
abbrev pub column_marks : List Frame → ℕ → List Mark
column_marks film zero = []
column_marks film (suc n) = between (suc n) (slice_get film n) (slice_get film (suc n))

-- ---- all of them: those of each thread's lane, of each cell's, and of each column

abbrev pub marks_of : List Frame → (threads cells : ℕ) → List Mark
marks_of film threads cells =
    all_below (λ t. lane_marks film (lane.Thread t)) threads
    ++ all_below (λ m. lane_marks film (lane.Cell m)) cells
    ++ all_below (column_marks film) (length film)
