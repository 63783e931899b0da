-- One cell (`MVar`) alone: a content and a line of waiting threads, in any type of values V.
--
-- The documentation of `Control.Concurrent.MVar`: a cell is empty or holds a value; `takeMVar` waits while it is empty
-- and `putMVar` while it is full; waiting threads are served first in, first out, one at a time ("single-wakeup").
-- `readMVar` is one atomic read, and blocked readers are served before takers, all at once.
use Rattle.std.specs.Prelude.{ℕ, ◌==◌, Bool, true, false, cond, List, [], ◌∷◌, ◌++◌, Option, Some, None}

-- what a thread in the line waits for: to take a value, to read it, or to put this one
pub data Want (V : Type 0) : Type 0 where
  To_take : Want V
  To_read : Want V
  To_put : V → Want V

-- a place in the line
pub record Place (V : Type 0) : Type 0 where
  pub thread : ℕ
  pub want : Want V

-- a cell: empty or a value, and its line, the longest waiting first
pub record Cell (V : Type 0) : Type 0 where
  pub content : Option V
  pub line : List (Place V)

-- the calls on a cell, each with the thread that makes it; Make is the first, with the first content
pub data Call (V : Type 0) : Type 0 where
  Make : ℕ → Option V → Call V
  Take : ℕ → Call V
  Read : ℕ → Call V
  Put : ℕ → V → Call V
  Try_take : ℕ → Call V
  Try_put : ℕ → V → Call V
  Leave : ℕ → Call V

-- what a call answers a thread: the cell itself, a take's value, a read's value, (), or what a call that never waits found
pub data Answer (V : Type 0) : Type 0 where
  Made : Answer V
  Took : V → Answer V
  Saw : V → Answer V
  Gave : Answer V
  Tried_take : Option V → Answer V
  Tried_put : Bool → Answer V

-- an answer and the thread that gets it
pub record Reply (V : Type 0) : Type 0 where
  pub thread : ℕ
  pub answer : Answer V

-- a cell after a call, and whom the call answered, in order
pub record After (V : Type 0) : Type 0 where
  pub cell : Cell V
  pub replies : List (Reply V)

module _ {V : Type 0} where
  -- a cell with that content and line
  abbrev pub cell_of : Option V → List (Place V) → Cell V
  cell_of o ps = record { content = o; line = ps }

  abbrev pub reply_of : ℕ → Answer V → Reply V
  reply_of t a = record { thread = t; answer = a }

  abbrev pub after_of : Cell V → List (Reply V) → After V
  after_of c rs = record { cell = c; replies = rs }

  -- a thread leaves a line: every place but its own stays
  abbrev pub leaves_line : ℕ → List (Place V) → List (Place V)
  leaves_line t [] = []
  leaves_line t (p ∷ ps) = cond (p.thread == t) (leaves_line t ps) (p ∷ leaves_line t ps)

  -- whether a thread stands in a line
  abbrev pub stands_in : ℕ → List (Place V) → Bool
  stands_in t [] = false
  stands_in t (p ∷ ps) = cond (p.thread == t) true (stands_in t ps)

  -- a thread joins a line at its end
  abbrev pub joins_line : ℕ → Want V → List (Place V) → List (Place V)
  joins_line t w ps = ps ++ record { thread = t; want = w } ∷ []

  -- the value that a place wants to put
  abbrev pub put_of : Want V → Option V
  put_of To_take = None
  put_of To_read = None
  put_of (To_put v) = Some v

  abbrev pub takes_it : Want V → Bool
  takes_it To_take = true
  takes_it To_read = false
  takes_it (To_put v) = false

  abbrev pub reads_it : Want V → Bool
  reads_it To_take = false
  reads_it To_read = true
  reads_it (To_put v) = false

  -- the first of a line that waits to put, with its value
  abbrev pub first_put : List (Place V) → Option (ℕ × V)
  first_put [] = None
  first_put (p ∷ ps) = elim (put_of p.want) [ None ↦ first_put ps | Some v ↦ Some (p.thread, v) ]

  -- the first of a line that waits to take
  abbrev pub first_take : List (Place V) → Option ℕ
  first_take [] = None
  first_take (p ∷ ps) = cond (takes_it p.want) (Some p.thread) (first_take ps)

  -- those of a line that wait to read, in order
  abbrev pub readers : List (Place V) → List ℕ
  readers [] = []
  readers (p ∷ ps) = cond (reads_it p.want) (p.thread ∷ readers ps) (readers ps)

  -- these threads leave a line
  abbrev pub leave_line : List ℕ → List (Place V) → List (Place V)
  leave_line [] ps = ps
  leave_line (t ∷ ts) ps = leave_line ts (leaves_line t ps)

  -- each of these threads is answered what it reads
  abbrev pub shown : V → List ℕ → List (Reply V)
  shown v [] = []
  shown v (t ∷ ts) = reply_of t (Saw v) ∷ shown v ts

  -- a cell as it is made
  abbrev pub made : Option V → Cell V
  made o = cell_of o []

  -- The content was taken, and these were answered: the first put of the line, if any, moves in and its thread is
  -- answered (); else the cell is empty.
  abbrev pub moves_in : Option (ℕ × V) → List (Place V) → List (Reply V) → After V
  moves_in None ps rs = after_of (cell_of None ps) rs
  moves_in (Some w) ps rs = after_of (cell_of (Some w.1) (leaves_line w.0 ps)) (rs ++ reply_of w.0 Gave ∷ [])

  -- A value comes to an empty cell in whose line nobody reads, after these were answered: the first take of the line, if
  -- any, is answered it and the cell stays empty; else it is the content. Then this thread is answered so.
  abbrev pub comes_on : V → Option ℕ → List (Place V) → List (Reply V) → Reply V → After V
  comes_on v None ps rs r = after_of (cell_of (Some v) ps) (rs ++ r ∷ [])
  comes_on v (Some u) ps rs r = after_of (cell_of None (leaves_line u ps)) (rs ++ reply_of u (Took v) ∷ r ∷ [])

  -- A value comes to an empty cell: every read of the line is answered it, in order, and then it goes on.
  abbrev pub comes_in : V → List (Place V) → Reply V → After V
  comes_in v ps r = comes_on v (first_take ps) (leave_line (readers ps) ps) (shown v (readers ps)) r

  -- One call: on this content and line, what is left and who is answered.
  -- take: waits on an empty cell; else is answered the content, and a waiting put moves in.
  -- read: waits on an empty cell; else is answered the content, which stays.
  -- put: waits on a full cell; else its value goes to all that wait to read, and then to the first that waits to take, or
  -- stays.
  -- The calls that never wait do the same where they can, and else answer so and change nothing.
  abbrev pub called : Call V → Option V → List (Place V) → After V
  called (Make t o) c ps = after_of (made o) (reply_of t Made ∷ [])
  called (Take t) None ps = after_of (cell_of None (joins_line t To_take ps)) []
  called (Take t) (Some v) ps = moves_in (first_put ps) ps (reply_of t (Took v) ∷ [])
  called (Read t) None ps = after_of (cell_of None (joins_line t To_read ps)) []
  called (Read t) (Some v) ps = after_of (cell_of (Some v) ps) (reply_of t (Saw v) ∷ [])
  called (Put t v) (Some w) ps = after_of (cell_of (Some w) (joins_line t (To_put v) ps)) []
  called (Put t v) None ps = comes_in v ps (reply_of t Gave)
  called (Try_take t) None ps = after_of (cell_of None ps) (reply_of t (Tried_take None) ∷ [])
  called (Try_take t) (Some v) ps = moves_in (first_put ps) ps (reply_of t (Tried_take (Some v)) ∷ [])
  called (Try_put t v) (Some w) ps = after_of (cell_of (Some w) ps) (reply_of t (Tried_put false) ∷ [])
  called (Try_put t v) None ps = comes_in v ps (reply_of t (Tried_put true))
  called (Leave t) c ps = after_of (cell_of c (leaves_line t ps)) []

  abbrev pub call : Call V → Cell V → After V
  call q c = called q c.content c.line
