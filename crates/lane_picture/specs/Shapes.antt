-- What is drawn for each mark (own).
use Rattle.std.specs.Prelude.{ℕ, ◌+◌, nat_lt, nat_le, Bool, true, false, cond, List, [], ◌++◌, length, codes}
use Rattle.hs_base.specs.declared.mask.Mask.{Mask}
use Rattle.hs_base.specs.declared.mask.Mask.TheVariants.{Unmasked, Masked, Uninterruptible}
use Rattle.lane_picture.specs.declared.film.Doing.{Doing}
use Rattle.lane_picture.specs.declared.film.Doing.TheVariants.{Running, Taking, Reading, Putting, Throwing, Sleeping}
use Rattle.lane_picture.specs.declared.film.Deed.{Deed}
use Rattle.lane_picture.specs.declared.film.Deed.TheVariants as deed
use Rattle.lane_picture.specs.declared.film.Event.{Event}
use Rattle.lane_picture.specs.declared.film.Event.TheVariants as event
use Rattle.lane_picture.specs.declared.film.Frame.{Frame}
use Rattle.lane_picture.specs.declared.film.Look.{Look}
use Rattle.lane_picture.specs.declared.film.Look.TheVariants as look
use Rattle.lane_picture.specs.declared.film.Lane.{Lane}
use Rattle.lane_picture.specs.declared.film.Lane.TheVariants as lane
use Rattle.lane_picture.specs.declared.grid.Grid.{Grid}
use Rattle.lane_picture.specs.Marks.{Sign, Stays, Happens, Answers, Strands, Mark, doing_in, is_running}
use Rattle.lane_picture.specs.Words.{exn_name, stays_words, happens_words, answers_words, strands_words}
use Rattle.lane_picture.specs.Grids.{unit, left, middle, bar_left, bar_width, touch_x, answer_x, print_x, tick_x, span_width, is_wide, is_fine, row, at, rows, output_at}
use Rattle.lane_picture.specs.Pieces.{rect, line, circle, letter, lozenge, label, tag, turned, turned_number, group, group_end}

-- ---- a band of columns

abbrev pub doing_class : Doing → List ℕ
doing_class Running = codes "run"
doing_class (Taking m) = codes "wait"
doing_class (Reading m) = codes "wait"
doing_class (Putting m) = codes "wait"
doing_class (Throwing t) = codes "throw"
doing_class (Sleeping due) = codes "sleep"

abbrev pub mask_class : Mask → List ℕ
mask_class Unmasked = codes "open"
mask_class Masked = codes "masked"
mask_class Uninterruptible = codes "hard"

abbrev pub look_class : Look → List ℕ
look_class (look.Thread p) = mask_class p.mask
look_class (look.Cell full) = codes "cell"

abbrev pub full_class : Bool → List ℕ
full_class true = codes "full"
full_class false = codes "empty"

abbrev pub doing_tag : (x y : ℕ) → Doing → List ℕ
doing_tag x y Running = []
doing_tag x y (Taking m) = tag (codes "on") x y (codes "take ") m
doing_tag x y (Reading m) = tag (codes "on") x y (codes "read ") m
doing_tag x y (Putting m) = tag (codes "on") x y (codes "put ") m
doing_tag x y (Throwing t) = tag (codes "on") x y (codes "thread ") t
doing_tag x y (Sleeping due) = tag (codes "on") x y (codes "until ") due

-- the words on a band stand there where it is so wide
abbrev pub words_on : (width x y : ℕ) → Doing → List ℕ
words_on width x y d = cond (nat_le 96 width) (doing_tag x y d) []

abbrev pub band : Grid → (r from to : ℕ) → Look → List ℕ
band g r from to (look.Thread p) =
    rect (doing_class p.doing) (left g.width from) (at r 14) (span_width g.width from to) 24
    ++ words_on (span_width g.width from to) (left g.width from + 28) (at r 30) p.doing
band g r from to (look.Cell full) = rect (full_class full) (left g.width from) (at r 18) (span_width g.width from to) 16

-- ---- an entry

-- from one row to another
abbrev pub arrow : (class : List ℕ) → (x from to : ℕ) → List ℕ
arrow class x from to = cond (nat_lt from to) (line class x (at from 38) (at to 14)) (line class x (at from 14) (at to 38))

abbrev pub glyph : Grid → (n r : ℕ) → (sign : List ℕ) → List ℕ
glyph g n r sign = cond (is_wide g.width) (circle (middle g.width n) (at r 26) ++ letter sign (middle g.width n) (at r 26)) (rect (codes "mark") (left g.width n) (at r 18) (unit g.width) 16)

abbrev pub bar : Grid → (n r k : ℕ) → List ℕ
bar g n r k = rect (codes "bar") (bar_left g.width n) (at r 23) (bar_width g.width) 6 ++ cond (is_wide g.width) (tag (codes "count") (middle g.width n) (at r 11) [] k) []

abbrev pub hit_mark : Grid → (n r : ℕ) → List ℕ
hit_mark g n r = cond (is_wide g.width) (lozenge (middle g.width n) (at r 14)) (rect (codes "hit") (left g.width n) (at r 14) (unit g.width) 24)

-- a thread is hit by an exception of this name
abbrev pub hit : Grid → (n r : ℕ) → (name : List ℕ) → List ℕ
hit g n r name = hit_mark g n r ++ cond (is_fine g.width) [] (label (codes "name") (middle g.width n + 10) (at r 50) name)

-- a thread has finished, with these words
abbrev pub last : Grid → (n r : ℕ) → (words : List ℕ) → List ℕ
last g n r words = rect (codes "end") (left g.width n) (at r 14) 6 24 ++ label (codes "name") (left g.width n + 10) (at r 30) words

abbrev pub printed : Grid → (n r : ℕ) → List ℕ → List ℕ
printed g n r x =
    line (codes "out") (middle g.width n) (at r 38) (output_at g 0)
    ++ cond (is_fine g.width) [] (turned (codes "90") (print_x g.width n) (output_at g 4) x)

-- an operation at a cell, by whether its thread goes on: the line leads to the thread, or to the cell, or the thread waits
abbrev pub taken : Grid → (n t m : ℕ) → Bool → List ℕ
taken g n t m goes = cond goes (arrow (codes "touch") (touch_x g.width n) (g.threads + m) t) (arrow (codes "ask") (touch_x g.width n) t (g.threads + m))

abbrev pub given : Grid → (n t m : ℕ) → Bool → List ℕ
given g n t m goes = cond goes (arrow (codes "touch") (touch_x g.width n) t (g.threads + m)) (arrow (codes "ask") (touch_x g.width n) t (g.threads + m))

-- what an operation of thread t leads to, by what there was before and whether the thread goes on
abbrev pub link : Grid → (n t : ℕ) → Frame → Bool → Deed → List ℕ
link g n t a goes (deed.Prints x) = printed g n t x
link g n t a goes (deed.Reports x) = printed g n t x
link g n t a goes deed.MakesCell = []
link g n t a goes (deed.Takes m) = taken g n t m goes
link g n t a goes (deed.Reads m) = taken g n t m goes
link g n t a goes (deed.Puts m) = given g n t m goes
link g n t a goes (deed.TriesToTake m) = given g n t m false
link g n t a goes (deed.TriesToPut m) = given g n t m false
link g n t a goes deed.Forks = arrow (codes "fork") (middle g.width n) t (length a.poses)
link g n t a goes (deed.Throws u e) = []
link g n t a goes deed.Delays = []
link g n t a goes deed.Acquires = []
link g n t a goes deed.Releases = []
link g n t a goes deed.Asks = []

abbrev pub ticked : Grid → (n moment : ℕ) → List ℕ
ticked g n moment = line (codes "tick") (middle g.width n) 70 (at (rows g) 0) ++ cond (is_fine g.width) [] (turned_number (codes "-90") (tick_x g.width n) 66 moment)

abbrev pub sign_of : Deed → List ℕ
sign_of (deed.Prints x) = codes "O"
sign_of (deed.Reports x) = codes "E"
sign_of deed.MakesCell = codes "N"
sign_of (deed.Takes m) = codes "T"
sign_of (deed.Reads m) = codes "R"
sign_of (deed.Puts m) = codes "P"
sign_of (deed.TriesToTake m) = codes "t"
sign_of (deed.TriesToPut m) = codes "p"
sign_of deed.Forks = codes "F"
sign_of (deed.Throws u e) = codes "!"
sign_of deed.Delays = codes "D"
sign_of deed.Acquires = codes "A"
sign_of deed.Releases = codes "L"
sign_of deed.Asks = codes "?"

-- the event of column n, which led from frame a to frame b
abbrev pub event_shape : Grid → (n : ℕ) → Frame → Frame → Event → List ℕ
event_shape g n a b event.Nothing = []
event_shape g n a b (event.Steps t k) = bar g n t k
event_shape g n a b (event.Does t d) = link g n t a (is_running (doing_in b t)) d ++ glyph g n t (sign_of d)
event_shape g n a b (event.Receives t u e) = arrow (codes "kill") (middle g.width n) u t ++ hit g n t (exn_name e)
event_shape g n a b (event.Wakes t) = glyph g n t (codes "U")
event_shape g n a b (event.Returns t) = last g n t (codes "value")
event_shape g n a b (event.Fails t e) = last g n t (exn_name e)
event_shape g n a b (event.Ticks moment) = ticked g n moment
event_shape g n a b event.Strands = []

-- what hits a stranded thread
unfoldable pub stranded_name : List ℕ
stranded_name = codes "BlockedIndefinitely"

-- ---- a mark with its sentence as a title

abbrev pub titled : (class words shape : List ℕ) → List ℕ
titled class words shape = group class words ++ (shape ++ group_end)

abbrev pub number_of : Lane → ℕ
number_of (lane.Thread t) = t
number_of (lane.Cell m) = m
number_of lane.Clock = 0

abbrev pub spell : Grid → Lane → (from to : ℕ) → Sign → List ℕ
spell g l from to (Stays k) = titled (look_class k) (stays_words l from k) (band g (row g.threads l) from to k)
spell g l from to (Happens a b) = titled (codes "entry") (happens_words from a b) (event_shape g from a b b.event)
spell g l from to (Answers k) = titled (codes "entry") (answers_words from (number_of l) k) (arrow (codes "answer") (answer_x g.width from) (row g.threads l) k)
spell g l from to (Strands m) = titled (codes "entry") (strands_words from (number_of l) m) (hit g from (row g.threads l) stranded_name)

abbrev pub spelled : Grid → Mark → List ℕ
spelled g m = spell g m.lane m.from m.to m.sign
