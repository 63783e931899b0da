-- Where columns and lanes stand, in pixels (own). Of more than 400 columns each is 8 pixels wide, of more than 2,000 each is 2.
use Rattle.std.specs.Prelude.{ℕ, ◌+◌, ◌*◌, ◌-◌, nat_le, Bool, true, false, cond}
use Rattle.lane_picture.specs.declared.film.Lane.{Lane}
use Rattle.lane_picture.specs.declared.film.Lane.TheVariants as lane
use Rattle.lane_picture.specs.declared.grid.Width.{Width}
use Rattle.lane_picture.specs.declared.grid.Width.TheVariants.{Wide, Middle, Fine}
use Rattle.lane_picture.specs.declared.grid.Grid.{Grid}

abbrev pub width_for : (columns : ℕ) → Width
width_for n = cond (nat_le n 400) Wide (cond (nat_le n 2000) Middle Fine)

abbrev pub is_wide : Width → Bool
is_wide Wide = true
is_wide Middle = false
is_wide Fine = false

abbrev pub is_fine : Width → Bool
is_fine Wide = false
is_fine Middle = false
is_fine Fine = true

-- the width of a column
abbrev pub unit : Width → ℕ
unit Wide = 24
unit Middle = 8
unit Fine = 2

-- where a column begins
abbrev pub left : Width → ℕ → ℕ
left Wide n = 96 + 24 * n
left Middle n = 96 + 8 * n
left Fine n = 96 + 2 * n

-- its middle
abbrev pub middle : Width → ℕ → ℕ
middle Wide n = 108 + 24 * n
middle Middle n = 100 + 8 * n
middle Fine n = 97 + 2 * n

-- where the bar of local steps begins, and how wide it is
abbrev pub bar_left : Width → ℕ → ℕ
bar_left Wide n = 98 + 24 * n
bar_left Middle n = 97 + 8 * n
bar_left Fine n = 96 + 2 * n

abbrev pub bar_width : Width → ℕ
bar_width Wide = 20
bar_width Middle = 6
bar_width Fine = 2

-- where the line between a thread and the cell of its operation stands
abbrev pub touch_x : Width → ℕ → ℕ
touch_x Wide n = 105 + 24 * n
touch_x Middle n = 99 + 8 * n
touch_x Fine n = 96 + 2 * n

-- where the line from a cell to a thread that it answers stands
abbrev pub answer_x : Width → ℕ → ℕ
answer_x Wide n = 111 + 24 * n
answer_x Middle n = 101 + 8 * n
answer_x Fine n = 97 + 2 * n

-- where the foot of a printed text stands, and that of a time
abbrev pub print_x : Width → ℕ → ℕ
print_x Wide n = 104 + 24 * n
print_x Middle n = 96 + 8 * n
print_x Fine n = 93 + 2 * n

abbrev pub tick_x : Width → ℕ → ℕ
tick_x Wide n = 112 + 24 * n
tick_x Middle n = 104 + 8 * n
tick_x Fine n = 101 + 2 * n

-- how wide these columns are together
abbrev pub span_width : Width → (from to : ℕ) → ℕ
span_width Wide from to = 24 * (to - from)
span_width Middle from to = 8 * (to - from)
span_width Fine from to = 2 * (to - from)

-- the row of a lane, where there are so many threads: the cells stand below them, and the clock above all
abbrev pub row : (threads : ℕ) → Lane → ℕ
row threads (lane.Thread t) = t
row threads (lane.Cell m) = threads + m
row threads lane.Clock = 0

-- so far below the top of a row
abbrev pub at : (row below : ℕ) → ℕ
at r below = 84 + 56 * r + below

abbrev pub rows : Grid → ℕ
rows g = g.threads + g.cells

-- so far below where what is printed begins
abbrev pub output_at : Grid → (below : ℕ) → ℕ
output_at g below = at (rows g) (8 + below)
