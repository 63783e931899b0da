-- The picture of a film: the marks spelled as one document of SVG, with what stands round them (own).
use Rattle.std.specs.Prelude.{ℕ, ◌+◌, nat_lt, cond, List, ◌++◌, length, codes}
use Rattle.std.specs.Fmt.{decimal}
use Rattle.std.specs.List.{flat_map}
use Rattle.lane_picture.specs.declared.film.Ending.{Ending}
use Rattle.lane_picture.specs.declared.film.Ending.TheVariants as ending
use Rattle.lane_picture.specs.declared.film.Frame.{Frame}
use Rattle.lane_picture.specs.declared.grid.Grid.{Grid}
use Rattle.lane_picture.specs.declared.frills.TheConstants.{STYLE, LEGEND}
use Rattle.lane_picture.specs.Grids.{width_for, left, at, rows, output_at}
use Rattle.lane_picture.specs.Marks.{all_below, marks_of}
use Rattle.lane_picture.specs.Pieces.{line, label, tag}
use Rattle.lane_picture.specs.Shapes.{spelled}

-- the lanes and columns of a picture of so many columns
abbrev pub grid_of : (columns threads cells : ℕ) → Grid
grid_of columns threads cells = record { width = width_for columns; threads = threads; cells = cells }

-- ---- what stands round the marks

abbrev pub at_least : (least n : ℕ) → ℕ
at_least least n = cond (nat_lt n least) least n

abbrev pub full_width : Grid → (columns : ℕ) → ℕ
full_width g columns = at_least 1200 (left g.width columns + 300)

abbrev pub full_height : Grid → ℕ
full_height g = output_at g 230 + 120

-- how the document begins: its size, and what of it is seen
unfoldable pub opening_size : (width height : ℕ) → List ℕ
opening_size width height = codes "<svg xmlns='http://www.w3.org/2000/svg' width='" ++ decimal width ++ codes "' height='" ++ decimal height

unfoldable pub opening_box : (width height : ℕ) → List ℕ
opening_box width height = codes "' viewBox='0 0 " ++ decimal width ++ codes " " ++ decimal height ++ codes "'>\n"

abbrev pub opening : (width height : ℕ) → List ℕ
opening width height = opening_size width height ++ opening_box width height

abbrev pub thread_tag : Grid → ℕ → List ℕ
thread_tag g t = tag (codes "title") 8 (at t 30) (codes "thread ") t

abbrev pub cell_tag : Grid → ℕ → List ℕ
cell_tag g m = tag (codes "title") 8 (at (g.threads + m) 30) (codes "cell ") m

abbrev pub names : Grid → List ℕ
names g = all_below (thread_tag g) g.threads ++ all_below (cell_tag g) g.cells ++ label (codes "title") 8 (output_at g 12) (codes "output")

abbrev pub ending_words : Ending → List ℕ
ending_words ending.Done = codes "main has finished by a value"
ending_words ending.Uncaught = codes "main has finished by an exception"
ending_words ending.Deadlock = codes "deadlock: nothing can go on"
ending_words ending.Open = codes "the history ends here"

-- what the history has come to, at the right
abbrev pub ending_shape : Grid → (columns : ℕ) → Ending → List ℕ
ending_shape g columns e = line (codes "last") (left g.width columns + 100) 70 (at (rows g) 0) ++ label (codes "title") (left g.width columns + 106) 82 (ending_words e)

-- where the legend stands
unfoldable pub legend_start : (y : ℕ) → List ℕ
legend_start y = codes "<g transform='translate(8 " ++ decimal y ++ codes ")'>"

abbrev pub legend : Grid → List ℕ
legend g = legend_start (output_at g 230) ++ LEGEND.now

-- The picture of a film of so many threads and cells, which has come to this.
abbrev pub picture : List Frame → (threads cells : ℕ) → Ending → List ℕ
picture film threads cells e =
    let g = grid_of (length film) threads cells in
    opening (full_width g (length film)) (full_height g) ++ STYLE.now ++ names g ++ flat_map (spelled g) (marks_of film threads cells) ++ ending_shape g (length film) e ++ legend g
