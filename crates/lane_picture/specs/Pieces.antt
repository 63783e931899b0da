-- The elements of SVG that a picture is made of ("Scalable Vector Graphics (SVG) 1.1").
use Rattle.std.specs.Prelude.{ℕ, List, [], ◌++◌, codes}
use Rattle.std.specs.Fmt.{decimal}
use Rattle.lane_picture.specs.svg.Escaping.{escaped}

-- a rectangle of a class
unfoldable pub rect : (class : List ℕ) → (x y width height : ℕ) → List ℕ
rect class x y width height =
    (codes "<rect class='" ++ class ++ codes "' x='" ++ decimal x ++ codes "' y='" ++ decimal y)
    ++ (codes "' width='" ++ decimal width ++ codes "' height='" ++ decimal height ++ codes "'/>")

-- an upright line of a class, from one height to another
unfoldable pub line : (class : List ℕ) → (x from to : ℕ) → List ℕ
line class x from to =
    (codes "<line class='" ++ class ++ codes "' x1='" ++ decimal x ++ codes "' y1='" ++ decimal from)
    ++ (codes "' x2='" ++ decimal x ++ codes "' y2='" ++ decimal to ++ codes "'/>")

-- a circle
unfoldable pub circle : (x y : ℕ) → List ℕ
circle x y = codes "<circle cx='" ++ decimal x ++ codes "' cy='" ++ decimal y ++ codes "' r='8'/>"

-- a letter in it
unfoldable pub letter : (sign : List ℕ) → (x y : ℕ) → List ℕ
letter sign x y = codes "<text class='letter' x='" ++ decimal x ++ codes "' y='" ++ decimal y ++ codes "' dy='4'>" ++ sign ++ codes "</text>"

-- a lozenge of a class
unfoldable pub lozenge : (x y : ℕ) → List ℕ
lozenge x y = codes "<path class='hit' d='M" ++ decimal x ++ codes " " ++ decimal y ++ codes "l9 12l-9 12l-9 -12z'/>"

-- a text that has this as its words, but for what it begins with
unfoldable pub text_end : List ℕ → List ℕ
text_end words = words ++ codes "</text>"

-- what a text of a class begins with
unfoldable pub text_start : (class : List ℕ) → (x y : ℕ) → List ℕ
text_start class x y = codes "<text class='" ++ class ++ codes "' x='" ++ decimal x ++ codes "' y='" ++ decimal y ++ codes "'>"

-- a text of a class, escaped
abbrev pub label : (class : List ℕ) → (x y : ℕ) → (text : List ℕ) → List ℕ
label class x y text = text_start class x y ++ text_end (escaped text)

-- a word and a number behind it, without what the text begins with
unfoldable pub number_end : (word : List ℕ) → ℕ → List ℕ
number_end word n = word ++ decimal n ++ codes "</text>"

-- a text of a class that is a word and a number
abbrev pub tag : (class : List ℕ) → (x y : ℕ) → (word : List ℕ) → ℕ → List ℕ
tag class x y word n = text_start class x y ++ number_end word n

-- what a text that is turned by this angle, in degrees, begins with
unfoldable pub turn : (angle : List ℕ) → (x y : ℕ) → List ℕ
turn angle x y = codes "<text transform='translate(" ++ decimal x ++ codes " " ++ decimal y ++ codes ") rotate(" ++ angle ++ codes ")'>"

-- a text that is turned by this angle, escaped
abbrev pub turned : (angle : List ℕ) → (x y : ℕ) → (text : List ℕ) → List ℕ
turned angle x y text = turn angle x y ++ text_end (escaped text)

-- a number that is turned by this angle
abbrev pub turned_number : (angle : List ℕ) → (x y : ℕ) → ℕ → List ℕ
turned_number angle x y n = turn angle x y ++ number_end [] n

-- what a group of a class with this title begins with
unfoldable pub group : (class : List ℕ) → (title : List ℕ) → List ℕ
group class title = (codes "<g class='" ++ class ++ codes "'><title>") ++ (escaped title ++ codes "</title>")

-- and ends with
unfoldable pub group_end : List ℕ
group_end = codes "</g>\n"
