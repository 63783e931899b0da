-- The pieces that the text of a module is made of (own), by the texts of their parts. Each text of a part is closed: it is one word,
-- or stands in parentheses or brackets of its own, so no part needs others.
use Rattle.std.specs.Prelude.{ℕ, List, ◌++◌, codes}
use Rattle.std.specs.Fmt.{decimal}
use Rattle.hs_base.specs.declared.pos.Pos.{Pos}
use Rattle.haskell_module.specs.Names.{name_text}

-- ---- functions and what they are applied to

unfoldable pub applied : (word part : List ℕ) → List ℕ
applied word part = codes "(" ++ word ++ codes " " ++ part ++ codes ")"

unfoldable pub applied_two : (word part other : List ℕ) → List ℕ
applied_two word part other = codes "(" ++ word ++ codes " " ++ part ++ codes " " ++ other ++ codes ")"

unfoldable pub applied_three : (word part other third : List ℕ) → List ℕ
applied_three word part other third = codes "(" ++ word ++ codes " " ++ part ++ codes " " ++ other ++ codes " " ++ third ++ codes ")"

-- an operand, and the operators with theirs
unfoldable pub chained : (part links : List ℕ) → List ℕ
chained part links = codes "(" ++ part ++ links ++ codes ")"

-- a value of a type that its parts leave open
unfoldable pub typed : (value type : List ℕ) → List ℕ
typed value type = codes "(" ++ value ++ codes " :: " ++ type ++ codes ")"

-- ---- names that are bound

-- the head of a function of a name of the script
unfoldable pub lambda : (name : List ℕ) → List ℕ
lambda name = codes "\\ " ++ name_text name ++ codes " -> "

unfoldable pub bound : (name body : List ℕ) → List ℕ
bound name body = codes "(" ++ lambda name ++ body ++ codes ")"

-- A name may hide another of its pattern, where Haskell would refuse both in one.
unfoldable pub bound_two : (name other body : List ℕ) → List ℕ
bound_two name other body = codes "(" ++ lambda name ++ lambda other ++ body ++ codes ")"

-- what a thread of its own runs, which has its own environment
unfoldable pub in_thread : (body : List ℕ) → List ℕ
in_thread body = codes "(\\ en -> " ++ body ++ codes ")"

-- ---- choices

unfoldable pub choice : (condition first second : List ℕ) → List ℕ
choice condition first second = codes "(if " ++ condition ++ codes " then " ++ first ++ codes " else " ++ second ++ codes ")"

unfoldable pub case_of : (subject arms : List ℕ) → List ℕ
case_of subject arms = codes "(case " ++ subject ++ codes " of {" ++ arms ++ codes "})"

-- an arm that binds a name, up to its body
unfoldable pub arm : (before name : List ℕ) → List ℕ
arm before name = before ++ name_text name ++ codes " -> "

unfoldable pub arms_of_maybe : (empty name full : List ℕ) → List ℕ
arms_of_maybe empty name full = codes "Nothing -> " ++ empty ++ arm (codes "; Just ") name ++ full

unfoldable pub arms_of_either : (name left other right : List ℕ) → List ℕ
arms_of_either name left other right = arm (codes "Left ") name ++ left ++ arm (codes "; Right ") other ++ right

unfoldable pub arms_of_list : (empty name other full : List ℕ) → List ℕ
arms_of_list empty name other full = codes "[] -> " ++ empty ++ codes "; a : b -> " ++ bound_two name other full ++ codes " a b"

unfoldable pub arms_of_pair : (name other body : List ℕ) → List ℕ
arms_of_pair name other body = codes "(a, b) -> " ++ bound_two name other body ++ codes " a b"

-- ---- lines

-- a point of a run, before an action or round it, with the action's position
unfoldable pub point : (word : List ℕ) → Pos → List ℕ
point word p = word ++ codes " en " ++ decimal p.line ++ codes " " ++ decimal p.col ++ codes " "

unfoldable pub line : Pos → (action : List ℕ) → List ℕ
line p action = point (codes "at") p ++ action ++ codes ";\n"

-- a statement that binds a name, up to its action
unfoldable pub binding : (name : List ℕ) → List ℕ
binding name = name_text name ++ codes " <- "

-- an action of a block that is its last
unfoldable pub last_line : Pos → (action : List ℕ) → List ℕ
last_line p action = point (codes "end") p ++ action

unfoldable pub block_of : (lines : List ℕ) → List ℕ
block_of lines = codes "(do {\n" ++ lines ++ codes "})"
