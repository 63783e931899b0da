-- Expressions of a script, as a Haskell module has them: its functions and operators are those of the support module, which are
-- strict and go from the left to the right (own; what each computes is said by the Haskell 2010 Language Report, 6 and 9).
use Rattle.std.specs.Prelude.{ℕ, List, [], ◌++◌, codes, true, false}
use Rattle.std.specs.Fmt.{signed_decimal}
use Rattle.hs_base.specs.declared.exn.Exn.{Exn}
use Rattle.hs_base.specs.declared.exn.Exn.TheVariants as x
use Rattle.hs_base.specs.declared.tree.forms.UnaryForm.{UnaryForm}
use Rattle.hs_base.specs.declared.tree.forms.UnaryForm.TheVariants as u
use Rattle.hs_base.specs.declared.tree.forms.BinaryForm.{BinaryForm}
use Rattle.hs_base.specs.declared.tree.forms.BinaryForm.TheVariants as b
use Rattle.hs_base.specs.declared.tree.forms.EmptyForm.{EmptyForm}
use Rattle.hs_base.specs.declared.tree.forms.EmptyForm.TheVariants as o
use Rattle.hs_base.specs.declared.tree.forms.SideForm.{SideForm}
use Rattle.hs_base.specs.declared.tree.forms.SideForm.TheVariants as s
use Rattle.rules_expansion.specs.trees.Trees.{Lit, number, letters, truth, nothing_more, exception, Ex, lit, name, unary, binary, chain, conses, choose, items, empty, side, given, case, Exs, none, more, Links, end, link, Arms, maybe_arms, either_arms, list_arms, pair_arms}
use Rattle.haskell_module.specs.Names.{name_text, literal_text}
use Rattle.haskell_module.specs.Types.{type_text}
use Rattle.haskell_module.specs.Forms.{applied, applied_two, chained, typed, bound, choice, case_of, arms_of_maybe, arms_of_either, arms_of_list, arms_of_pair}

-- ---- words

-- the exceptions that a script can write as one word
abbrev pub exception_word : Exn → List ℕ
exception_word x.ThreadKilled = codes "threadKilled"
exception_word x.UserInterrupt = codes "userInterrupt"
exception_word x.DivideByZero = codes "divideByZero"
exception_word x.Overflow = codes "overflow"
exception_word _ = []

abbrev pub unary_word : UnaryForm → List ℕ
unary_word u.Just = codes "just"
unary_word u.ErrorCall = codes "errorCall"
unary_word u.Not = codes "not"
unary_word u.Fst = codes "fst"
unary_word u.Snd = codes "snd"
unary_word u.Show = codes "show"
unary_word u.Negate = codes "negate"

-- the operator between two operands; no chain of a script has one of the first three
abbrev pub operator : BinaryForm → List ℕ
operator b.Pair = codes " `pair` "
operator b.Div = codes " `div` "
operator b.Mod = codes " `mod` "
operator b.Equal = codes " == "
operator b.Unequal = codes " /= "
operator b.Less = codes " < "
operator b.AtMost = codes " <= "
operator b.Greater = codes " > "
operator b.AtLeast = codes " >= "
operator b.Or = codes " || "
operator b.And = codes " && "
operator b.Plus = codes " + "
operator b.Minus = codes " - "
operator b.Times = codes " * "
operator b.Cons = codes " .: "
operator b.Append = codes " ++ "

abbrev pub side_word : SideForm → List ℕ
side_word s.Left = codes "left"
side_word s.Right = codes "right"

-- ---- forms

abbrev pub lit_text : Lit → List ℕ
lit_text (number n) = typed (signed_decimal n) (codes "Int")
lit_text (letters t) = applied (codes "text") (literal_text t)
lit_text (truth true) = codes "True"
lit_text (truth false) = codes "False"
lit_text nothing_more = codes "()"
lit_text (exception e) = exception_word e

abbrev pub binary_text : BinaryForm → (part other : List ℕ) → List ℕ
binary_text b.Pair part other = applied_two (codes "pair") part other
binary_text b.Div part other = applied_two (codes "div") part other
binary_text b.Mod part other = applied_two (codes "mod") part other
binary_text w part other = chained part (operator w ++ other)

abbrev pub empty_text : EmptyForm → (type : List ℕ) → List ℕ
empty_text o.Nothing type = typed (codes "Nothing") (codes "Maybe " ++ type)
empty_text o.EmptyList type = typed (codes "[]") (codes "[" ++ type ++ codes "]")

-- the types of both sides, since the value has but one of them
unfoldable pub side_text : SideForm → (type other part : List ℕ) → List ℕ
side_text w type other part = typed (side_word w ++ codes " " ++ part) (codes "Either " ++ type ++ codes " " ++ other)

unfoldable pub items_text : (parts : List ℕ) → List ℕ
items_text parts = codes "(list [" ++ parts ++ codes "])"

-- a name alone, or a call with the text of its arguments
abbrev pub called : (word : List ℕ) → Exs → (parts : List ℕ) → List ℕ
called word none parts = word
called word (more e es) parts = codes "(" ++ word ++ parts ++ codes ")"

abbrev mutual
  pub ex_text : Ex → List ℕ
  ex_text (lit p l) = lit_text l
  ex_text (name f es) = called (name_text f.text) es (arguments es)
  ex_text (unary w p e) = applied (unary_word w) (ex_text e)
  ex_text (binary w p e f) = binary_text w (ex_text e) (ex_text f)
  ex_text (chain e ks) = chained (ex_text e) (links_text ks)
  ex_text (conses e ks) = chained (ex_text e) (links_text ks)
  ex_text (choose p e f g) = choice (ex_text e) (ex_text f) (ex_text g)
  ex_text (items p es) = items_text (listed [] es)
  ex_text (empty w p t) = empty_text w (type_text t.ty)
  ex_text (side w p t v e) = side_text w (type_text t.ty) (type_text v.ty) (ex_text e)
  -- let x = e in f
  ex_text (given y e f) = applied_two (codes "strict") (bound y.text (ex_text f)) (ex_text e)
  ex_text (case p e arms) = case_of (ex_text e) (arms_text arms)

  -- each behind a blank
  pub arguments : Exs → List ℕ
  arguments none = []
  arguments (more e es) = codes " " ++ ex_text e ++ arguments es

  -- the first behind this, and each other one behind a comma
  pub listed : (before : List ℕ) → Exs → List ℕ
  listed before none = []
  listed before (more e es) = before ++ ex_text e ++ listed (codes ", ") es

  pub links_text : Links → List ℕ
  links_text end = []
  links_text (link w p e ks) = operator w ++ ex_text e ++ links_text ks

  pub arms_text : Arms → List ℕ
  arms_text (maybe_arms e y f) = arms_of_maybe (ex_text e) y.text (ex_text f)
  arms_text (either_arms y e z f) = arms_of_either y.text (ex_text e) z.text (ex_text f)
  arms_text (list_arms e y z f) = arms_of_list (ex_text e) y.text z.text (ex_text f)
  arms_text (pair_arms y z e) = arms_of_pair y.text z.text (ex_text e)
