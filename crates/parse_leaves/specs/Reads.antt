-- What a call of the code says of the parser that it is.
use Rattle.std.specs.Prelude.{◌≡◌, ℕ, zero, suc, List, [], ◌∷◌, ◌++◌, ◌⊎◌, length, Option, Some, None, Result, Ok, Err}
use Rattle.hs_base.specs.declared.pos.Pos.{Pos}
use Rattle.rules_tokens.specs.declared.token.Token.{Token}
use Rattle.rules_grammar.specs.GrammarParts.{TokenKind}
use mathlib.Core.Logic.{inl, inr}
use Rattle.rules_grammar.specs.Grammar.{many}
use Rattle.rules_grammar.specs.GrammarForms.{Rule}
use Rattle.hs_grammar.specs.Parser.{unexpected, too_deep, Out, Done, Stop, Parser, bind, read, enter}
use Rattle.parse_leaves.specs.declared.halt.Halt.{Halt}
use Rattle.parse_leaves.specs.declared.halt.Halt.TheVariants as h

-- what a call answers, and what it leaves
abbrev pub Reads : {A : Type 0} → Out A → Result A Halt → List Token → Type 0
Reads (Done a r) (Ok x) new = (x ≡ a) × (new ≡ r)
Reads (Done a r) (Err (h.Unexpected n)) new = ⊥
Reads (Done a r) (Err (h.TooDeep n)) new = ⊥
Reads (Done a r) (Err h.NoMemory) new = Unit {0}
Reads (Stop unexpected b) (Ok x) new = ⊥
Reads (Stop unexpected b) (Err (h.Unexpected n)) new = n ≡ length b
Reads (Stop unexpected b) (Err (h.TooDeep n)) new = ⊥
Reads (Stop unexpected b) (Err h.NoMemory) new = Unit {0}
Reads (Stop too_deep b) (Ok x) new = ⊥
Reads (Stop too_deep b) (Err (h.Unexpected n)) new = ⊥
Reads (Stop too_deep b) (Err (h.TooDeep n)) new = n ≡ length b
Reads (Stop too_deep b) (Err h.NoMemory) new = Unit {0}

abbrev pub head_of : List Token → Option Token
head_of [] = None
head_of (t ∷ ts) = Some t

-- an opener, where there is a level for it
abbrev pub enter_if : ℕ → Token → Parser Pos
enter_if zero t ts = Stop too_deep (t ∷ ts)
enter_if (suc n) t ts = Done t.pos ts

-- an opener of this kind, with so many levels left
abbrev pub open_at : ℕ → TokenKind → Parser Pos
open_at n k = Rattle.hs_grammar.specs.Parser.take k (enter_if n)

-- what is one thing or nothing
abbrev pub to_option : {A : Type 0} → Unit {0} ⊎ A → Option A
to_option (inl u) = None
to_option (inr a) = Some a

-- any number of what a rule spells, and some in front
abbrev pub many_of : {A : Type 0} → ℕ → Rule A → Parser (List A)
many_of n p = read (enter n) (many p)

abbrev pub prepend : {A : Type 0} → List A → Out (List A) → Out (List A)
prepend xs o = bind o (λ ys r. Done (xs ++ ys) r)
