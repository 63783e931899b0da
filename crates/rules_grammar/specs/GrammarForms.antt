-- What a grammar is made of (own): rules by which a list of tokens spells a value, and what a rule spells.
use Rattle.std.specs.Prelude.{◌≡◌, ◌⊎◌, ℕ, List, [], ◌∷◌, Option, Some, None}
use mathlib.Core.Logic.{inl, inr}
use Rattle.hs_base.specs.declared.pos.Pos.{Pos}
use Rattle.rules_tokens.specs.declared.token.Token.{Token}
use Rattle.rules_grammar.specs.GrammarParts.{TokenKind, word, kind_of, OpenerPart}

infixl 20 ◌⊛◌
infixl 20 ◌◁◌
-- A rule of a grammar for the values of a type
pub data Rule : Type 0 → Type 1 where
  -- no token
  give : {A : Type 0} → A → Rule A
  -- one token of this kind
  one : {A : Type 0} → TokenKind → (Token → A) → Rule A
  -- the first, and then the second
  seq : {A B C : Type 0} → (B → C → A) → Rule B → Rule C → Rule A
  -- the first or the second
  alt : {A : Type 0} → Rule A → Rule A → Rule A
  -- the first, and where that gives a left value the second behind it
  go_on : {A B C : Type 0} → (B → C → A) → Rule (B ⊎ A) → Rule C → Rule A
  -- any number of times
  many : {A B : Type 0} → (List B → A) → Rule B → Rule A
  -- `{ item sep } last [ sep ] close`: an item is what gives any value, and last is what gives a right value
  ended : {A B C : Type 0} → (List B → C → A) → (C → B) → TokenKind → TokenKind → Rule (B ⊎ C) → Rule A
  -- an opener of this kind, and the part that stands in it
  within : {A B : Type 0} → (Pos → B → A) → TokenKind → OpenerPart B → Rule A

-- ---- ways to write rules

-- one part more, and one more token that gives nothing
abbrev pub ◌⊛◌ : {A B : Type 0} → Rule (B → A) → Rule B → Rule A
p ⊛ q = seq (λ f b. f b) p q

abbrev pub ◌◁◌ : {A : Type 0} → Rule A → TokenKind → Rule A
p ◁ k = seq (λ a t. a) p (one k (λ t. t))

-- a token for its position
abbrev pub at : TokenKind → Rule Pos
at k = one k (λ t. t.pos)

-- a rule's value made into another
abbrev pub map : {A B : Type 0} → (B → A) → Rule B → Rule A
map f p = seq (λ b u. f b) p (give (tt {0}))

-- nothing is one possibility
abbrev pub optional : {A : Type 0} → A → Rule A → Rule A
optional a p = alt p (give a)

-- one of these reserved words, by number, with what it stands for; the last of them is given by itself
abbrev pub stands_for : {W : Type 0} → ℕ × W → Rule (W × Pos)
stands_for r = map (λ p. (r.1, p)) (at (word r.0))

abbrev pub one_of : {W : Type 0} → List (ℕ × W) → ℕ × W → Rule (W × Pos)
one_of [] last = stands_for last
one_of (r ∷ rs) last = alt (stands_for r) (one_of rs last)

-- ---- what a rule spells

-- A token in a script. An opener has the number of openers that it stands in.
pub record Item : Type 0 where
  pub token : Token
  pub opener : Option ℕ

-- the items' tokens
abbrev pub tokens_of : List Item → List Token
tokens_of [] = []
tokens_of (i ∷ is) = i.token ∷ tokens_of is

-- `S a from to`: a value is spelled by the items of `from` in front of `to`
abbrev pub Spelling : Type 0 → Type 1
Spelling A = A → List Item → List Item → Type 0

-- no item
abbrev pub Empty : {A : Type 0} → A → Spelling A
Empty x a from to = (x ≡ a) × (from ≡ to)

-- one item, of this kind and standing in so many openers if it is an opener
abbrev pub Single : Option ℕ → TokenKind → Spelling Token
Single opener k t from to = (kind_of t.tok ≡ k) × (from ≡ record { token = t; opener = opener } ∷ to)

-- a value made of one that is spelled
abbrev pub Made : {A B : Type 0} → (B → A) → Spelling B → Spelling A
Made {B = B} f S a from to = (b : B) × (f b ≡ a) × S b from to

-- a value, and behind it one that may depend on it
abbrev pub Then : {A B : Type 0} → Spelling B → (B → Spelling A) → Spelling A
Then {B = B} S T a from to = (b : B) × (mid : List Item) × S b from mid × T b a mid to

-- either of two
abbrev pub Either : {A : Type 0} → Spelling A → Spelling A → Spelling A
Either S T a from to = S a from to ⊎ T a from to

-- values one behind the other
abbrev pub Each : {B : Type 0} → Spelling B → Spelling (List B)
Each S [] from to = from ≡ to
Each S (b ∷ bs) from to = (mid : List Item) × S b from mid × Each S bs mid to

-- the value behind a left one, or the right one as it is
abbrev pub OnLeft : {A B : Type 0} → (B → Spelling A) → B ⊎ A → Spelling A
OnLeft T (inl b) = T b
OnLeft T (inr a) = Empty a

-- `item sep`
abbrev pub Passed : {B C : Type 0} → (C → B) → TokenKind → Spelling (B ⊎ C) → Spelling B
Passed {B = B} {C = C} as_item sep S =
    Then (Either (λ b. S (inl b)) (Made as_item (λ c. S (inr c)))) (λ b. Then (Single None sep) (λ t. Empty b))

-- `last [ sep ] close`
abbrev pub Last : {B C : Type 0} → TokenKind → TokenKind → Spelling (B ⊎ C) → Spelling C
Last sep close S =
    Then (λ c. S (inr c)) (λ c. Either (Then (Single None close) (λ t. Empty c)) (Then (Single None sep) (λ t. Then (Single None close) (λ u. Empty c))))

-- What a rule spells in j openers, by what is spelled by the parts that stand in an opener.
abbrev pub Spelled : {A : Type 0} → ((B : Type 0) → OpenerPart B → Spelling B) → ℕ → Rule A → Spelling A
Spelled inner j (give x) = Empty x
Spelled inner j (one k f) = Made f (Single None k)
Spelled inner j (seq f p q) = Then (Spelled inner j p) (λ b. Made (f b) (Spelled inner j q))
Spelled inner j (alt p q) = Either (Spelled inner j p) (Spelled inner j q)
Spelled inner j (go_on f p q) = Then (Spelled inner j p) (OnLeft (λ b. Made (f b) (Spelled inner j q)))
Spelled inner j (many f p) = Made f (Each (Spelled inner j p))
Spelled inner j (ended f as_item sep close p) =
    Then (Each (Passed as_item sep (Spelled inner j p))) (λ bs. Made (f bs) (Last sep close (Spelled inner j p)))
Spelled inner j (within {B = B} g k part) = Then (Single (Some j) k) (λ t. Made (g t.pos) (inner B part))
