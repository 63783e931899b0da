-- A parser for each rule of the grammar, as a function of the tokens that looks at one token ahead (own).
use Rattle.std.specs.Prelude.{◌≡◌, ◌⊎◌, ℕ, zero, suc, ◌==◌, Bool, true, false, List, [], ◌∷◌, ◌++◌, length}
use mathlib.Core.Logic.{inl, inr}
use Rattle.hs_base.specs.declared.tree.script.Script.{Script}
use Rattle.rules_tokens.specs.declared.token.Token.{Token}
use Rattle.rules_grammar.specs.Grammar.{script, rule_of, SpellsWithin, IsUnexpected, IsTooDeep}
use Rattle.rules_grammar.specs.GrammarForms.{Rule, give, one, seq, alt, go_on, many, ended, within}
use Rattle.rules_grammar.specs.GrammarParts.{TokenKind, name, upper, int, text, word, symbol, kind_of, OpenerPart}

-- ---- kinds of tokens

abbrev pub same_kind : TokenKind → TokenKind → Bool
same_kind name name = true
same_kind upper upper = true
same_kind int int = true
same_kind text text = true
same_kind (word a) (word b) = a == b
same_kind (symbol a) (symbol b) = a == b
same_kind _ _ = false

-- the first, or else the second
abbrev pub either : Bool → Bool → Bool
either true b = true
either false b = b

abbrev pub both : Bool → Bool → Bool
both true b = b
both false b = false

abbrev pub negated : Bool → Bool
negated true = false
negated false = true

abbrev pub is_in : TokenKind → List TokenKind → Bool
is_in k [] = false
is_in k (l ∷ ls) = either (same_kind k l) (is_in k ls)

-- no kind is in both
abbrev pub apart : List TokenKind → List TokenKind → Bool
apart [] ls = true
apart (k ∷ ks) ls = both (negated (is_in k ls)) (apart ks ls)

abbrev pub where' : Bool → List TokenKind → List TokenKind
where' true ks = ks
where' false ks = []

-- ---- what a rule can begin with, and what it would still take behind what it has read

-- the rule may spell a value by no token
unfoldable pub may_be_empty : {A : Type 0} → Rule A → Bool
may_be_empty (give x) = true
may_be_empty (one k f) = false
may_be_empty (seq f p q) = both (may_be_empty p) (may_be_empty q)
may_be_empty (alt p q) = either (may_be_empty p) (may_be_empty q)
may_be_empty (go_on f p q) = may_be_empty p
may_be_empty (many f p) = true
may_be_empty (ended f g sep close p) = may_be_empty p
may_be_empty (within g k part) = false

unfoldable pub firsts : {A : Type 0} → Rule A → List TokenKind
unfolding may_be_empty
firsts (give x) = []
firsts (one k f) = k ∷ []
firsts (seq f p q) = firsts p ++ where' (may_be_empty p) (firsts q)
firsts (alt p q) = firsts p ++ firsts q
firsts (go_on f p q) = firsts p
firsts (many f p) = firsts p
firsts (ended f g sep close p) = firsts p
firsts (within g k part) = k ∷ []

abbrev pub begins : List TokenKind → List Token → Bool
begins ks [] = false
begins ks (t ∷ ts) = is_in (kind_of t.tok) ks

-- ---- parsers

-- why a parser stops: at a token that cannot go on, or at an opener that stands in too many
pub data Why : Type 0 where
  unexpected : Why
  too_deep : Why

-- what was read and what is left; or what is left from the token on that the parser stopped at
pub data Out (A : Type 0) : Type 0 where
  Done : A → List Token → Out A
  Stop : Why → List Token → Out A

abbrev pub Parser : Type 0 → Type 0
Parser A = List Token → Out A

abbrev pub bind : {A B : Type 0} → Out A → (A → Parser B) → Out B
bind (Done a r) g = g a r
bind (Stop y b) g = Stop y b

abbrev pub done : {A : Type 0} → A → Parser A
done a ts = Done a ts

abbrev pub choose : {A : Type 0} → Bool → Parser A → Parser A → Parser A
choose true p q ts = p ts
choose false p q ts = q ts

abbrev pub take_if : {A : Type 0} → Bool → Token → (Token → Parser A) → Parser A
take_if true t g ts = g t ts
take_if false t g ts = Stop unexpected (t ∷ ts)

-- a token of this kind
abbrev pub take : {A : Type 0} → TokenKind → (Token → Parser A) → Parser A
take k g [] = Stop unexpected []
take k g (t ∷ ts) = take_if (same_kind (kind_of t.tok) k) t g ts

abbrev pub on_left : {A B R : Type 0} → (B → Parser R) → (A → Parser R) → B ⊎ A → Parser R
on_left f g (inl b) = f b
on_left f g (inr a) = g a

-- one turn of a loop, and the turns behind it
abbrev pub turn : {B C : Type 0} → Parser (List B × C) → B ⊎ C → Parser (List B × C)
turn rest (inl b) ts = bind (rest ts) (λ x. done (b ∷ x.0, x.1))
turn rest (inr c) ts = Done ([], c) ts

-- turns while there is a left value, at most so many
unfoldable pub turns : {B C : Type 0} → ℕ → Parser (B ⊎ C) → Parser (List B × C)
turns zero step ts = Stop unexpected ts
turns (suc m) step ts = bind (step ts) (turn (turns m step))

-- turns while there is a left value
unfoldable pub loop : {B C : Type 0} → Parser (B ⊎ C) → Parser (List B × C)
loop step ts = turns (suc (length ts)) step ts

-- an item where the next token begins one
abbrev pub another : {A : Type 0} → List TokenKind → Parser A → Parser (A ⊎ Unit {0})
another ks p ts = choose (begins ks ts) (λ us. bind (p us) (λ a. done (inl a))) (done (inr tt)) ts

-- behind a last item's separator: the closing token, or it was not the last
abbrev pub after_separator : {B C : Type 0} → (C → B) → TokenKind → C → Parser (B ⊎ C)
after_separator as_item close c ts = choose (begins (close ∷ []) ts) (take close (λ t. done (inr c))) (done (inl (as_item c))) ts

-- behind an item
abbrev pub behind_item : {B C : Type 0} → (C → B) → TokenKind → TokenKind → B ⊎ C → Parser (B ⊎ C)
behind_item as_item sep close (inl b) ts = take sep (λ t. done (inl b)) ts
behind_item as_item sep close (inr c) ts =
    choose (begins (close ∷ []) ts) (take close (λ t. done (inr c))) (take sep (λ t. after_separator as_item close c)) ts

abbrev pub item_step : {B C : Type 0} → (C → B) → TokenKind → TokenKind → Parser (B ⊎ C) → Parser (B ⊎ C)
item_step as_item sep close p ts = bind (p ts) (behind_item as_item sep close)

-- What stands in an opener, by its token and what follows
abbrev pub Inner : Type 1
Inner = (B : Type 0) → OpenerPart B → Token → Parser B

-- A parser for a rule, and then one that depends on the value.
unfoldable pub read_then : {A R : Type 0} → Inner → Rule A → (A → Parser R) → Parser R
read_then inner (give x) κ ts = κ x ts
read_then inner (one k f) κ ts = take k (λ t. κ (f t)) ts
read_then inner (seq f p q) κ ts = read_then inner p (λ b. read_then inner q (λ c. κ (f b c))) ts
read_then inner (alt p q) κ ts = choose (begins (firsts p) ts) (read_then inner p κ) (read_then inner q κ) ts
read_then inner (go_on f p q) κ ts = read_then inner p (on_left (λ b. read_then inner q (λ c. κ (f b c))) κ) ts
read_then inner (many f p) κ ts = bind (loop (another (firsts p) (read_then inner p done)) ts) (λ x. κ (f x.0))
read_then inner (ended f g sep close p) κ ts = bind (loop (item_step g sep close (read_then inner p done)) ts) (λ x. κ (f x.0 x.1))
read_then inner (within g k part) κ ts = take k (λ t us. bind (inner _ part t us) (λ b. κ (g t.pos b))) ts

abbrev pub read : {A : Type 0} → Inner → Rule A → Parser A
read inner p = read_then inner p done

-- what stands in an opener, with so many levels left for that opener and those in it
unfoldable pub enter : ℕ → Inner
enter zero B part t ts = Stop too_deep (t ∷ ts)
enter (suc n) B part t ts = read_then (enter n) (rule_of part) done ts

-- nothing is left
abbrev pub at_end : {A : Type 0} → A → Parser A
at_end x [] = Done x []
at_end x (t ∷ ts) = Stop unexpected (t ∷ ts)

-- a script, with so many levels of openers
unfoldable pub whole : ℕ → Parser Script
whole n ts = bind (read (enter n) script ts) at_end

-- What an outcome says of the tokens, with so many levels of openers.
abbrev pub Means : ℕ → List Token → Out Script → Type 0
Means n ts (Done x r) = SpellsWithin n x ts
Means n ts (Stop unexpected b) = (front : List Token) × (front ++ b ≡ ts) × IsUnexpected n front b
Means n ts (Stop too_deep b) =
    (front : List Token) × (t : Token) × (left : List Token) × (b ≡ t ∷ left) × (front ++ b ≡ ts) × IsTooDeep n front t × ((x : Script) → SpellsWithin n x ts → ⊥)
