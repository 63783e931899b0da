-- What the next token says of a table of reserved words.
use Rattle.std.specs.Prelude.{◌≡◌, ℕ, List}
use Rattle.rules_tokens.specs.declared.token.Token.{Token}
use Rattle.rules_grammar.specs.GrammarForms.{Rule, stands_for, one_of}
use Rattle.hs_grammar.specs.Parser.{firsts, begins, read, enter}

-- Where these tokens are left, one rule reads and begins as another does.
abbrev pub ReadsAs : {A : Type 0} → List Token → Rule A → Rule A → Type 0
ReadsAs ts p q = ((n : ℕ) → read (enter n) p ts ≡ read (enter n) q ts) × (begins (firsts p) ts ≡ begins (firsts q) ts)

-- A row decides for its table.
abbrev pub Decides : {W : Type 0} → List (ℕ × W) → ℕ × W → List Token → ℕ × W → Type 0
Decides rows last ts r = ReadsAs ts (one_of rows last) (stands_for r)
