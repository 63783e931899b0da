use Rattle.std.proofs.Common.{◌≡◌, ◌≢◌, ℕ, List, [], ◌∷◌, Bool, Option, Some, None, get_or, sym, ap, ◌∙◌}
use Rattle.std.specs.Prelude.{slice_get, MatchOption}
use Rattle.std.specs.Char.{is_ascii_uppercase}
use Rattle.std.specs.Str.{encode_utf8_all}
use Rattle.rules_tokens.specs.Tokens.{IsWord, IsReserved, reserved_words, is_capital}
use Rattle.hs_lex.proofs.words.word_token.Goals as goal

-- the text is not among the reserved words
unreserved : (result : Option ℕ) (text cs : List ℕ) → MatchOption result ((n : ℕ) → slice_get reserved_words n ≢ Some text) (λ n. slice_get reserved_words n ≡ Some text)
    → ((n : ℕ) → result ≡ Some n → ⊥) → text ≡ encode_utf8_all cs → (n : ℕ) → ¬ IsReserved n cs
unreserved None text cs h differs same n e = h n (e ∙ ap Some (sym same))
unreserved (Some k) text cs h differs same n e = absurd (differs k (cc))

capital : (cs : List ℕ) (c : ℕ) (b : Bool) → IsWord cs → c ≡ get_or cs 0 c → b ≡ is_ascii_uppercase c → b ≡ is_capital cs
capital [] c b w e is = absurd w
capital (x ∷ xs) c b w e is = is ∙ ap is_ascii_uppercase e

pub returns-then-is_ascii_uppercase : goal.returns-then-is_ascii_uppercase
returns-then-is_ascii_uppercase c = (
  c.requires.word,
  unreserved c.reserved.result c.args.text.now c.args.chars.now c.reserved.ensures c.in_default.not-Some c.requires.same,
  sym (capital c.args.chars.now c.index-chars-0.result c.is_ascii_uppercase.result c.requires.word c.index-chars-0.is c.is_ascii_uppercase.ensures.value) ∙ c.if-is_ascii_uppercase.true,
)

pub returns : goal.returns
returns c = (
  c.requires.word,
  unreserved c.reserved.result c.args.text.now c.args.chars.now c.reserved.ensures c.in_default.not-Some c.requires.same,
  sym (capital c.args.chars.now c.index-chars-0.result c.is_ascii_uppercase.result c.requires.word c.index-chars-0.is c.is_ascii_uppercase.ensures.value) ∙ c.if-is_ascii_uppercase.false,
  c.in_ok-of.ensures ∙ c.requires.same,
)
