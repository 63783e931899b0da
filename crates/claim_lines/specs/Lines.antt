-- Which lines of a script are claims (own): a line whose first characters, blanks left out, are `--` and `!`, where spaces and tabs may
-- stand between the two. Elsewhere on a line, in a text or in another comment no claim begins.
use Rattle.std.specs.Prelude.{◌≡◌, ℕ, Bool, ◌||◌, ◌==◌, List, [], ◌∷◌, ◌++◌, IsTrue}
use Rattle.std.specs.List.{list_all, slice_split}
use Rattle.rules_tokens.specs.Tokens.{tab, carriage_return, space, dash, is_line_feed}

-- what may stand before the dashes, between words and behind the last one
abbrev pub separates : ℕ → Bool
separates c = (c == space) || (c == tab) || (c == carriage_return)

-- what may stand between the dashes and the mark
abbrev pub is_space_or_tab : ℕ → Bool
is_space_or_tab c = (c == space) || (c == tab)

abbrev pub exclamation_mark : ℕ
exclamation_mark = 33

-- the lines of a text: its parts between the line feeds
abbrev pub lines_of : List ℕ → List (List ℕ)
lines_of text = slice_split is_line_feed text

-- The line begins as a claim: `head` ends with the mark, and `rest` is what the claim says.
pub record BeginsClaim (line head rest : List ℕ) : Type 0 where
  pub indent : List ℕ
  pub between : List ℕ
  pub blank : IsTrue (list_all separates indent)
  pub spaced : IsTrue (list_all is_space_or_tab between)
  pub opening : head ≡ indent ++ dash ∷ dash ∷ between ++ exclamation_mark ∷ []
  pub split : line ≡ head ++ rest

abbrev pub IsNoClaim : List ℕ → Type 0
IsNoClaim line = (head rest : List ℕ) → ¬ BeginsClaim line head rest
