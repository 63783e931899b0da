-- The text of what a search answers (own): two lines on the whole of it, and then, behind an empty line, a block for each outcome.
use Rattle.std.specs.Prelude.{ℕ, ◌+◌, ◌==◌, cond, List, [], ◌∷◌, ◌++◌, length, codes}
use Rattle.std.specs.Fmt.{decimal}
use Rattle.std.specs.List.{slice_split}
use Rattle.hs_rules.specs.declared.entry.LimitKind.{LimitKind}
use Rattle.hs_rules.specs.declared.entry.LimitKind.TheVariants as limit
use Rattle.outcome_listing.specs.declared.explored.Cause.{Cause}
use Rattle.outcome_listing.specs.declared.explored.Cause.TheVariants as cause
use Rattle.outcome_listing.specs.declared.explored.Extent.{Extent}
use Rattle.outcome_listing.specs.declared.explored.Extent.TheVariants as extent
use Rattle.outcome_listing.specs.declared.explored.Endless.{Endless}
use Rattle.outcome_listing.specs.declared.explored.Endless.TheVariants as endless
use Rattle.outcome_listing.specs.declared.explored.Explored.{Explored}
use Rattle.outcome_listing.specs.declared.explored.Final.{Final}
use Rattle.outcome_listing.specs.declared.explored.Final.TheVariants as final
use Rattle.outcome_listing.specs.declared.explored.Outcome.{Outcome}

-- ---- the first two lines

abbrev pub limit_word : LimitKind → List ℕ
limit_word limit.Threads = codes "threads"
limit_word limit.Cells = codes "cells"
limit_word limit.Frames = codes "frames"
limit_word limit.Output = codes "output"

abbrev pub cause_words : Cause → List ℕ
cause_words cause.States = codes "states"
cause_words cause.Fuel = codes "fuel"
cause_words cause.Clock = codes "clock"
cause_words (cause.Limit kind) = codes "limit: " ++ limit_word kind

abbrev pub extent_words : Extent → List ℕ
extent_words extent.All = codes "there are no others"
extent_words (extent.NotAll why run) = codes "there may be others: " ++ cause_words why

abbrev pub endless_words : Endless → List ℕ
endless_words endless.Never = codes "every schedule ends"
endless_words (endless.Round to round) = codes "a schedule may run for ever"
endless_words endless.Unknown = codes "whether every schedule ends is not known"

-- how many outcomes there are; the one number that a text of this program inflects
abbrev pub count_words : ℕ → List ℕ
count_words n = decimal n ++ cond (n == 1) (codes " outcome, and ") (codes " outcomes, and ")

abbrev pub first_line : Explored → List ℕ
first_line e = count_words (length e.outcomes) ++ extent_words e.extent ++ codes "\n"

abbrev pub second_line : Explored → List ℕ
second_line e = decimal e.states ++ codes " states; " ++ endless_words e.endless ++ codes "\n"

-- ---- the lines of a text that a script printed

-- a line of the script's text that ends in a line feed, and a last one that doesn't
abbrev pub whole_line : List ℕ → List ℕ
whole_line line = codes "     | " ++ line ++ codes "\n"

abbrev pub cut_line : List ℕ → List ℕ
cut_line line = codes "     : " ++ line ++ codes "\n"

-- the lines for the parts of a text between its line feeds: the last part is what follows the last line feed
abbrev pub lines_of_parts : List (List ℕ) → List ℕ
lines_of_parts [] = []
lines_of_parts (part ∷ []) = cond (length part == 0) [] (cut_line part)
lines_of_parts (part ∷ next ∷ parts) = whole_line part ++ lines_of_parts (next ∷ parts)

abbrev pub text_lines : List ℕ → List ℕ
text_lines text = lines_of_parts (slice_split (λ b. b == 10) text)

-- ---- the block of an outcome

abbrev pub end_word : Final → List ℕ
end_word final.Done = codes "done"
end_word final.Uncaught = codes "uncaught"
end_word final.Deadlock = codes "deadlock"

-- the number of the outcome, how it ended, and how many entries its witness has
abbrev pub head_line : ℕ → Final → ℕ → List ℕ
head_line number end entries = decimal number ++ codes ". " ++ end_word end ++ codes ", after " ++ decimal entries ++ codes " entries\n"

abbrev pub output_lines : List ℕ → List ℕ
output_lines text = cond (length text == 0) (codes "   output: none\n") (codes "   output:\n" ++ text_lines text)

-- error output stands there only where there is some
abbrev pub errors_lines : List ℕ → List ℕ
errors_lines text = cond (length text == 0) [] (codes "   errors:\n" ++ text_lines text)

abbrev pub block : ℕ → Outcome → List ℕ
block number o = head_line number o.end (length o.witness.list) ++ output_lines o.out ++ errors_lines o.err

-- the blocks of these outcomes, of which the first has this number
abbrev pub blocks_from : ℕ → List Outcome → List ℕ
blocks_from number [] = []
blocks_from number (o ∷ os) = block number o ++ blocks_from (number + 1) os

-- ---- the whole

abbrev pub blocks : List Outcome → List ℕ
blocks [] = []
blocks (o ∷ os) = codes "\n" ++ blocks_from 1 (o ∷ os)

abbrev pub listing_of : Explored → List ℕ
listing_of e = first_line e ++ second_line e ++ blocks e.outcomes
