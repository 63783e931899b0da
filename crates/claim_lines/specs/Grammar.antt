-- Which words are a claim (own):
--
--   claim = "always" cond | "never" cond | "sometimes" cond | "terminates"
--   cond  = one { "and" one }
--   one   = "done" | "uncaught" | "deadlock" | "stuck"
--         | "output" TEXT | "errors" TEXT | "output" "has" TEXT | "errors" "has" TEXT
use Rattle.std.specs.Prelude.{◌≡◌, ◌≢◌, List, [], ◌∷◌, ◌++◌, codes}
use Rattle.claim_lines.specs.declared.claim.Part.{Part}
use Rattle.claim_lines.specs.declared.claim.Part.TheVariants.{Done, Uncaught, Deadlock, Stuck, Output, Errors, OutputHas, ErrorsHas}
use Rattle.claim_lines.specs.declared.claim.Says.{Says}
use Rattle.claim_lines.specs.declared.claim.Says.TheVariants.{Always, Never, Sometimes, Terminates}
use Rattle.claim_lines.specs.declared.words.Word.{Word}
use Rattle.claim_lines.specs.declared.words.Word.TheVariants.{Letters, Text}

abbrev pub part_words : Part → List Word
part_words Done = Letters (codes "done") ∷ []
part_words Uncaught = Letters (codes "uncaught") ∷ []
part_words Deadlock = Letters (codes "deadlock") ∷ []
part_words Stuck = Letters (codes "stuck") ∷ []
part_words (Output text) = Letters (codes "output") ∷ Text text ∷ []
part_words (Errors text) = Letters (codes "errors") ∷ Text text ∷ []
part_words (OutputHas text) = Letters (codes "output") ∷ Letters (codes "has") ∷ Text text ∷ []
part_words (ErrorsHas text) = Letters (codes "errors") ∷ Letters (codes "has") ∷ Text text ∷ []

-- the words of the parts, with `and` between them
abbrev pub condition_words : List Part → List Word
condition_words [] = []
condition_words (p ∷ []) = part_words p
condition_words (p ∷ q ∷ ps) = part_words p ++ Letters (codes "and") ∷ condition_words (q ∷ ps)

-- the words are a claim that says this
abbrev pub IsClaim : List Word → Says → Type 0
IsClaim words (Always parts) = (parts ≢ []) × (words ≡ Letters (codes "always") ∷ condition_words parts)
IsClaim words (Never parts) = (parts ≢ []) × (words ≡ Letters (codes "never") ∷ condition_words parts)
IsClaim words (Sometimes parts) = (parts ≢ []) × (words ≡ Letters (codes "sometimes") ∷ condition_words parts)
IsClaim words Terminates = words ≡ Letters (codes "terminates") ∷ []

-- some claim begins with these words
abbrev pub BeginsSomeClaim : List Word → Type 0
BeginsSomeClaim words = (more : List Word) × (says : Says) × IsClaim (words ++ more) says
