-- What a walk along the lines of a text stands for (own).
use Rattle.std.specs.Prelude.{◌≡◌, ℕ, List, [], ◌∷◌, ◌++◌, length}
use Rattle.hs_rules.specs.declared.entry.Entry.{Entry}
use Rattle.hs_rules.specs.Histories.{steps_of}
use Rattle.rules_code.specs.declared.code.CodeBody.{CodeBody}
use Rattle.trace_text.specs.spelling.Traces.{Reads}
use Rattle.trace_checker.specs.player.Playing.{Played}
use Rattle.trace_checker.specs.declared.walk.Walk.{Walk}

-- The text was read as far as these entries, of which the first ones are played: they are a run of the script of this code, and the
-- walk stands for the state that they leave, with their number and their steps.
pub record Stands (b : CodeBody) (text : List ℕ) (played_so_far read_so_far : List Entry) (w : Walk) : Type 0 where
  pub read : Reads text read_so_far w.lines.rest
  pub played : Played played_so_far w.player
  pub of : w.player.of.value ≡ b
  pub entries : w.entries ≡ length played_so_far
  pub steps : w.steps ≡ steps_of played_so_far

-- all that was read is played
abbrev pub WalkedTo : CodeBody → List ℕ → List Entry → Walk → Type 0
WalkedTo b text es w = Stands b text es es w

-- all but the last entry
abbrev pub HasRead : CodeBody → List ℕ → List Entry → Entry → Walk → Type 0
HasRead b text es e w = Stands b text es (es ++ e ∷ []) w
