-- What the picture of a text answers (own).
use Rattle.std.specs.Prelude.{◌≡◌, ◌≤◌, ◌<◌, ℕ, List, length, Err}
use Rattle.hs_rules.specs.declared.entry.Entry.{Entry}
use Rattle.hs_rules.specs.State.{State}
use Rattle.rules_meaning.specs.CoreMeaning.{code_of}
use Rattle.rules_expansion.specs.trees.Programs.{Fn}
use Rattle.trace_text.specs.spelling.Traces.{Spells}
use Rattle.trace_checker.specs.declared.player.player.Reached.{Reached}
use Rattle.trace_checker.specs.declared.player.player.Reached.TheVariants as reached
use Rattle.trace_checker.specs.player.Playing.{ReachedAs}
use Rattle.trace_checker.specs.Checking.{RunsTo, Judges}
use Rattle.lane_picture.specs.declared.film.Ending.{Ending}
use Rattle.lane_picture.specs.declared.film.Ending.TheVariants as ending
use Rattle.trace_picture.specs.film.Filming.{picture_of}
use Rattle.trace_picture.specs.declared.fault.PictureFault.{PictureFault}
use Rattle.trace_picture.specs.declared.fault.PictureFault.TheVariants as fault

-- so many entries are drawn at most
abbrev pub most_entries : ℕ
most_entries = 10000

abbrev pub ending_of : Reached → Ending
ending_of reached.Done = ending.Done
ending_of reached.Uncaught = ending.Uncaught
ending_of reached.Deadlock = ending.Deadlock
ending_of reached.Open = ending.Open

-- this is the picture of a run of the script that the text spells, and the run has no more entries than are drawn
pub record Pictures (ds : List Fn) (text txt : List ℕ) : Type 0 where
  pub list : List Entry
  pub state : State
  pub end : Reached
  pub spelled : Spells text list
  pub runs : RunsTo ds list state
  pub few : length list ≤ most_entries
  pub reached : ReachedAs end (code_of ds) state
  pub drawn : txt ≡ picture_of ds list state (ending_of end)

-- the text spells a run of the script with so many entries, and these are more than are drawn
pub record IsLarge (ds : List Fn) (text : List ℕ) (n : ℕ) : Type 0 where
  pub list : List Entry
  pub state : State
  pub spelled : Spells text list
  pub runs : RunsTo ds list state
  pub entries : n ≡ length list
  pub many : most_entries < n

abbrev pub Refuses : List Fn → List ℕ → PictureFault → Type 0
Refuses ds text (fault.Run f) = Judges ds text (Err f)
Refuses ds text (fault.Large n) = ∥ IsLarge ds text n ∥₁
