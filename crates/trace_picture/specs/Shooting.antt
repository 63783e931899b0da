-- What a film that was shot along the lines of a text is (own).
use Rattle.std.specs.Prelude.{◌≡◌, ℕ, List, length, vec_items}
use Rattle.hs_rules.specs.declared.entry.Entry.{Entry}
use Rattle.hs_rules.specs.State.{State}
use Rattle.rules_expansion.specs.trees.Programs.{Fn}
use Rattle.trace_text.specs.spelling.Traces.{Spells}
use Rattle.trace_checker.specs.Checking.{RunsTo}
use Rattle.trace_picture.specs.film.Filming.{film_of}
use Rattle.trace_picture.specs.declared.filming.Shot.{Shot}

-- the text spells a run of the script, and this is its film
pub record Shoots (ds : List Fn) (text : List ℕ) (shot : Shot) : Type 0 where
  pub list : List Entry
  pub state : State
  pub spelled : Spells text list
  pub runs : RunsTo ds list state
  pub film : vec_items shot.film ≡ film_of ds list
  pub threads : shot.threads ≡ length state.threads
  pub cells : shot.cells ≡ length state.cells
