-- What a search of a script is promised to be.
use Rattle.std.proofs.Math.Logic.{∥∥₁_map}
use Rattle.std.proofs.Common.{◌≡◌, List, ℕ, refl, sym, ap, subst}
use Rattle.std.specs.Prelude.{IfOk, Option, Result, Some}
use Rattle.hs_base.specs.declared.limits.Limits.{Limits}
use Rattle.hs_base.specs.declared.no_memory.NoMemory.{NoMemory}
use Rattle.hs_base.specs.declared.tree.script.Script.{Script}
use Rattle.rules_code.specs.Codes.{body_of}
use Rattle.conc_outcomes.specs.Searching.{IsCodeOf}
use Rattle.conc_outcomes.specs.Exploring.{Explores}
use Rattle.outcome_listing.specs.declared.explored.Explored.{Explored}
use Rattle.conc_task.specs.declared.task.Search.{Search}
use Rattle.conc_task.specs.Documents.{IsLeft}
use Rattle.conc_task.specs.Tasks.{HadSought}
use Rattle.conc_top.specs.Searches.{bounds_of, IsExplored, IsSearched, limits}

-- a search within these limits is one within the limits of a run
pub within_limits : (r : Result Explored NoMemory) (sought : Search) (l : Limits) → l ≡ limits
    → IfOk r (λ x. (script : Script) → IsCodeOf (body_of sought.code) script
    → Explores (record { states = sought.states; fuel = sought.fuel; limits = l; clock = sought.clock }) script (body_of sought.code) x) → IfOk r (IsSearched sought)
within_limits r sought l same found =
    subst (λ z. IfOk r (λ x. (script : Script) → IsCodeOf (body_of sought.code) script
    → Explores (record { states = sought.states; fuel = sought.fuel; limits = z; clock = sought.clock }) script (body_of sought.code) x)) same found

-- what holds whatever script the code is that of holds of the one that was read
pub explored : (before left_now : Option (List ℕ)) (sought : Search) → HadSought before left_now sought → (x : Explored) → IsSearched sought x → ∥ IsExplored (bounds_of sought) sought.script.items x ∥₁
explored before left_now sought had x promised = ∥∥₁_map (body_of sought.code).stands (λ stands. record {
  script = (body_of sought.code).of.value;
  accepted = had.accepted;
  body = body_of sought.code;
  code = (had.accepted.1, stands);
  explores = promised (body_of sought.code).of.value (had.accepted.1, stands);
})

-- the bytes that were read are those that the source had
pub left_is : (before : Option (List ℕ)) (left bytes : List ℕ) → before ≡ Some left → IsLeft before bytes → left ≡ bytes
left_is before left bytes known is = subst (λ b. IsLeft b bytes) known is
