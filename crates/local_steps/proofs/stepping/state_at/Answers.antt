use Rattle.std.proofs.Common.{◌≡◌, List, sym, subst}
use Rattle.std.specs.Prelude.{Some, None, MatchOption}
use Rattle.rules_code.specs.CodeTrees.{Sa}
use Rattle.rules_meaning.specs.Values as val
use Rattle.rules_meaning.specs.Values.{V, value_of, values_of}
use Rattle.slot_laws.specs.SlotRules.{restored}
use Rattle.slot_laws.proofs.ActNodes.{value_some}
use Rattle.local_steps.proofs.stepping.state_at.Goals as goal

pub returns-in-Some : goal.returns-in-Some
returns-in-Some c =
    subst (λ z. MatchOption c.state_of.result ((a : Sa) (vs : List V) → restored a vs z ≡ None) (λ m. z ≡ Some (val.Restore m)))
    (sym (value_some c.args.env.now c.args.slot c.in-Some.value.now (sym c.in-Some.ensures))) c.state_of.ensures
