use Rattle.rules_sorts.specs.TypedMeaning.{any_cell}
use Rattle.hs_soundness.proofs.TypesKept.{ex_good}
use Rattle.hs_soundness.proofs.FunctionsTyped.{functions_good}
use Rattle.hs_soundness.proofs.meaning.meaning_keeps_types.Goals as goal

pub returns-clause-value : goal.returns-clause-value
returns-clause-value a c fs e s env t fg w f h = ex_good any_cell c fs fg e s env t w f h

pub returns-clause-functions : goal.returns-clause-functions
returns-clause-functions a = functions_good any_cell
