-- What an answer of the evaluator stands for.
use Rattle.rules_meaning.specs.Values.{value_of, Outcome, Gives, Throws, Stuck}
use Rattle.hs_eval.specs.declared.found.Found.{Found}
use Rattle.hs_eval.specs.declared.found.Found.TheVariants as f

abbrev pub out_of : Found → Outcome
out_of (f.Value v) = Gives (value_of v)
out_of (f.Throws e) = Throws e
out_of f.Stuck = Stuck
