use Rattle.front_laws.proofs.grammar_lemmas.Answers.{exclude}
use Rattle.front_laws.proofs.grammar.deep_or_unexpected.Goals as goal

pub returns : goal.returns
returns c = exclude
