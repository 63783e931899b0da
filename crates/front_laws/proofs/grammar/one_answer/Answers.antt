use Rattle.front_laws.proofs.grammar_lemmas.Answers.{same_answer}
use Rattle.front_laws.proofs.grammar.one_answer.Goals as goal

pub returns : goal.returns
returns c = same_answer
