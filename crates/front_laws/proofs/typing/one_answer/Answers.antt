use Rattle.front_laws.proofs.typing_lemmas.TypeFaults.{same_answer}
use Rattle.front_laws.proofs.typing.one_answer.Goals as goal

pub returns : goal.returns
returns c = same_answer
