use Rattle.front_laws.proofs.typing_lemmas.TypeFaults.{same_refusal}
use Rattle.front_laws.proofs.typing.one_refusal.Goals as goal

pub returns : goal.returns
returns c = same_refusal
