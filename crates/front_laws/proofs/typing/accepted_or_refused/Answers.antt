use Rattle.front_laws.proofs.typing_lemmas.TypeFaults.{not_refused}
use Rattle.front_laws.proofs.typing.accepted_or_refused.Goals as goal

pub returns : goal.returns
returns c = not_refused
