use Rattle.front_laws.proofs.typing_lemmas.Broken.{broken_once}
use Rattle.front_laws.proofs.typing.broken_in_one_way.Goals as goal

pub returns : goal.returns
returns c = broken_once
