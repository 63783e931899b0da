use Rattle.front_laws.proofs.typing_lemmas.TokenPlaces.{spelled_apart}
use Rattle.front_laws.proofs.typing.nodes_apart.Goals as goal

pub returns : goal.returns
returns c = spelled_apart
