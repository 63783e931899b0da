use Rattle.front_laws.proofs.typing_lemmas.TokenPlaces.{spelled_has}
use Rattle.front_laws.proofs.typing.tokens_at_nodes.Goals as goal

pub returns : goal.returns
returns c = spelled_has
