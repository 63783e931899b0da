use Rattle.front_laws.proofs.typing_lemmas.TokenPlaces.{spelled_at_tokens}
use Rattle.front_laws.proofs.typing.nodes_at_tokens.Goals as goal

pub returns : goal.returns
returns c = spelled_at_tokens
