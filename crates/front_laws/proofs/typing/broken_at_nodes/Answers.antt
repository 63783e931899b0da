use Rattle.front_laws.proofs.typing_lemmas.Broken.{broken_at_node}
use Rattle.front_laws.proofs.typing.broken_at_nodes.Goals as goal

pub returns : goal.returns
returns c = broken_at_node
