use Rattle.front_laws.proofs.typing_lemmas.Order.{tokens_in_order}
use Rattle.front_laws.proofs.typing.tokens_in_order.Goals as goal

pub returns : goal.returns
returns c = tokens_in_order
