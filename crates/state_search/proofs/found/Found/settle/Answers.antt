use Rattle.state_search.proofs.Staying.{settled_known}
use Rattle.state_search.proofs.found.Found.settle.Goals as goal

pub returns-else-is_none-clause-kinds : goal.returns-else-is_none-clause-kinds
returns-else-is_none-clause-kinds c = λ k at. settled_known c.args.self.now.kinds.items c.args.at c.index.result.now k c.requires c.index.ensures c.if-is_none.ensures at
