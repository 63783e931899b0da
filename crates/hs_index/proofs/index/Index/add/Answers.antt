use Rattle.std.proofs.Common.{rules}
use Rattle.hs_index.proofs.Firsts.{indexes_behind}
use Rattle.hs_index.proofs.index.Index.add.Goals as goal

pub returns-clause-added : goal.returns-clause-added
returns-clause-added c names i = indexes_behind c.args.self.now _ names c.args.name.now i (search rules) c.in_ok-put_first.ensures.ok
