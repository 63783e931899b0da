use Rattle.std.proofs.Common.{sym}
use Rattle.typing_table.proofs.Tables.{known-node, known-none}
use Rattle.typing_table.proofs.table.TypeTable.node.Goals as goal

pub returns-in-None-clause-node : goal.returns-in-None-clause-node
returns-in-None-clause-node c = sym (known-none c.args.self.now.nodes c.args.place (sym c.in-None.ensures.value))

pub returns-in-Some-clause-node : goal.returns-in-Some-clause-node
returns-in-Some-clause-node c =
    sym (known-node c.args.self.now.nodes c.args.place c.in-Some.node.now c.args.self.now.ordered (sym c.in-Some.ensures.value))
