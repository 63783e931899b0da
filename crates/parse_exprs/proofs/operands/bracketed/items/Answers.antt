use Rattle.std.proofs.Common.{rules}
use Rattle.parse_exprs.proofs.operands_lemmas.Lists.{items_ok, items_first, items_rest}
use Rattle.parse_exprs.proofs.operands.bracketed.items.Goals as goal

pub returns-in_err-first-clause-reads : goal.returns-in_err-first-clause-reads
returns-in_err-first-clause-reads b c = search (rules, items_first)

pub returns-in_err-rest-clause-reads : goal.returns-in_err-rest-clause-reads
returns-in_err-rest-clause-reads b c = search (rules, items_rest)

pub returns-clause-reads : goal.returns-clause-reads
returns-clause-reads b c = search (rules, items_ok)
