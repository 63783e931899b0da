use Rattle.std.proofs.Common.{rules}
use Rattle.parse_exprs.proofs.operands_lemmas.Lists.{bracket_closed, bracket_at, bracket_type, bracket_items, bracket_fault, bracket_open}
use Rattle.parse_exprs.proofs.operands.bracketed.brackets.Goals as goal

pub returns-in_err-pos-clause-reads : goal.returns-in_err-pos-clause-reads
returns-in_err-pos-clause-reads b c = search (rules, bracket_open)

pub returns-in_err-symbol-2-clause-reads : goal.returns-in_err-symbol-2-clause-reads
returns-in_err-symbol-2-clause-reads b c = search (rules, bracket_at)

pub returns-in_err-ty-clause-reads : goal.returns-in_err-ty-clause-reads
returns-in_err-ty-clause-reads b c = search (rules, bracket_type)

pub returns-then-at_symbol-clause-reads : goal.returns-then-at_symbol-clause-reads
returns-then-at_symbol-clause-reads b c = search (rules, bracket_closed)

pub returns-in_err-items-clause-reads : goal.returns-in_err-items-clause-reads
returns-in_err-items-clause-reads b c = search (rules, bracket_fault)

pub returns-clause-reads : goal.returns-clause-reads
returns-clause-reads b c = search (rules, bracket_items)
