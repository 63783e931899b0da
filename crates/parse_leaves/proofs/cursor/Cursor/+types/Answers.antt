use Rattle.std.proofs.Common.{rules}
use Rattle.hs_grammar.specs.Parser.{firsts, may_be_empty, read_then}
use Rattle.rules_grammar.specs.Grammar.{rule_of, type, type_end, atype}
use Rattle.parse_leaves.proofs.Steps.{steps}
use Rattle.parse_leaves.proofs.cursor.Cursor.+types.Goals as goal

pub atype-returns-then-at_word-clause-reads : goal.atype-returns-then-at_word-clause-reads
unfolding firsts may_be_empty read_then atype
atype-returns-then-at_word-clause-reads t c = search (rules, steps)

pub atype-returns-then-at_word-2-clause-reads : goal.atype-returns-then-at_word-2-clause-reads
unfolding firsts may_be_empty read_then atype
atype-returns-then-at_word-2-clause-reads t c = search (rules, steps)

pub atype-returns-then-at_word-3-clause-reads : goal.atype-returns-then-at_word-3-clause-reads
unfolding firsts may_be_empty read_then atype
atype-returns-then-at_word-3-clause-reads t c = search (rules, steps)

pub atype-returns-then-at_word-4-clause-reads : goal.atype-returns-then-at_word-4-clause-reads
unfolding firsts may_be_empty read_then atype
atype-returns-then-at_word-4-clause-reads t c = search (rules, steps)

pub atype-returns-then-at_word-5-clause-reads : goal.atype-returns-then-at_word-5-clause-reads
unfolding firsts may_be_empty read_then atype
atype-returns-then-at_word-5-clause-reads t c = search (rules, steps)

pub atype-returns-then-at_symbol-clause-reads : goal.atype-returns-then-at_symbol-clause-reads
unfolding firsts may_be_empty read_then atype
atype-returns-then-at_symbol-clause-reads t c = search (rules, steps)

pub atype-returns-clause-reads : goal.atype-returns-clause-reads
unfolding firsts may_be_empty read_then atype
atype-returns-clause-reads t c = search (rules, steps)

pub list_type-returns-in_err-pos-clause-reads : goal.list_type-returns-in_err-pos-clause-reads
list_type-returns-in_err-pos-clause-reads t c = search (rules, steps)

pub list_type-returns-in_err-ty-clause-reads : goal.list_type-returns-in_err-ty-clause-reads
list_type-returns-in_err-ty-clause-reads t c = search (rules, steps)

pub list_type-returns-clause-reads : goal.list_type-returns-clause-reads
list_type-returns-clause-reads t c = search (rules, steps)

pub type_in_brackets-returns-in_err-item-clause-reads : goal.type_in_brackets-returns-in_err-item-clause-reads
unfolding firsts may_be_empty read_then rule_of
type_in_brackets-returns-in_err-item-clause-reads t c = search (rules, steps)

pub type_in_brackets-returns-in_err-symbol-clause-reads : goal.type_in_brackets-returns-in_err-symbol-clause-reads
unfolding firsts may_be_empty read_then rule_of
type_in_brackets-returns-in_err-symbol-clause-reads t c = search (rules, steps)

pub type_in_brackets-returns-clause-reads : goal.type_in_brackets-returns-clause-reads
unfolding firsts may_be_empty read_then rule_of
type_in_brackets-returns-clause-reads t c = search (rules, steps)

pub type_in_parens-returns-in_err-pos-clause-reads : goal.type_in_parens-returns-in_err-pos-clause-reads
type_in_parens-returns-in_err-pos-clause-reads t c = search (rules, steps)

pub type_in_parens-returns-in_err-ty-clause-reads : goal.type_in_parens-returns-in_err-ty-clause-reads
type_in_parens-returns-in_err-ty-clause-reads t c = search (rules, steps)

pub type_in_parens-returns-clause-reads : goal.type_in_parens-returns-clause-reads
type_in_parens-returns-clause-reads t c = search (rules, steps)

pub types_in_parens-returns-then-at_symbol-clause-reads : goal.types_in_parens-returns-then-at_symbol-clause-reads
unfolding firsts may_be_empty read_then rule_of
types_in_parens-returns-then-at_symbol-clause-reads t c = search (rules, steps)

pub types_in_parens-returns-in_err-first-clause-reads : goal.types_in_parens-returns-in_err-first-clause-reads
unfolding firsts may_be_empty read_then rule_of
types_in_parens-returns-in_err-first-clause-reads t c = search (rules, steps)

pub types_in_parens-returns-clause-reads : goal.types_in_parens-returns-clause-reads
unfolding firsts may_be_empty read_then rule_of
types_in_parens-returns-clause-reads t c = search (rules, steps)

pub type_end-returns-then-at_symbol-clause-reads : goal.type_end-returns-then-at_symbol-clause-reads
unfolding firsts may_be_empty read_then type_end
type_end-returns-then-at_symbol-clause-reads t c = search (rules, steps)

pub type_end-returns-in_err-symbol-2-clause-reads : goal.type_end-returns-in_err-symbol-2-clause-reads
unfolding firsts may_be_empty read_then type_end
type_end-returns-in_err-symbol-2-clause-reads t c = search (rules, steps)

pub type_end-returns-in_err-second-clause-reads : goal.type_end-returns-in_err-second-clause-reads
unfolding firsts may_be_empty read_then type_end
type_end-returns-in_err-second-clause-reads t c = search (rules, steps)

pub type_end-returns-in_err-symbol-3-clause-reads : goal.type_end-returns-in_err-symbol-3-clause-reads
unfolding firsts may_be_empty read_then type_end
type_end-returns-in_err-symbol-3-clause-reads t c = search (rules, steps)

pub type_end-returns-clause-reads : goal.type_end-returns-clause-reads
unfolding firsts may_be_empty read_then type_end
type_end-returns-clause-reads t c = search (rules, steps)

pub ty-returns-in_err-item-clause-reads : goal.ty-returns-in_err-item-clause-reads
unfolding firsts may_be_empty read_then type
ty-returns-in_err-item-clause-reads t c = search (rules, steps)

pub ty-returns-then-at_word-clause-reads : goal.ty-returns-then-at_word-clause-reads
unfolding firsts may_be_empty read_then type
ty-returns-then-at_word-clause-reads t c = search (rules, steps)

pub ty-returns-in_err-left-clause-reads : goal.ty-returns-in_err-left-clause-reads
unfolding firsts may_be_empty read_then type
ty-returns-in_err-left-clause-reads t c = search (rules, steps)

pub ty-returns-in_err-right-clause-reads : goal.ty-returns-in_err-right-clause-reads
unfolding firsts may_be_empty read_then type
ty-returns-in_err-right-clause-reads t c = search (rules, steps)

pub ty-returns-then-at_word-2-clause-reads : goal.ty-returns-then-at_word-2-clause-reads
unfolding firsts may_be_empty read_then type
ty-returns-then-at_word-2-clause-reads t c = search (rules, steps)

pub ty-returns-in_err-item-2-clause-reads : goal.ty-returns-in_err-item-2-clause-reads
unfolding firsts may_be_empty read_then type
ty-returns-in_err-item-2-clause-reads t c = search (rules, steps)

pub ty-returns-then-at_word-3-clause-reads : goal.ty-returns-then-at_word-3-clause-reads
unfolding firsts may_be_empty read_then type
ty-returns-then-at_word-3-clause-reads t c = search (rules, steps)

pub ty-returns-in_err-item-3-clause-reads : goal.ty-returns-in_err-item-3-clause-reads
unfolding firsts may_be_empty read_then type
ty-returns-in_err-item-3-clause-reads t c = search (rules, steps)

pub ty-returns-then-at_word-4-clause-reads : goal.ty-returns-then-at_word-4-clause-reads
unfolding firsts may_be_empty read_then type
ty-returns-then-at_word-4-clause-reads t c = search (rules, steps)

pub ty-returns-clause-reads : goal.ty-returns-clause-reads
unfolding firsts may_be_empty read_then type
ty-returns-clause-reads t c = search (rules, steps)
