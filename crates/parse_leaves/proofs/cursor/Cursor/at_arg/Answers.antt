use Rattle.std.proofs.Common.{rules}
use Rattle.hs_grammar.specs.Parser.{firsts, may_be_empty}
use Rattle.rules_grammar.specs.Grammar.{arg, atom, constant_word, plain_atom}
use Rattle.parse_leaves.proofs.Looks.{look_yes, look_no, constant_yes, constant_no}
use Rattle.parse_leaves.proofs.cursor.Cursor.at_arg.Goals as goal

pub returns-then-at_name : goal.returns-then-at_name
unfolding firsts may_be_empty arg atom constant_word plain_atom
returns-then-at_name c = search (rules, look_yes, look_no, constant_yes, constant_no)

pub returns-then-at_symbol : goal.returns-then-at_symbol
unfolding firsts may_be_empty arg atom constant_word plain_atom
returns-then-at_symbol c = search (rules, look_yes, look_no, constant_yes, constant_no)

pub returns-then-at_int : goal.returns-then-at_int
unfolding firsts may_be_empty arg atom constant_word plain_atom
returns-then-at_int c = search (rules, look_yes, look_no, constant_yes, constant_no)

pub returns-then-at_text : goal.returns-then-at_text
unfolding firsts may_be_empty arg atom constant_word plain_atom
returns-then-at_text c = search (rules, look_yes, look_no, constant_yes, constant_no)

pub returns-then-at_constant : goal.returns-then-at_constant
unfolding firsts may_be_empty arg atom constant_word plain_atom
returns-then-at_constant c = search (rules, look_yes, look_no, constant_yes, constant_no)

pub returns : goal.returns
unfolding firsts may_be_empty arg atom constant_word plain_atom
returns c = search (rules, look_yes, look_no, constant_yes, constant_no)
