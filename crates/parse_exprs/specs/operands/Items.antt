-- A part of a list, as the code has it.
use Rattle.std.specs.Prelude.{List}
use Rattle.hs_base.specs.declared.tree.expr.Expr.{Expr}
use Rattle.rules_grammar.specs.Grammar.{many, next_item}
use Rattle.rules_grammar.specs.GrammarForms.{Rule, ◌◁◌}
use Rattle.rules_grammar.specs.GrammarKinds as k

-- behind the first item of a list
abbrev pub rest_of_items : Rule (List Expr)
rest_of_items = many next_item ◁ k.close_bracket
