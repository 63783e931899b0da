-- Parts of expressions, as the code has them.
use Rattle.hs_base.specs.declared.pos.Pos.{Pos}
use Rattle.hs_base.specs.declared.tree.expr.CompareOp.{CompareOp}
use Rattle.hs_base.specs.declared.tree.expr.Expr.{Expr}
use Rattle.rules_grammar.specs.Grammar.{compare_operator, cons, expr}
use Rattle.rules_grammar.specs.GrammarForms.{Rule, give, ◌⊛◌, ◌◁◌}
use Rattle.rules_grammar.specs.GrammarKinds as k

-- behind `then`: two expressions with `else` between them
abbrev pub branches : Rule (Expr × Expr)
branches = give (λ x y. (x, y)) ⊛ expr ◁ k.else' ⊛ expr

-- an operator that compares, and what stands behind it
abbrev pub compared : Rule (CompareOp × Pos × Expr)
compared = give (λ o x. (o.0, o.1, x)) ⊛ compare_operator ⊛ cons
