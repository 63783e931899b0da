-- What the grammar sees of a token, and the parts of a script that stand in an opener (own).
use Rattle.std.specs.Prelude.{◌⊎◌, ℕ, List}
use Rattle.hs_base.specs.declared.pos.Pos.{Pos}
use Rattle.hs_base.specs.declared.tree.action.Block.{Block}
use Rattle.hs_base.specs.declared.tree.action.BlockArms.{BlockArms}
use Rattle.hs_base.specs.declared.tree.expr.Expr.{Expr}
use Rattle.hs_base.specs.declared.tree.expr.ExprArms.{ExprArms}
use Rattle.hs_base.specs.declared.tree.expr.Name.{Name}
use Rattle.hs_base.specs.declared.tree.script.Param.{Param}
use Rattle.hs_base.specs.declared.tree.ty.Ty.{Ty}
use Rattle.rules_tokens.specs.declared.token.Tok.{Tok}
use Rattle.rules_tokens.specs.declared.token.Tok.TheVariants as tok

-- what the grammar sees of a token: a reserved word and a symbol go by their numbers
pub data TokenKind : Type 0 where
  name : TokenKind
  upper : TokenKind
  int : TokenKind
  text : TokenKind
  word : ℕ → TokenKind
  symbol : ℕ → TokenKind

abbrev pub kind_of : Tok → TokenKind
kind_of (tok.Name x) = name
kind_of tok.Upper = upper
kind_of (tok.Int n) = int
kind_of (tok.Text x) = text
kind_of (tok.Word w) = word w
kind_of (tok.Sym s) = symbol s

-- What stands in an opener, up to its closing bracket or to the end of its form, with the values that it gives. A value
-- that waits for the opener's position is a function of it.
pub data OpenerPart : Type 0 → Type 1 where
  -- in ( and [ of a type
  type_in_parens : OpenerPart Ty
  type_in_brackets : OpenerPart Ty
  -- in ( of a parameter
  param_in_parens : OpenerPart Param
  -- in { of a block
  block_in_braces : OpenerPart Block
  -- behind if and case of an action, and in { of the case's arms
  block_if : OpenerPart (Expr × Block × Block)
  block_case : OpenerPart (Expr × BlockArms)
  block_arms : OpenerPart BlockArms
  -- behind let of a statement
  let_stmt : OpenerPart (Name × Expr)
  -- in [ and ( of a pattern
  no_items : OpenerPart (Unit {0})
  two_names : OpenerPart (Name × Name)
  -- behind if, case and let of an expression, and in { of the case's arms
  expr_if : OpenerPart (Expr × Expr × Expr)
  expr_case : OpenerPart (Expr × ExprArms)
  expr_arms : OpenerPart ExprArms
  expr_let : OpenerPart (Name × Expr × Expr)
  -- in ( and [ of an expression; and in a [ where the list may be empty
  expr_in_parens : OpenerPart (Pos → Expr)
  items_in_brackets : OpenerPart (List Expr)
  items_or_none : OpenerPart (Unit {0} ⊎ List Expr)
