-- The smallest script and its code, `main :: IO () = { return () }`, by which a test shows that the premise of `eval` can
-- be met.
use Rattle.std.specs.Prelude.{List, [], ◌∷◌, codes}
use Rattle.hs_base.specs.declared.pos.Pos.{Pos}
use Rattle.hs_base.specs.declared.tree.action.Action.TheVariants as a
use Rattle.hs_base.specs.declared.tree.expr.Expr.TheVariants as e
use Rattle.hs_base.specs.declared.tree.forms.UnaryAction.TheVariants as u
use Rattle.hs_base.specs.declared.tree.ty.Ty.TheVariants as t
use Rattle.hs_base.specs.declared.tree.script.Body.TheVariants as y
use Rattle.hs_base.specs.declared.tree.script.Script.{Script}
use Rattle.rules_code.specs.declared.node.Node.{Node}
use Rattle.rules_code.specs.declared.node.Node.TheVariants as n
use Rattle.rules_code.specs.declared.act.Act.{Act}
use Rattle.rules_code.specs.declared.act.Act.TheVariants as c
use Rattle.rules_code.specs.declared.code.Fun.{Fun}

abbrev pub smallest_script : Pos → Script
smallest_script p = record {
  defs = record {
    name = record { text = codes "main"; pos = p };
    params = [];
    body = y.Action (record { ty = t.Unit; pos = p }) (record { stmts = []; last = a.Unary u.Return p (e.Unit p) });
  } ∷ [];
}

abbrev pub smallest_nodes : List Node
smallest_nodes = n.Unit ∷ []

abbrev pub smallest_acts : List Act
smallest_acts = c.Return (record { 0 = 0 }) ∷ []

abbrev pub smallest_funs : List Fun
smallest_funs = record { params = 0; body = record { 0 = 0 } } ∷ []
