-- The abstract syntax of actions, blocks and scripts as the rules see it (own), beside that of expressions in `Trees`.
use Rattle.std.specs.Prelude.{ℕ, List, [], ◌∷◌, map}
use Rattle.hs_base.specs.declared.pos.Pos.{Pos}
use Rattle.hs_base.specs.declared.tree.expr.Name.{Name}
use Rattle.hs_base.specs.declared.tree.action.Action.{Action}
use Rattle.hs_base.specs.declared.tree.action.Block.{Block}
use Rattle.hs_base.specs.declared.tree.action.BlockArms.{BlockArms}
use Rattle.hs_base.specs.declared.tree.action.Stmt.{Stmt}
use Rattle.hs_base.specs.declared.tree.action.Action.TheOpen.{Action-F, Block-F, BlockArms-F, Stmt-F}
use Rattle.hs_base.specs.declared.tree.action.Action.TheFolds.{fold-Action, fold-Block, fold-BlockArms, fold-Stmt}
use Rattle.hs_base.specs.declared.tree.script.Param.{Param}
use Rattle.hs_base.specs.declared.tree.script.Body.{Body}
use Rattle.hs_base.specs.declared.tree.script.Body.TheVariants as y
use Rattle.hs_base.specs.declared.tree.script.Def.{Def}
use Rattle.hs_base.specs.declared.tree.script.Script.{Script}
use Rattle.rules_expansion.specs.trees.Trees.{Wr, wr_of, Ex, Exs, ex_of, exs_of}
use Rattle.hs_base.specs.declared.tree.forms.BareAction.{BareAction}
use Rattle.hs_base.specs.declared.tree.forms.UnaryAction.{UnaryAction}
use Rattle.hs_base.specs.declared.tree.forms.BinaryAction.{BinaryAction}
use Rattle.hs_base.specs.declared.tree.forms.BlockAction.{BlockAction}
use Rattle.hs_base.specs.declared.tree.forms.MaskingAction.{MaskingAction}
use Rattle.hs_base.specs.declared.tree.forms.GuardAction.{GuardAction}

-- ---- actions and blocks

mutual
  pub data SurfaceAction : Type 0 where
    bare : BareAction → Pos → SurfaceAction
    unary_act : UnaryAction → Pos → Ex → SurfaceAction
    binary_act : BinaryAction → Pos → Ex → Ex → SurfaceAction
    throw_io : Pos → Wr → Ex → SurfaceAction
    new_empty : Pos → Wr → SurfaceAction
    call : Name → Exs → SurfaceAction
    choose_act : Pos → Ex → Bl → Bl → SurfaceAction
    case_act : Pos → Ex → ActArms → SurfaceAction
    -- modifyMVar_ m x B
    modify : Pos → Ex → Name → Bl → SurfaceAction
    scoped : BlockAction → Pos → Bl → SurfaceAction
    masking : MaskingAction → Pos → Name → Bl → SurfaceAction
    restore : Pos → Name → Bl → SurfaceAction
    catch : Pos → Bl → Name → Bl → SurfaceAction
    guard : GuardAction → Pos → Bl → Bl → SurfaceAction
    bracket : Pos → Bl → Name → Bl → Bl → SurfaceAction
    timeout : Pos → Ex → Bl → SurfaceAction
    with_async : Pos → Bl → Name → Bl → SurfaceAction

  pub data Bl : Type 0 where
    last : SurfaceAction → Bl
    then : SurfaceAction → Bl → Bl
    -- x <- a; the rest
    bind : Name → SurfaceAction → Bl → Bl
    -- let x = e; the rest
    let_in : Name → Ex → Bl → Bl

  pub data ActArms : Type 0 where
    maybe_acts : Bl → Name → Bl → ActArms
    either_acts : Name → Bl → Name → Bl → ActArms
    list_acts : Bl → Name → Name → Bl → ActArms
    pair_acts : Name → Name → Bl → ActArms

-- statements in front of a block
abbrev pub before : List (Bl → Bl) → Bl → Bl
before [] c = c
before (s ∷ ss) c = s (before ss c)

abbrev pub act_step : Action-F SurfaceAction ActArms (Bl → Bl) Bl → SurfaceAction
act_step (Action-F.Bare w p) = bare w p
act_step (Action-F.Unary w p e) = unary_act w p (ex_of e)
act_step (Action-F.Binary w p e f) = binary_act w p (ex_of e) (ex_of f)
act_step (Action-F.ThrowIo p w e) = throw_io p (wr_of w) (ex_of e)
act_step (Action-F.NewEmptyMVar p w) = new_empty p (wr_of w)
act_step (Action-F.Call f es) = call f (exs_of es)
act_step (Action-F.If p e a c) = choose_act p (ex_of e) a c
act_step (Action-F.Case p e arms) = case_act p (ex_of e) arms
act_step (Action-F.ModifyMVar p e x a) = modify p (ex_of e) x a
act_step (Action-F.Scoped w p a) = scoped w p a
act_step (Action-F.Masking w p x a) = masking w p x a
act_step (Action-F.Restore p x a) = restore p x a
act_step (Action-F.Catch p a x c) = catch p a x c
act_step (Action-F.Guard w p a c) = guard w p a c
act_step (Action-F.Bracket p a x c e) = bracket p a x c e
act_step (Action-F.Timeout p e a) = timeout p (ex_of e) a
act_step (Action-F.WithAsync p a x c) = with_async p a x c

abbrev pub stmt_step : Stmt-F SurfaceAction ActArms (Bl → Bl) Bl → Bl → Bl
stmt_step (Stmt-F.Bind x a) c = bind x a c
stmt_step (Stmt-F.Let x e) c = let_in x (ex_of e) c
stmt_step (Stmt-F.Do a) c = then a c

abbrev pub block_step : Block-F SurfaceAction ActArms (Bl → Bl) Bl → Bl
block_step c = before c.stmts (last c.last)

abbrev pub act_arms_step : BlockArms-F SurfaceAction ActArms (Bl → Bl) Bl → ActArms
act_arms_step (BlockArms-F.OfMaybe a x c) = maybe_acts a x c
act_arms_step (BlockArms-F.OfEither x a y c) = either_acts x a y c
act_arms_step (BlockArms-F.OfList a x y c) = list_acts a x y c
act_arms_step (BlockArms-F.OfPair x y a) = pair_acts x y a

abbrev pub act_of : Action → SurfaceAction
act_of = fold-Action SurfaceAction ActArms (Bl → Bl) Bl act_step act_arms_step stmt_step block_step

abbrev pub stmt_of : Stmt → Bl → Bl
stmt_of = fold-Stmt SurfaceAction ActArms (Bl → Bl) Bl act_step act_arms_step stmt_step block_step

abbrev pub bl_of : Block → Bl
bl_of = fold-Block SurfaceAction ActArms (Bl → Bl) Bl act_step act_arms_step stmt_step block_step

abbrev pub act_arms_of : BlockArms → ActArms
act_arms_of = fold-BlockArms SurfaceAction ActArms (Bl → Bl) Bl act_step act_arms_step stmt_step block_step

-- these statements and a last action
abbrev pub rest_of : List Stmt → Action → Bl
rest_of ss a = before (map stmt_of ss) (last (act_of a))

-- ---- scripts

-- a parameter
pub record Par : Type 0 where
  pub name : Name
  pub ty : Wr

pub data Bd : Type 0 where
  -- t = e
  pure_body : Wr → Ex → Bd
  -- IO t = A
  io_body : Wr → Bl → Bd

-- a definition
pub record Fn : Type 0 where
  pub name : Name
  pub params : List Par
  pub body : Bd

abbrev pub par_of : Param → Par
par_of p = record { name = p.name; ty = wr_of p.ty }

abbrev pub bd_of : Body → Bd
bd_of (y.Pure w e) = pure_body (wr_of w) (ex_of e)
bd_of (y.Action w a) = io_body (wr_of w) (bl_of a)

abbrev pub fn_of : Def → Fn
fn_of d = record { name = d.name; params = map par_of d.params; body = bd_of d.body }

-- the definitions in order
abbrev pub script_of : Script → List Fn
script_of s = map fn_of s.defs
