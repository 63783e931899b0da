-- What the rules see of each variant of an action, a block and a script: one equation each.
use Rattle.std.proofs.Common.{◌≡◌, ℕ, List, [], ◌∷◌, map, refl, ap, ◌∙◌, sym}
use Rattle.hs_base.specs.declared.pos.Pos.{Pos}
use Rattle.hs_base.specs.declared.tree.ty.Written.{Written}
use Rattle.hs_base.specs.declared.tree.expr.Name.{Name}
use Rattle.hs_base.specs.declared.tree.expr.Expr.{Expr}
use Rattle.hs_base.specs.declared.tree.action.Action.{Action}
use Rattle.hs_base.specs.declared.tree.action.Action.TheVariants as a
use Rattle.hs_base.specs.declared.tree.action.Block.{Block}
use Rattle.hs_base.specs.declared.tree.action.BlockArms.{BlockArms}
use Rattle.hs_base.specs.declared.tree.action.BlockArms.TheVariants as r
use Rattle.hs_base.specs.declared.tree.action.Stmt.{Stmt}
use Rattle.hs_base.specs.declared.tree.action.Stmt.TheVariants as s
use Rattle.hs_base.specs.declared.tree.action.Action.TheOpen.{Action-F, Block-F, BlockArms-F, Stmt-F}
use Rattle.hs_base.specs.declared.tree.action.Action.TheFolds.{fold-Action, fold-roll-Action, fold-Block, fold_out-Block, fold-BlockArms, fold-roll-BlockArms, fold-Stmt, fold-roll-Stmt}
use Rattle.hs_base.specs.declared.tree.forms.BareAction.{BareAction}
use Rattle.hs_base.specs.declared.tree.forms.UnaryAction.{UnaryAction}
use Rattle.hs_base.specs.declared.tree.forms.BinaryAction.{BinaryAction}
use Rattle.hs_base.specs.declared.tree.forms.BlockAction.{BlockAction}
use Rattle.hs_base.specs.declared.tree.forms.MaskingAction.{MaskingAction}
use Rattle.hs_base.specs.declared.tree.forms.GuardAction.{GuardAction}
use Rattle.rules_expansion.specs.trees.Trees.{wr_of, ex_of, exs_of}
use Rattle.rules_expansion.specs.trees.Programs.{SurfaceAction, bare, unary_act, binary_act, throw_io, new_empty, call, choose_act, case_act, modify, scoped, masking, restore, catch, guard, bracket, timeout, with_async, Bl, last, then, bind, let_in, ActArms, maybe_acts, either_acts, list_acts, pair_acts, before, act_step, act_arms_step, stmt_step, block_step, act_of, stmt_of, bl_of, act_arms_of, rest_of}

pub act-ThrowIo : (p : Pos) (w : Written) (e : Expr) → act_of (a.ThrowIo p w e) ≡ throw_io p (wr_of w) (ex_of e)
act-ThrowIo p w e = ap act_of (sym (a.rolls-ThrowIo p w e)) ∙ fold-roll-Action SurfaceAction ActArms (Bl → Bl) Bl act_step act_arms_step stmt_step block_step (Action-F.ThrowIo p w e)

pub act-If : (p : Pos) (e : Expr) (c : Block) (d : Block) → act_of (a.If p e c d) ≡ choose_act p (ex_of e) (bl_of c) (bl_of d)
act-If p e c d = ap act_of (sym (a.rolls-If p e c d)) ∙ fold-roll-Action SurfaceAction ActArms (Bl → Bl) Bl act_step act_arms_step stmt_step block_step (Action-F.If p e c d)

pub act-Case : (p : Pos) (e : Expr) (q : BlockArms) → act_of (a.Case p e q) ≡ case_act p (ex_of e) (act_arms_of q)
act-Case p e q = ap act_of (sym (a.rolls-Case p e q)) ∙ fold-roll-Action SurfaceAction ActArms (Bl → Bl) Bl act_step act_arms_step stmt_step block_step (Action-F.Case p e q)

pub act-Call : (x : Name) (es : List Expr) → act_of (a.Call x es) ≡ call x (exs_of es)
act-Call x es = ap act_of (sym (a.rolls-Call x es)) ∙ fold-roll-Action SurfaceAction ActArms (Bl → Bl) Bl act_step act_arms_step stmt_step block_step (Action-F.Call x es)

pub act-Unary : (w : UnaryAction) (p : Pos) (e : Expr) → act_of (a.Unary w p e) ≡ unary_act w p (ex_of e)
act-Unary w p e = ap act_of (sym (a.rolls-Unary w p e)) ∙ fold-roll-Action SurfaceAction ActArms (Bl → Bl) Bl act_step act_arms_step stmt_step block_step (Action-F.Unary w p e)

pub act-Binary : (w : BinaryAction) (p : Pos) (e : Expr) (f : Expr) → act_of (a.Binary w p e f) ≡ binary_act w p (ex_of e) (ex_of f)
act-Binary w p e f = ap act_of (sym (a.rolls-Binary w p e f)) ∙ fold-roll-Action SurfaceAction ActArms (Bl → Bl) Bl act_step act_arms_step stmt_step block_step (Action-F.Binary w p e f)

pub act-Bare : (w : BareAction) (p : Pos) → act_of (a.Bare w p) ≡ bare w p
act-Bare w p = ap act_of (sym (a.rolls-Bare w p)) ∙ fold-roll-Action SurfaceAction ActArms (Bl → Bl) Bl act_step act_arms_step stmt_step block_step (Action-F.Bare w p)

pub act-NewEmptyMVar : (p : Pos) (w : Written) → act_of (a.NewEmptyMVar p w) ≡ new_empty p (wr_of w)
act-NewEmptyMVar p w = ap act_of (sym (a.rolls-NewEmptyMVar p w)) ∙ fold-roll-Action SurfaceAction ActArms (Bl → Bl) Bl act_step act_arms_step stmt_step block_step (Action-F.NewEmptyMVar p w)

pub act-ModifyMVar : (p : Pos) (e : Expr) (x : Name) (c : Block) → act_of (a.ModifyMVar p e x c) ≡ modify p (ex_of e) x (bl_of c)
act-ModifyMVar p e x c = ap act_of (sym (a.rolls-ModifyMVar p e x c)) ∙ fold-roll-Action SurfaceAction ActArms (Bl → Bl) Bl act_step act_arms_step stmt_step block_step (Action-F.ModifyMVar p e x c)

pub act-Scoped : (w : BlockAction) (p : Pos) (c : Block) → act_of (a.Scoped w p c) ≡ scoped w p (bl_of c)
act-Scoped w p c = ap act_of (sym (a.rolls-Scoped w p c)) ∙ fold-roll-Action SurfaceAction ActArms (Bl → Bl) Bl act_step act_arms_step stmt_step block_step (Action-F.Scoped w p c)

pub act-Masking : (w : MaskingAction) (p : Pos) (x : Name) (c : Block) → act_of (a.Masking w p x c) ≡ masking w p x (bl_of c)
act-Masking w p x c = ap act_of (sym (a.rolls-Masking w p x c)) ∙ fold-roll-Action SurfaceAction ActArms (Bl → Bl) Bl act_step act_arms_step stmt_step block_step (Action-F.Masking w p x c)

pub act-Restore : (p : Pos) (x : Name) (c : Block) → act_of (a.Restore p x c) ≡ restore p x (bl_of c)
act-Restore p x c = ap act_of (sym (a.rolls-Restore p x c)) ∙ fold-roll-Action SurfaceAction ActArms (Bl → Bl) Bl act_step act_arms_step stmt_step block_step (Action-F.Restore p x c)

pub act-Catch : (p : Pos) (c : Block) (x : Name) (d : Block) → act_of (a.Catch p c x d) ≡ catch p (bl_of c) x (bl_of d)
act-Catch p c x d = ap act_of (sym (a.rolls-Catch p c x d)) ∙ fold-roll-Action SurfaceAction ActArms (Bl → Bl) Bl act_step act_arms_step stmt_step block_step (Action-F.Catch p c x d)

pub act-Guard : (w : GuardAction) (p : Pos) (c : Block) (d : Block) → act_of (a.Guard w p c d) ≡ guard w p (bl_of c) (bl_of d)
act-Guard w p c d = ap act_of (sym (a.rolls-Guard w p c d)) ∙ fold-roll-Action SurfaceAction ActArms (Bl → Bl) Bl act_step act_arms_step stmt_step block_step (Action-F.Guard w p c d)

pub act-Bracket : (p : Pos) (c : Block) (x : Name) (d : Block) (h : Block) → act_of (a.Bracket p c x d h) ≡ bracket p (bl_of c) x (bl_of d) (bl_of h)
act-Bracket p c x d h = ap act_of (sym (a.rolls-Bracket p c x d h)) ∙ fold-roll-Action SurfaceAction ActArms (Bl → Bl) Bl act_step act_arms_step stmt_step block_step (Action-F.Bracket p c x d h)

pub act-Timeout : (p : Pos) (e : Expr) (c : Block) → act_of (a.Timeout p e c) ≡ timeout p (ex_of e) (bl_of c)
act-Timeout p e c = ap act_of (sym (a.rolls-Timeout p e c)) ∙ fold-roll-Action SurfaceAction ActArms (Bl → Bl) Bl act_step act_arms_step stmt_step block_step (Action-F.Timeout p e c)

pub act-WithAsync : (p : Pos) (c : Block) (x : Name) (d : Block) → act_of (a.WithAsync p c x d) ≡ with_async p (bl_of c) x (bl_of d)
act-WithAsync p c x d = ap act_of (sym (a.rolls-WithAsync p c x d)) ∙ fold-roll-Action SurfaceAction ActArms (Bl → Bl) Bl act_step act_arms_step stmt_step block_step (Action-F.WithAsync p c x d)

pub ruleset act_rules = (act-Bare, act-Unary, act-Binary, act-ThrowIo, act-NewEmptyMVar, act-Call, act-If, act-Case, act-ModifyMVar, act-Scoped, act-Masking, act-Restore, act-Catch, act-Guard, act-Bracket, act-Timeout, act-WithAsync)

pub stmt-Bind : (x : Name) (c : Action) → stmt_of (s.Bind x c) ≡ bind x (act_of c)
stmt-Bind x c = ap stmt_of (sym (s.rolls-Bind x c)) ∙ fold-roll-Stmt SurfaceAction ActArms (Bl → Bl) Bl act_step act_arms_step stmt_step block_step (Stmt-F.Bind x c)

pub stmt-Let : (x : Name) (e : Expr) → stmt_of (s.Let x e) ≡ let_in x (ex_of e)
stmt-Let x e = ap stmt_of (sym (s.rolls-Let x e)) ∙ fold-roll-Stmt SurfaceAction ActArms (Bl → Bl) Bl act_step act_arms_step stmt_step block_step (Stmt-F.Let x e)

pub stmt-Do : (c : Action) → stmt_of (s.Do c) ≡ then (act_of c)
stmt-Do c = ap stmt_of (sym (s.rolls-Do c)) ∙ fold-roll-Stmt SurfaceAction ActArms (Bl → Bl) Bl act_step act_arms_step stmt_step block_step (Stmt-F.Do c)

pub ruleset stmt_rules = (stmt-Bind, stmt-Let, stmt-Do)

pub acts-OfMaybe : (c : Block) (x : Name) (d : Block) → act_arms_of (r.OfMaybe c x d) ≡ maybe_acts (bl_of c) x (bl_of d)
acts-OfMaybe c x d = ap act_arms_of (sym (r.rolls-OfMaybe c x d)) ∙ fold-roll-BlockArms SurfaceAction ActArms (Bl → Bl) Bl act_step act_arms_step stmt_step block_step (BlockArms-F.OfMaybe c x d)

pub acts-OfEither : (x : Name) (c : Block) (y : Name) (d : Block) → act_arms_of (r.OfEither x c y d) ≡ either_acts x (bl_of c) y (bl_of d)
acts-OfEither x c y d = ap act_arms_of (sym (r.rolls-OfEither x c y d)) ∙ fold-roll-BlockArms SurfaceAction ActArms (Bl → Bl) Bl act_step act_arms_step stmt_step block_step (BlockArms-F.OfEither x c y d)

pub acts-OfList : (c : Block) (x : Name) (y : Name) (d : Block) → act_arms_of (r.OfList c x y d) ≡ list_acts (bl_of c) x y (bl_of d)
acts-OfList c x y d = ap act_arms_of (sym (r.rolls-OfList c x y d)) ∙ fold-roll-BlockArms SurfaceAction ActArms (Bl → Bl) Bl act_step act_arms_step stmt_step block_step (BlockArms-F.OfList c x y d)

pub acts-OfPair : (x : Name) (y : Name) (c : Block) → act_arms_of (r.OfPair x y c) ≡ pair_acts x y (bl_of c)
acts-OfPair x y c = ap act_arms_of (sym (r.rolls-OfPair x y c)) ∙ fold-roll-BlockArms SurfaceAction ActArms (Bl → Bl) Bl act_step act_arms_step stmt_step block_step (BlockArms-F.OfPair x y c)

pub ruleset act_arms_rules = (acts-OfMaybe, acts-OfEither, acts-OfList, acts-OfPair)

-- a block is its statements in front of its last action
pub bl_is : (c : Block) → bl_of c ≡ rest_of c.stmts c.last
bl_is c = fold_out-Block SurfaceAction ActArms (Bl → Bl) Bl act_step act_arms_step stmt_step block_step c
