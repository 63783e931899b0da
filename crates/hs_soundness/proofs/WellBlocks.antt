-- The blocks of a script have expressions that a script can have.
use Rattle.std.proofs.Common.{List, [], ◌∷◌, map, sym, subst}
use Rattle.hs_base.specs.declared.tree.expr.Expr.{Expr}
use Rattle.hs_base.specs.declared.tree.action.Action.{Action}
use Rattle.hs_base.specs.declared.tree.action.Block.{Block}
use Rattle.hs_base.specs.declared.tree.action.BlockArms.{BlockArms}
use Rattle.hs_base.specs.declared.tree.action.Stmt.{Stmt}
use Rattle.hs_base.specs.declared.tree.action.Action.TheOpen.{Action-F, Block-F, BlockArms-F, Stmt-F}
use Rattle.hs_base.specs.declared.tree.action.Action.TheViews.{roll-Action, roll-Block, roll-BlockArms, roll-Stmt}
use Rattle.hs_base.specs.declared.tree.action.Action.TheFolds.{map-Action, map-Block, map-BlockArms, map-Stmt, fold-roll-Action, fold-roll-Block, fold-roll-BlockArms, fold-roll-Stmt, ind-Block}
use Rattle.rules_expansion.specs.trees.Trees.{exs_of}
use Rattle.rules_expansion.specs.trees.Programs.{SurfaceAction, Bl, last, ActArms, before, act_step, stmt_step, block_step, act_arms_step, act_of, stmt_of, bl_of, act_arms_of}
use Rattle.rules_sorts.specs.TypedMeaning.{WellAll}
use Rattle.hs_soundness.specs.WellActions.{WellAct, WellBl, WellActArms}
use Rattle.hs_soundness.proofs.Wells.{ex_well}

-- ---- parts with their proofs

abbrev WellStmt : (Bl → Bl) → Type 0
WellStmt s = (c : Bl) → WellBl c → WellBl (s c)

abbrev WithAct : Type 0
WithAct = (a : Action) × WellAct (act_of a)

abbrev WithActArms : Type 0
WithActArms = (r : BlockArms) × WellActArms (act_arms_of r)

abbrev WithStmt : Type 0
WithStmt = (s : Stmt) × WellStmt (stmt_of s)

abbrev WithBlock : Type 0
WithBlock = (b : Block) × WellBl (bl_of b)

exs_well : (es : List Expr) → WellAll (exs_of es)
exs_well [] = tt
exs_well (e ∷ es) = (ex_well e, exs_well es)

before_well : (ss : List WithStmt) (c : Bl) → WellBl c → WellBl (before (map stmt_of (map (λ s. s.0) ss)) c)
before_well [] c h = h
before_well (s ∷ ss) c h = s.1 (before (map stmt_of (map (λ z. z.0) ss)) c) (before_well ss c h)

-- ---- one layer, over parts with their proofs

abbrev plain_act : Action-F WithAct WithActArms WithStmt WithBlock → Action-F Action BlockArms Stmt Block
plain_act y = map-Action WithAct WithActArms WithStmt WithBlock Action BlockArms Stmt Block (λ e. e.0) (λ e. e.0) (λ e. e.0) (λ e. e.0) y

abbrev plain_act_arms : BlockArms-F WithAct WithActArms WithStmt WithBlock → BlockArms-F Action BlockArms Stmt Block
plain_act_arms y = map-BlockArms WithAct WithActArms WithStmt WithBlock Action BlockArms Stmt Block (λ e. e.0) (λ e. e.0) (λ e. e.0) (λ e. e.0) y

abbrev plain_stmt : Stmt-F WithAct WithActArms WithStmt WithBlock → Stmt-F Action BlockArms Stmt Block
plain_stmt y = map-Stmt WithAct WithActArms WithStmt WithBlock Action BlockArms Stmt Block (λ e. e.0) (λ e. e.0) (λ e. e.0) (λ e. e.0) y

abbrev plain_block : Block-F WithAct WithActArms WithStmt WithBlock → Block-F Action BlockArms Stmt Block
plain_block y = map-Block WithAct WithActArms WithStmt WithBlock Action BlockArms Stmt Block (λ e. e.0) (λ e. e.0) (λ e. e.0) (λ e. e.0) y

act_well : (y : Action-F WithAct WithActArms WithStmt WithBlock) → WellAct (act_step (map-Action Action BlockArms Stmt Block SurfaceAction ActArms (Bl → Bl) Bl act_of act_arms_of stmt_of bl_of (plain_act y)))
act_well (Action-F.Bare o p) = tt
act_well (Action-F.Unary o p e) = ex_well e
act_well (Action-F.Binary o p e f) = (ex_well e, ex_well f)
act_well (Action-F.ThrowIo p w e) = ex_well e
act_well (Action-F.NewEmptyMVar p w) = tt
act_well (Action-F.Call f es) = exs_well es
act_well (Action-F.If p e a c) = (ex_well e, a.1, c.1)
act_well (Action-F.Case p e r) = (ex_well e, r.1)
act_well (Action-F.ModifyMVar p e x a) = (ex_well e, a.1)
act_well (Action-F.Scoped o p a) = a.1
act_well (Action-F.Masking o p x a) = a.1
act_well (Action-F.Restore p x a) = a.1
act_well (Action-F.Catch p a x c) = (a.1, c.1)
act_well (Action-F.Guard o p a c) = (a.1, c.1)
act_well (Action-F.Bracket p a x c e) = (a.1, c.1, e.1)
act_well (Action-F.Timeout p e a) = (ex_well e, a.1)
act_well (Action-F.WithAsync p a x c) = (a.1, c.1)

act_arms_well : (y : BlockArms-F WithAct WithActArms WithStmt WithBlock) → WellActArms (act_arms_step (map-BlockArms Action BlockArms Stmt Block SurfaceAction ActArms (Bl → Bl) Bl act_of act_arms_of stmt_of bl_of (plain_act_arms y)))
act_arms_well (BlockArms-F.OfMaybe a x c) = (a.1, c.1)
act_arms_well (BlockArms-F.OfEither x a y c) = (a.1, c.1)
act_arms_well (BlockArms-F.OfList a x y c) = (a.1, c.1)
act_arms_well (BlockArms-F.OfPair x y a) = a.1

stmt_well : (y : Stmt-F WithAct WithActArms WithStmt WithBlock) → WellStmt (stmt_step (map-Stmt Action BlockArms Stmt Block SurfaceAction ActArms (Bl → Bl) Bl act_of act_arms_of stmt_of bl_of (plain_stmt y)))
stmt_well (Stmt-F.Bind x a) c h = (a.1, h)
stmt_well (Stmt-F.Let x e) c h = (ex_well e, h)
stmt_well (Stmt-F.Do a) c h = (a.1, h)

-- ---- whole blocks

-- y is x with a proof beside each part
pub bl_well : (b : Block) → WellBl (bl_of b)
bl_well =
    ind-Block (λ a. WellAct (act_of a)) (λ r. WellActArms (act_arms_of r)) (λ s. WellStmt (stmt_of s)) (λ b. WellBl (bl_of b))
    (λ x y is. subst (λ z. WellAct (act_of (roll-Action z))) is (subst WellAct (sym (fold-roll-Action SurfaceAction ActArms (Bl → Bl) Bl act_step act_arms_step stmt_step block_step (plain_act y))) (act_well y)))
    (λ x y is. subst (λ z. WellActArms (act_arms_of (roll-BlockArms z))) is (subst WellActArms (sym (fold-roll-BlockArms SurfaceAction ActArms (Bl → Bl) Bl act_step act_arms_step stmt_step block_step (plain_act_arms y))) (act_arms_well y)))
    (λ x y is. subst (λ z. WellStmt (stmt_of (roll-Stmt z))) is (subst WellStmt (sym (fold-roll-Stmt SurfaceAction ActArms (Bl → Bl) Bl act_step act_arms_step stmt_step block_step (plain_stmt y))) (stmt_well y)))
    (λ x y is. subst (λ z. WellBl (bl_of (roll-Block z))) is (subst WellBl (sym (fold-roll-Block SurfaceAction ActArms (Bl → Bl) Bl act_step act_arms_step stmt_step block_step (plain_block y))) (before_well y.stmts (last (act_of y.last.0)) y.last.1)))
