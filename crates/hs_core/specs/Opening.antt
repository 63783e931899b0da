-- Statements whose blocks go on: what stands for each, and what it makes of the tree of what follows.
use Rattle.std.specs.Prelude.{◌≡◌, List, [], ◌∷◌, map}
use Rattle.hs_base.specs.declared.tree.action.Stmt.{Stmt}
use Rattle.rules_code.specs.declared.node.Node.{Node}
use Rattle.rules_code.specs.declared.act.ActId.{ActId}
use Rattle.rules_code.specs.declared.act.Act.{Act}
use Rattle.rules_code.specs.declared.act.Act.TheVariants as k
use Rattle.rules_expansion.specs.Names.{Written}
use Rattle.rules_expansion.specs.Core.{Core}
use Rattle.rules_expansion.specs.trees.Programs.{SurfaceAction, Bl, ActArms, maybe_acts, either_acts, list_acts, pair_acts, before, stmt_of}
use Rattle.rules_expansion.specs.Expansion.{core, block_core}
use Rattle.rules_code.specs.Slots.{Sx, Scope}
use Rattle.rules_code.specs.CodeTrees.{Sa, a_let, a_bind, a_then, a_maybe, a_either, a_list, a_pair, slotted_core}
use Rattle.hs_nodes.specs.declared.names.ScopedName.{ScopedName}
use Rattle.hs_nodes.specs.Names.{scope_of}
use Rattle.hs_core.specs.declared.defs.Defs.{Defs}
use Rattle.hs_core.specs.declared.emitter.ActEmitter.{ActEmitter}
use Rattle.hs_core.specs.declared.pending.Pending.{Pending}
use Rattle.hs_core.specs.declared.pending.Pending.TheVariants as p
use Rattle.hs_core.specs.Defining.{Knows, roots, functions}
use Rattle.hs_core.specs.Emits.{Grows, DoneIn, StandsIn}

-- the tree of a core action of a script in a scope
abbrev pub core_tree : Defs → Scope → Core → Sa
core_tree d s c = slotted_core (roots d) (functions d) s c

-- the tree of an action, of a block and of arms in a scope
abbrev pub action_tree : Defs → Scope → SurfaceAction → Sa
action_tree d s a = core_tree d s (core a)

abbrev pub block_tree : Defs → Scope → Bl → Sa
block_tree d s b = core_tree d s (block_core b)

abbrev pub arms_tree : Defs → Scope → Sx → ActArms → Sa
arms_tree d s t (maybe_acts a x b) = a_maybe t (block_tree d s a) (block_tree d (Written x.text ∷ s) b)
arms_tree d s t (either_acts x a y b) = a_either t (block_tree d (Written x.text ∷ s) a) (block_tree d (Written y.text ∷ s) b)
arms_tree d s t (list_acts a x y b) = a_list t (block_tree d s a) (block_tree d (Written y.text ∷ Written x.text ∷ s) b)
arms_tree d s t (pair_acts x y a) = a_pair t (block_tree d (Written y.text ∷ Written x.text ∷ s) a)

pub data Opened : Type 0 where
  o_bind : Sa → Opened
  o_let : Sx → Opened
  o_then : Sa → Opened

abbrev pub wrap : Opened → Sa → Sa
wrap (o_bind a) t = a_bind a t
wrap (o_let e) t = a_let e t
wrap (o_then a) t = a_then a t

abbrev pub wrap_all : List Opened → Sa → Sa
wrap_all [] t = t
wrap_all (o ∷ os) t = wrap o (wrap_all os t)

-- the node of a statement in front of what follows it
abbrev pub node_of : Pending → ActId → Act
node_of (p.Bind i) j = k.Bind i j
node_of (p.Let i) j = k.Let i j
node_of (p.Then i) j = k.Then i j

abbrev pub Holds : ActEmitter → Pending → Opened → Type 0
Holds e (p.Bind i) (o_bind t) = DoneIn e i t
Holds e (p.Bind i) (o_let t) = ⊥
Holds e (p.Bind i) (o_then t) = ⊥
Holds e (p.Let i) (o_bind t) = ⊥
Holds e (p.Let i) (o_let t) = StandsIn e i t
Holds e (p.Let i) (o_then t) = ⊥
Holds e (p.Then i) (o_bind t) = ⊥
Holds e (p.Then i) (o_let t) = ⊥
Holds e (p.Then i) (o_then t) = DoneIn e i t

abbrev pub HoldAll : ActEmitter → List Pending → List Opened → Type 0
HoldAll e [] [] = Unit {0}
HoldAll e [] (o ∷ os) = ⊥
HoldAll e (q ∷ qs) [] = ⊥
HoldAll e (q ∷ qs) (o ∷ os) = Holds e q o × HoldAll e qs os

-- one statement
pub record Opening (d : Defs) (old new : ActEmitter) (q : Pending) (c : Stmt) : Type 0 where
  pub tree : Opened
  pub holds : Holds new q tree
  pub wraps : (b : Bl) → block_tree d (scope_of old.emitter.scope) (stmt_of c b) ≡ wrap tree (block_tree d (scope_of new.emitter.scope) b)

pub record Opens (d : Defs) (old new : ActEmitter) (q : Pending) (c : Stmt) : Type 0 where
  pub nodes : Grows Node old.emitter.nodes new.emitter.nodes
  pub acts : Grows Act old.acts new.acts
  pub scope : Grows ScopedName old.emitter.scope new.emitter.scope
  pub is : Knows old.emitter.nodes d → Opening d old new q c

-- statements in a row
pub record AllOpening (d : Defs) (old new : ActEmitter) (qs : List Pending) (cs : List Stmt) : Type 0 where
  pub trees : List Opened
  pub hold : HoldAll new qs trees
  pub wraps : (b : Bl) → block_tree d (scope_of old.emitter.scope) (before (map stmt_of cs) b) ≡ wrap_all trees (block_tree d (scope_of new.emitter.scope) b)

pub record OpensAll (d : Defs) (old new : ActEmitter) (qs : List Pending) (cs : List Stmt) : Type 0 where
  pub nodes : Grows Node old.emitter.nodes new.emitter.nodes
  pub acts : Grows Act old.acts new.acts
  pub scope : Grows ScopedName old.emitter.scope new.emitter.scope
  pub is : Knows old.emitter.nodes d → AllOpening d old new qs cs
