-- What is known of numbers that wait: the trees that they stand for.
use Rattle.std.specs.Prelude.{◌≡◌, List, [], ◌∷◌, ◌++◌, length}
use Rattle.rules_code.specs.declared.node.ExprId.{ExprId}
use Rattle.rules_code.specs.declared.node.Node.{Node}
use Rattle.rules_code.specs.declared.act.ActId.{ActId}
use Rattle.rules_code.specs.declared.act.Act.{Act}
use Rattle.rules_code.specs.Slots.{Sx, Scope}
use Rattle.rules_code.specs.CodeTrees.{Sa, act_tree_at}
use Rattle.hs_nodes.specs.declared.names.ScopedName.{ScopedName}
use Rattle.hs_nodes.specs.Names.{scope_of}
use Rattle.hs_core.specs.declared.defs.Defs.{Defs}
use Rattle.hs_core.specs.declared.emitter.ActEmitter.{ActEmitter}
use Rattle.hs_core.specs.declared.making.Making.{Making}
use Rattle.hs_core.specs.Defining.{Knows}
use Rattle.hs_core.specs.Emits.{Grows, DoneIn, StandsIn, Pushed}
use Rattle.hs_core.specs.Making.{Trees, behind, last_operand, last_act}

-- names put on a scope, the innermost first
abbrev pub put_on : List ScopedName → List ScopedName → List ScopedName
put_on start [] = start
put_on start (x ∷ xs) = put_on start xs ++ x ∷ []

-- the last number stands for the first tree, and so on
abbrev pub OperandsWait : ActEmitter → List ExprId → List Sx → Type 0
OperandsWait e ids [] = ids ≡ []
OperandsWait e ids (t ∷ ts) = (rest : List ExprId) × (id : ExprId) × (ids ≡ rest ++ id ∷ []) × StandsIn e id t × OperandsWait e rest ts

abbrev pub ActsWait : ActEmitter → List ActId → List Sa → Type 0
ActsWait e ids [] = ids ≡ []
ActsWait e ids (u ∷ us) = (rest : List ActId) × (id : ActId) × (ids ≡ rest ++ id ∷ []) × DoneIn e id u × ActsWait e rest us

-- Whatever nodes of expressions come after, a next node reads this tree at the number.
abbrev pub ReadsAs : ActEmitter → ActId → Sa → Type 0
ReadsAs e id u = (more : List Node) → act_tree_at (e.emitter.nodes ++ more) e.acts id ≡ u

-- the last expression is taken off
pub record OperandOff (old new : ActEmitter) (ids rest : List ExprId) (id : ExprId) (ts : List Sx) : Type 0 where
  pub nodes : Grows Node old.emitter.nodes new.emitter.nodes
  pub acts : new.acts ≡ old.acts
  pub scope : new.emitter.scope ≡ old.emitter.scope
  pub is : OperandsWait old ids ts → StandsIn new id (last_operand ts) × OperandsWait new rest (behind ts)

-- the last action is taken off
pub record ActOff (e : ActEmitter) (ids rest : List ActId) (id : ActId) (us : List Sa) : Type 0 where
  pub is : ActsWait e ids us → ReadsAs e id (last_act us) × ActsWait e rest (behind us)
  pub done : (u : Sa) (more : List Sa) → us ≡ u ∷ more → ActsWait e ids us → DoneIn e id u

-- an action's node is added, and waits
pub record Put (old new : ActEmitter) (m n : Making) (act : Act) : Type 0 where
  pub id : ActId
  pub pushed : Pushed old new id act
  pub base : n.base ≡ m.base
  pub operands : n.operands ≡ m.operands
  pub acts : n.acts ≡ m.acts ++ id ∷ []

-- ---- steps

-- the names that stand above the scope of the form
pub record Named (e : ActEmitter) (m : Making) (start : List ScopedName) (t : Trees) : Type 0 where
  pub scope : e.emitter.scope ≡ put_on start t.names
  pub base : m.base ≡ length start

pub record Waits (d : Defs) (e : ActEmitter) (m : Making) (t : Trees) : Type 0 where
  pub known : Knows e.emitter.nodes d
  pub operands : OperandsWait e m.operands t.operands
  pub acts : ActsWait e m.acts t.acts

-- from these trees to those
pub record Stepped (d : Defs) (start : List ScopedName) (old new : ActEmitter) (m n : Making) (t u : Trees) : Type 0 where
  pub nodes : Grows Node old.emitter.nodes new.emitter.nodes
  pub acts : Grows Act old.acts new.acts
  pub named : Named new n start u
  pub is : Waits d old m t → Waits d new n u

-- What a step does to the numbers is what this does to the trees.
abbrev pub Moves : Defs → ActEmitter → ActEmitter → Making → Making → (Scope → Trees → Trees) → Type 0
Moves d old new m n g = (start : List ScopedName) (t : Trees) → Named old m start t → Stepped d start old new m n t (g (scope_of start) t)
