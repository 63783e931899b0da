-- What a step of the expansion does: the nodes grow, the scope is as before, and the number that is answered stands for a
-- tree, where what the step takes for granted holds. The tree is a function of the scope.
use Rattle.std.specs.Prelude.{◌≡◌, ◌<◌, List, [], ◌∷◌, ◌++◌, length}
use Rattle.rules_code.specs.declared.node.ExprId.{ExprId}
use Rattle.rules_code.specs.declared.node.Node.{Node}
use Rattle.rules_code.specs.declared.act.ActId.{ActId}
use Rattle.rules_code.specs.declared.act.Act.{Act}
use Rattle.rules_code.specs.Slots.{Sx, Sxs, Scope}
use Rattle.rules_code.specs.CodeTrees.{Sa, act_tree_at}
use Rattle.hs_nodes.specs.Names.{scope_of}
use Rattle.hs_nodes.specs.Standing.{Stands, AllStand}
use Rattle.hs_core.specs.declared.emitter.ActEmitter.{ActEmitter}

-- a list with more items behind its own
pub record Grows (A : Type 0) (old new : List A) : Type 0 where
  pub more : List A
  pub is : new ≡ old ++ more

-- An action's node stands for a tree, whatever nodes of expressions come after.
pub record Done (nodes : List Node) (acts : List Act) (id : ActId) (t : Sa) : Type 0 where
  pub below : id.0 < length acts
  pub is : (more : List Node) → act_tree_at (nodes ++ more) acts id ≡ t

abbrev pub DoneIn : ActEmitter → ActId → Sa → Type 0
DoneIn e id t = Done e.emitter.nodes e.acts id t

abbrev pub StandsIn : ActEmitter → ExprId → Sx → Type 0
StandsIn e id t = Stands e.emitter.nodes id t

abbrev pub AllStandIn : ActEmitter → List ExprId → Sxs → Type 0
AllStandIn e ids ts = AllStand e.emitter.nodes ids ts

-- an action's node
pub record Emits (given : Type 0) (old new : ActEmitter) (id : ActId) (t : Scope → Sa) : Type 0 where
  pub nodes : Grows Node old.emitter.nodes new.emitter.nodes
  pub acts : Grows Act old.acts new.acts
  pub scope : new.emitter.scope ≡ old.emitter.scope
  pub is : given → DoneIn new id (t (scope_of old.emitter.scope))

-- an expression's node
pub record EmitsEx (given : Type 0) (old new : ActEmitter) (id : ExprId) (t : Scope → Sx) : Type 0 where
  pub nodes : Grows Node old.emitter.nodes new.emitter.nodes
  pub acts : new.acts ≡ old.acts
  pub scope : new.emitter.scope ≡ old.emitter.scope
  pub is : given → StandsIn new id (t (scope_of old.emitter.scope))

-- the nodes of expressions in a row
pub record EmitsAll (given : Type 0) (old new : ActEmitter) (ids : List ExprId) (t : Scope → Sxs) : Type 0 where
  pub nodes : Grows Node old.emitter.nodes new.emitter.nodes
  pub acts : new.acts ≡ old.acts
  pub scope : new.emitter.scope ≡ old.emitter.scope
  pub is : given → AllStandIn new ids (t (scope_of old.emitter.scope))

-- one more node of an action
pub record Pushed (old new : ActEmitter) (id : ActId) (act : Act) : Type 0 where
  pub id_is : id.0 ≡ length old.acts
  pub acts : new.acts ≡ old.acts ++ act ∷ []
  pub emitter : new.emitter ≡ old.emitter

-- nothing is taken for granted
abbrev pub Nothing_given : Type 0
Nothing_given = Unit {0}
