-- The definitions of a script one after another: the pure functions first, and then the action functions.
use Rattle.std.specs.Prelude.{◌≡◌, ℕ, List, [], ◌∷◌, map, ◌++◌, Option, Some, None}
use Rattle.hs_base.specs.declared.tree.script.Param.{Param}
use Rattle.rules_code.specs.declared.node.Node.{Node}
use Rattle.rules_code.specs.declared.act.Act.{Act}
use Rattle.rules_code.specs.declared.act.ActId.{ActId}
use Rattle.rules_code.specs.declared.node.ExprId.{ExprId}
use Rattle.rules_expansion.specs.trees.Trees.{Ex}
use Rattle.rules_meaning.specs.Meaning.{texts_of}
use Rattle.rules_code.specs.declared.code.Fun.{Fun}
use Rattle.rules_expansion.specs.trees.Programs.{Fn, par_of}
use Rattle.rules_expansion.specs.Expansion.{actions_of}
use Rattle.rules_code.specs.Slots.{Root, root_with, slotted, scope_onto}
use Rattle.rules_code.specs.CodeTrees.{SlottedFunction, slotted_functions}
use Rattle.hs_nodes.specs.declared.emitter.Emitter.{Emitter}
use Rattle.hs_nodes.specs.declared.places.Place.{Place}
use Rattle.hs_nodes.specs.declared.names.ScopedName.{ScopedName}
use Rattle.hs_nodes.specs.declared.names.ScopedName.TheVariants as w
use Rattle.hs_nodes.specs.Standing.{Stands, Known}
use Rattle.hs_core.specs.declared.defs.Defs.{Defs}
use Rattle.hs_core.specs.declared.emitter.ActEmitter.{ActEmitter}
use Rattle.hs_core.specs.Defining.{Knows, roots, functions}
use Rattle.hs_core.specs.Emits.{Grows, DoneIn}

-- the entries of parameters
abbrev pub written : List Param → List ScopedName
written [] = []
written (p ∷ ps) = w.Written p.name.text ∷ written ps

-- what one more definition adds to the places of pure functions
pub record Places (old new : Emitter) (before after : List Place) (f : Fn) : Type 0 where
  pub scope : new.scope ≡ old.scope
  pub known : (bs : List Root) → old.scope ≡ [] → Known old.nodes before bs → Known new.nodes after (root_with bs f f.body)

-- action functions, by the trees of their bodies
abbrev pub FunsStand : ActEmitter → List Fun → List SlottedFunction → Type 0
FunsStand e [] [] = Unit {0}
FunsStand e [] (g ∷ gs) = ⊥
FunsStand e (f ∷ fs) [] = ⊥
FunsStand e (f ∷ fs) (g ∷ gs) = (f.params ≡ g.params) × DoneIn e f.body g.body × FunsStand e fs gs

-- what some definitions add to the action functions
pub record Functions (d : Defs) (old new : ActEmitter) (before after : List Fun) (ds : List Fn) : Type 0 where
  pub nodes : Grows Node old.emitter.nodes new.emitter.nodes
  pub acts : Grows Act old.acts new.acts
  pub scope : new.emitter.scope ≡ old.emitter.scope
  pub stand : (gs : List SlottedFunction) → Knows old.emitter.nodes d → old.emitter.scope ≡ [] → FunsStand old before gs → FunsStand new after (gs ++ slotted_functions (roots d) (functions d) (actions_of ds))

-- the body of a function, or what no node stands for
abbrev pub main_id : Option Fun → ℕ → ActId
main_id None c = record { 0 = c }
main_id (Some f) c = f.body

-- the body of a pure function
pub record PureBody (places : List Place) (old new : Emitter) (id : ExprId) (ps : List Param) (e : Ex) : Type 0 where
  pub nodes : Grows Node old.nodes new.nodes
  pub scope : new.scope ≡ old.scope
  pub is : (bs : List Root) → Known old.nodes places bs → old.scope ≡ [] → Stands new.nodes id (slotted bs (scope_onto [] (texts_of (map par_of ps))) e)
