-- What is known of the definitions of a script while its code is made.
use Rattle.std.specs.Prelude.{◌≡◌, List}
use Rattle.rules_code.specs.declared.node.Node.{Node}
use Rattle.rules_expansion.specs.Core.{ActionFunction}
use Rattle.rules_expansion.specs.Expansion.{actions_of}
use Rattle.rules_expansion.specs.trees.Programs.{script_of}
use Rattle.rules_code.specs.Slots.{Root, roots_of}
use Rattle.hs_nodes.specs.Standing.{Known}
use Rattle.hs_core.specs.declared.defs.Defs.{Defs}
use Rattle.hs_core.specs.Numbering.{names_of}

-- the bodies of the pure functions, and the action functions, of the script that is expanded
abbrev pub roots : Defs → List Root
roots d = roots_of (script_of d.of.value)

abbrev pub functions : Defs → List ActionFunction
functions d = actions_of (script_of d.of.value)

-- Each pure function's body stands where its place says, and the names are those of the action functions.
pub record Knows (nodes : List Node) (d : Defs) : Type 0 where
  pub places : Known nodes d.places.all (roots d)
  pub names : d.actions ≡ names_of (functions d)
