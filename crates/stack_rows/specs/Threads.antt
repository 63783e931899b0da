-- What the stack of a row's thread is (own).
use Rattle.std.specs.Prelude.{None}
use Rattle.rules_expansion.specs.trees.Programs.{script_of}
use Rattle.rules_code.specs.declared.code.CodeBody.{CodeBody}
use Rattle.hs_rules.specs.Terms.{Term}
use Rattle.slot_laws.specs.Standing.{cells_of, Stands}
use Rattle.frame_stack.specs.Parts.{Stacked, term_of}

-- it stands for a term of the code's script
abbrev pub IsThread : CodeBody → Stacked → Type 0
IsThread b s = (t : Term) × Stands (cells_of None) (script_of b.of.value) (term_of b s) t
