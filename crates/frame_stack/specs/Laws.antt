-- What a stack is of a term with names (own).
use Rattle.std.specs.Prelude.{◌≡◌, ℕ, Option, Some}
use Rattle.hs_base.specs.declared.mask.Mask.TheVariants.{Unmasked}
use Rattle.rules_expansion.specs.trees.Programs.{script_of}
use Rattle.rules_meaning.specs.CoreMeaning.{code_of}
use Rattle.rules_code.specs.declared.code.CodeBody.{CodeBody}
use Rattle.rules_code.specs.CodeTrees.{StandsFor}
use Rattle.hs_rules.specs.Terms.{Term}
use Rattle.hs_rules.specs.LocalRules as rules
use Rattle.hs_progress.specs.TypedStates.{Store}
use Rattle.slot_laws.specs.SlotRules.{locals}
use Rattle.slot_laws.specs.Standing.{cells_of, Stands}
use Rattle.local_steps.specs.Machine.{funs_of}
use Rattle.frame_stack.specs.Parts.{Stacked, term_of}

-- where rules lead from one stack to another, as many lead from each term with names that the first stands for to one that the
-- second stands for
abbrev pub StackRulesAreTermRules : Type 0
StackRulesAreTermRules =
    (store : Option Store) (b : CodeBody) → StandsFor b.nodes b.acts b.funs b.main b.of.value → (k : ℕ) (s u : Stacked) (t : Term)
    → Stands (cells_of store) (script_of b.of.value) (term_of b s) t
    → locals (funs_of b) Unmasked k (term_of b s) ≡ Some (term_of b u)
    → (v : Term) × (rules.locals (code_of (script_of b.of.value)) k t ≡ Some v) × Stands (cells_of store) (script_of b.of.value) (term_of b u) v
