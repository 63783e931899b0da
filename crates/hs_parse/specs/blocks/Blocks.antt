-- The items of a block, as the code has them.
use Rattle.std.specs.Prelude.{◌≡◌, ◌⊎◌, ℕ, List, [], ◌∷◌}
use mathlib.Core.Logic.{inl, inr}
use Rattle.hs_base.specs.declared.tree.action.Action.{Action}
use Rattle.hs_base.specs.declared.tree.action.Block.{Block}
use Rattle.hs_base.specs.declared.tree.action.BlockArms.{BlockArms}
use Rattle.hs_base.specs.declared.tree.action.Stmt.{Stmt}
use Rattle.hs_base.specs.declared.tree.action.Stmt.TheVariants as s
use Rattle.rules_grammar.specs.Grammar.{block, block_item}
use Rattle.rules_grammar.specs.GrammarForms.{Rule, give, within, ◌⊛◌, ◌◁◌}
use Rattle.rules_grammar.specs.GrammarKinds as k
use Rattle.rules_grammar.specs.GrammarParts.{block_arms}
use Rattle.hs_grammar.specs.Parser.{Parser, begins, bind, choose, take, done, read, enter, behind_item, item_step}
use Rattle.hs_parse.specs.declared.blocks.step.Step.{Step}
use Rattle.hs_parse.specs.declared.blocks.step.Step.TheVariants as step

abbrev pub step_of : Stmt ⊎ Action → Step
step_of (inl x) = step.Stmt x
step_of (inr x) = step.Last x

-- what stands behind an action
abbrev pub behind_action : Action → Parser (Stmt ⊎ Action)
behind_action x = behind_item s.Do k.semicolon k.close_brace (inr x)

-- an item with what stands behind it
abbrev pub next_item : ℕ → Parser (Stmt ⊎ Action)
next_item n = item_step s.Do k.semicolon k.close_brace (read (enter n) block_item)

abbrev pub block_step : ℕ → Parser Step
block_step n ts = bind (next_item n ts) (λ x. done (step_of x))

-- what stands behind an action, with what the code makes of it
abbrev pub behind_as : Action → Parser Step
behind_as x ts =
    choose (begins (k.close_brace ∷ []) ts) (take k.close_brace (λ t. done (step.Last x)))
    (take k.semicolon (λ t us. choose (begins (k.close_brace ∷ []) us) (take k.close_brace (λ u. done (step.Last x))) (done (step.Stmt (s.Do x))) us)) ts

-- parts of actions: the two blocks of an `if`, and the arms of a `case`
abbrev pub branches : Rule (Block × Block)
branches = give (λ x y. (x, y)) ◁ k.then' ⊛ block ◁ k.else' ⊛ block

abbrev pub arms_behind_of : Rule BlockArms
arms_behind_of = give (λ x. x) ◁ k.of' ⊛ within (λ p arms. arms) k.open_brace block_arms
