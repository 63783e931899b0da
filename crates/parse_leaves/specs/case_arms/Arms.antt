-- Parts of arms, as the code has them.
use Rattle.rules_grammar.specs.GrammarForms.{Rule, give, ◌⊛◌, ◌◁◌}
use Rattle.rules_grammar.specs.GrammarKinds as k

-- a `;` and an arm
abbrev pub next_arm : {A : Type 0} → Rule A → Rule A
next_arm p = give (λ x. x) ◁ k.semicolon ⊛ p
