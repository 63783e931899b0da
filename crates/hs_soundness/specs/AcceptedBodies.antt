-- What acceptance says of the bodies of a script (own).
use Rattle.std.specs.Prelude.{ℕ, ◌+◌, List, [], ◌∷◌}
use Rattle.rules_expansion.specs.trees.Programs.{Fn}
use Rattle.rules_typing.specs.Typing.{Sig}
use Rattle.rules_typing.specs.TypingScripts.{params_in, result_of, BodyHas}

-- each body, a pure one or a block, has its definition's declared type in the scope of the parameters, from the definition with number k on
abbrev pub BodiesTyped : List Sig → ℕ → List Fn → Type 0
BodiesTyped sigs k [] = Unit {0}
BodiesTyped sigs k (d ∷ ds) = BodyHas (record { sigs = sigs; here = k }) (params_in [] d.params) d.body (result_of d.body).ty × BodiesTyped sigs (k + 1) ds
