use Rattle.std.proofs.Common.{ap, sym, ◌∙◌}
use Rattle.rules_expansion.specs.trees.Trees.{ty_of}
use Rattle.rules_expansion.proofs.trees_lemmas.Equations.{ty-Exn}
use Rattle.haskell_module.specs.Types.{type_text}
use Rattle.haskell_module.proofs.Written.{same_piece}
use Rattle.haskell_module.proofs.types.+types.Goals as goal

pub write_type-returns-in-Exn : goal.write_type-returns-in-Exn
write_type-returns-in-Exn t c = same_piece _ _ _ _ _ c.put-in-Exn.ensures (sym (ap type_text (ap ty_of c.in-Exn.is ∙ ty-Exn)))
