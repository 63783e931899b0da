use Rattle.std.proofs.Common.{refl}
use Rattle.haskell_module.specs.Names.{other_words}
use Rattle.haskell_module.proofs.Apart.{no_other_words}
use Rattle.haskell_module.proofs.laws.names_are_no_other_words.Goals as goal

pub returns : goal.returns
returns c = λ x. no_other_words x other_words refl
