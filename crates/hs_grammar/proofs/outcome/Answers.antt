use Rattle.std.proofs.Common.{refl}
use Rattle.hs_grammar.specs.Parser.{whole}
use Rattle.hs_grammar.proofs.Main.{means}
use Rattle.hs_grammar.proofs.outcome.Goals as goal

pub returns : goal.returns
returns c = λ n ts. means n ts (whole n ts) refl
