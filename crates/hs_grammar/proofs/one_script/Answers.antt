use Rattle.hs_grammar.proofs.Main.{one_script}
use Rattle.hs_grammar.proofs.one_script.Goals as goal

pub returns : goal.returns
returns c = one_script
