use Rattle.hs_lex.proofs.Outcomes.{outcome_same}
use Rattle.hs_lex.proofs.lexer.one_outcome.Goals as goal

pub returns : goal.returns
returns c = outcome_same
