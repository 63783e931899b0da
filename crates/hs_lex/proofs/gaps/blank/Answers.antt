use Rattle.hs_lex.proofs.Pieces.{blank_front}
use Rattle.hs_lex.proofs.gaps.blank.Goals as goal

pub returns : goal.returns
returns c = blank_front c.args.rest.now c.requires
