use Rattle.std.proofs.Common.{take, string_bytes}
use Rattle.claim_lines.proofs.Judgement.{AreJudged}
use Rattle.claim_lines.proofs.judging.judge.Given as goal

abbrev pub invariant-loop-claim : goal.invariant-loop-claim
invariant-loop-claim l = AreJudged l.explored (take l.claim-index l.claims) l.failing l.undecided (string_bytes l.text)
