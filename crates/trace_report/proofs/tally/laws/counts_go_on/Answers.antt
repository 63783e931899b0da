use Rattle.trace_report.proofs.tally_lemmas.Tallied.{tallied}
use Rattle.trace_report.proofs.tally.laws.counts_go_on.Goals as goal

pub returns : goal.returns
returns c = tallied
