use Rattle.conc_outcomes.proofs.paths.walked.Goals as goal

pub take_all-requires : goal.take_all-requires
take_all-requires c = c.in_ok-walk.ensures.at c.args.bounds.now
