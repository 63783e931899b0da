use Rattle.conc_outcomes.proofs.walks_lemmas.Walks.{at_later}
use Rattle.conc_outcomes.proofs.walks.walk.Walk.settle.Goals as goal

-- src/walk.rt
pub take_all-requires : goal.take_all-requires
take_all-requires c = at_later c.args.bounds.now c.args.body.now c.args.numbers.now c.rest.new.numbers c.args.self.now c.rest.ensures.grows c.requires

pub rest-requires-clause-rules : goal.rest-requires-clause-rules
rest-requires-clause-rules c = c.new-rules.ensures c.args.body.now c.args.numbers.now
