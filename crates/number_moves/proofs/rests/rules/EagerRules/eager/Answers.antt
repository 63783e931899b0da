use Rattle.number_moves.proofs.rests_lemmas.Ruling.{rules_on}
use Rattle.number_moves.proofs.rests.rules.EagerRules.eager.Goals as goal

-- src/rules.rt
pub returns-in-Eager-rule-clause-rules : goal.returns-in-Eager-rule-clause-rules
returns-in-Eager-rule-clause-rules c =
    c.in_ok-keep-in-Unknown.ensures c.args.body.now c.find.new.numbers c.in_ok-rule-in-Unknown.ensures.is
    (rules_on c.args.body.now c.args.numbers.now c.find.new.numbers c.args.self.now c.find.ensures.grows c.requires.rules)

pub returns-in_default : goal.returns-in_default
returns-in_default c = record {
  leads = tt;
  rules = c.in_ok-keep-in-Unknown.ensures c.args.body.now c.find.new.numbers c.in_ok-rule-in-Unknown.ensures.is
      (rules_on c.args.body.now c.args.numbers.now c.find.new.numbers c.args.self.now c.find.ensures.grows c.requires.rules);
  grows = c.find.ensures.grows;
}
