use Rattle.std.proofs.Common.{rules, IsTrue, ◌∙◌, ap, drop}
use Rattle.conc_outcomes.proofs.Rounds.{copy_there, comes_back}
use Rattle.conc_outcomes.proofs.ends.round.Goals as goal

pub are_alike-requires-clause-one : goal.are_alike-requires-clause-one
are_alike-requires-clause-one c =
    copy_there c.walk_to.new.numbers c.go_round.new.numbers c.in_ok-walk.walk.state c.in_ok-begin.begin c.in_ok-walk.ensures.at.there c.in_ok-begin.ensures c.in_ok-go_round.ensures.grows

pub returns : goal.returns
returns c =
    let go = c.in_ok-go_round.ensures in
    let v = c.go_round.new.walk in
    let rest = c.in_ok-round.ensures ∙ ap (λ n. drop n v.history.list) c.len.ensures in
    let yes : IsTrue c.in_ok-are_alike.field-0 = search rules in
    comes_back c.args.code.bounds.now c.args.code.body.now c.walk_to.new.numbers c.go_round.new.numbers c.in_ok-walk.walk v c.in_ok-begin.begin c.in_ok-to.to.list c.in_ok-round.round.list
    c.in_ok-walk.ensures.at go.at c.in_ok-begin.ensures go.grows go.history c.in_ok-to.ensures rest (search rules) (c.in_ok-are_alike.ensures yes)
