use Rattle.std.proofs.Common.{◌≡◌, ◌<◌, None, Some, sym, ap, ◌∙◌, subst}
use Rattle.rules_waiting.specs.Waiting.{earliest}
use Rattle.number_states.specs.waits.Sleeping.{sleepers}
use Rattle.state_search.proofs.Promised.{there_at}
use Rattle.state_search.proofs.Staying.{going_settled, stays_stuck, stays_real, may_tick, stays_tick}
use Rattle.state_search.proofs.found.Found.stay.Goals as goal

pub returns-in_default-first_due-clause-going : goal.returns-in_default-first_due-clause-going
returns-in_default-first_due-clause-going c =
    let f = c.args.self.now in
    let b = c.args.body.now in
    let nobody : earliest (sleepers c.in-Some.state.now.sleepers.items) ≡ None = sym (ap (λ ss. earliest (sleepers ss)) c.as_slice.ensures.value) ∙ (sym c.first_due.ensures ∙ c.in_default-first_due.is) in
    let kind = there_at f.kinds.items c.args.at (subst (λ n. c.args.at < n) (sym c.requires.going.searched.kinds) c.requires.there) in
    going_settled c.args.bounds.now b c.args.at f c.settle.new.self kind.0 c.settle.ensures.same (c.settle.ensures.kinds kind.0 kind.1) kind.1 c.requires.going
    (stays_stuck c.args.bounds.now b c.args.at f c.in-Some.state.now c.requires.going c.requires.still (sym c.in-Some.ensures) nobody)

pub returns-in-Real-clause-going : goal.returns-in-Real-clause-going
returns-in-Real-clause-going c =
    let due = c.in-Some-first_due.due in
    let sleeps : earliest (sleepers c.in-Some.state.now.sleepers.items) ≡ Some due = sym (ap (λ ss. earliest (sleepers ss)) c.as_slice.ensures.value) ∙ (sym c.first_due.ensures ∙ c.in-Some-first_due.is) in
    stays_real c.args.bounds.now c.args.body.now c.args.at c.args.self.now c.in-Some.state.now c.requires.going c.requires.still (sym c.in-Some.ensures) due sleeps c.in-Real.is

pub take-requires-clause-may : goal.take-requires-clause-may
take-requires-clause-may c =
    let due = c.in-Some-first_due.due in
    let sleeps : earliest (sleepers c.in-Some.state.now.sleepers.items) ≡ Some due = sym (ap (λ ss. earliest (sleepers ss)) c.as_slice.ensures.value) ∙ (sym c.first_due.ensures ∙ c.in-Some-first_due.is) in
    may_tick c.args.bounds.now c.args.body.now c.args.at c.args.self.now c.in-Some.state.now c.requires.going c.requires.still (sym c.in-Some.ensures) due sleeps c.in-Virtual.is

pub returns-in_ok-take-in-Virtual-clause-going : goal.returns-in_ok-take-in-Virtual-clause-going
returns-in_ok-take-in-Virtual-clause-going c =
    let due = c.in-Some-first_due.due in
    let sleeps : earliest (sleepers c.in-Some.state.now.sleepers.items) ≡ Some due = sym (ap (λ ss. earliest (sleepers ss)) c.as_slice.ensures.value) ∙ (sym c.first_due.ensures ∙ c.in-Some-first_due.is) in
    stays_tick c.args.bounds.now c.args.body.now c.args.at c.args.self.now c.in-Some.state.now c.requires.going c.requires.still (sym c.in-Some.ensures) due sleeps
    c.take.new.self c.in_ok-take-in-Virtual.field-0 c.in_ok-take-in-Virtual.ensures.extends c.in_ok-take-in-Virtual.ensures.going c.in_ok-take-in-Virtual.ensures.tried
