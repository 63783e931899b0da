use Rattle.std.proofs.Common.{◌≡◌, true, false, sym, ◌∙◌}
use Rattle.rules_code.specs.declared.code.CodeBody.{CodeBody}
use Rattle.outcome_listing.specs.declared.bounds.Bounds.{Bounds}
use Rattle.hs_rules.specs.Endings.{IsTick}
use Rattle.number_states.specs.Stocks.{Stock}
use Rattle.conc_outcomes.specs.declared.walks.walk.Walk.{Walk}
use Rattle.conc_outcomes.proofs.walks_lemmas.Tried.{when_none, when_false, not_tick}
use Rattle.conc_outcomes.proofs.walks_lemmas.Walks.{there_later, entered_at}
use Rattle.conc_outcomes.proofs.walks.walk.Walk.enter.Goals as goal
use Rattle.conc_outcomes.proofs.walks.walk.Walk.enter.Goals.{in-Tick, in_default-matches}

pub next-requires : goal.next-requires
next-requires c = there_later c.args.numbers.now c.may_stand.new.numbers c.args.self.now.state c.requires.there c.in_ok-may_stand.ensures.grows

pub reads_time-reads-requires : goal.reads_time-reads-requires
reads_time-reads-requires c = there_later c.args.numbers.now c.may_stand.new.numbers c.args.self.now.state c.requires.there c.in_ok-may_stand.ensures.grows

pub returns-clause-at : goal.returns-clause-at
returns-clause-at c =
    let bounds : Bounds = c.args.bounds.now in
    let b : CodeBody = c.args.body.now in
    let g : Stock = c.args.numbers.now in
    let h : Stock = c.may_stand.new.numbers in
    let i : Stock = c.next.new.numbers in
    let old : Walk = c.args.self.now in
    let new : Walk = record { state = c.in-Some.left; history = c.push.new.self; ticked = c.match-matches.self; unread = c.is_unread-self.result } in
    let fits = when_none c.in_ok-exceeded.field-0 _ _ (c.if-is_some.ensures {u = tt}) (c.in_ok-exceeded.ensures {u = tt} b) in
    let left = c.in_ok-left.ensures in
    let is = rw c.in-Some.is at left.is in
    let output = rw c.in-Some.is at left.output in
    let errors = rw c.in-Some.is at left.errors in
    let there = rw c.in-Some.is at left.there in
    let plain : c.match-matches.self ≡ false → ¬ IsTick c.args.entry = λ fresh. elim c.match-matches.branch [
      | in-Tick w ↦ let e : true ≡ false = sym w.self-is ∙ fresh in absurd (cc e)
      | in_default-matches w ↦ not_tick c.args.entry w.in_default-matches.not-Tick
    ] in
    entered_at bounds b g h i old new c.args.entry c.requires c.in_ok-may_stand.ensures.grows fits (c.in_ok-may_stand.ensures.may c.if-not-branch.false) there is output errors c.in_ok-push.ensures.ok plain (λ q. let k = c.is_unread-self.ensures q in (k.0, when_false c.reads_time-reads.result _ _ k.1 (c.reads_time-reads.ensures b)))
