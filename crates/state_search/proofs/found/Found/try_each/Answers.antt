use Rattle.std.proofs.Common.{◌≡◌, ◌+◌, get_or, Some, slice_get, sym, subst, arith}
use Rattle.hs_rules.specs.declared.entry.Entry.{Entry}
use Rattle.hs_rules.specs.declared.entry.Entry.TheVariants as entry
use Rattle.local_steps.specs.Machine.{funs_of}
use Rattle.number_states.proofs.Changes.{all_at}
use Rattle.state_search.specs.Working.{IsTried}
use Rattle.state_search.specs.EachTried.{MayAlways, HasTried}
use Rattle.state_search.proofs.EachTried.{there_or, tried_goes, tried_not}
use Rattle.state_search.proofs.found.Found.try_each.Goals as goal
use Rattle.state_search.proofs.found.Found.try_each.Goals.{then-branch, else-branch}

-- src/going.rt
pub take-requires-clause-may : goal.take-requires-clause-may
take-requires-clause-may c = λ d here.
    let e : Entry = get_or c.args.entries.now c.loop-entry.entry-index (entry.Local 0 0) in
    let is : slice_get c.args.entries.now c.loop-entry.entry-index ≡ Some e = there_or c.args.entries.now c.loop-entry.entry-index (entry.Local 0 0) (omega arith) in
    (all_at MayAlways c.args.entries.now c.loop-entry.entry-index e c.requires.always is).may c.args.bounds.now.clock (funs_of c.args.body.now) d.slots

pub loop-entry-preserved : goal.loop-entry-preserved
loop-entry-preserved c =
    let bounds = c.args.bounds.now in
    let b = c.args.body.now in
    let entries = c.args.entries.now in
    let n = c.loop-entry.entry-index in
    let e : Entry = get_or entries n (entry.Local 0 0) in
    let is : slice_get entries n ≡ Some e = there_or entries n (entry.Local 0 0) (omega arith) in
    let always : MayAlways e = all_at MayAlways entries n e c.requires.always is in
    let take = c.in_ok-take.ensures in
    elim c.if-branch.branch [
      | then-branch w ↦
          subst (HasTried bounds b c.args.self.now c.take.new.self c.args.at entries (n + 1)) (sym w.legal-is)
          (tried_goes bounds b c.args.self.now c.args.at entries c.loop-entry.self c.take.new.self n e is take.extends take.going c.loop-entry.legal c.loop-entry.invariant
          (subst (IsTried bounds b c.take.new.self c.args.at e) w.if-branch.true take.tried) always)
      | else-branch w ↦
          subst (HasTried bounds b c.args.self.now c.take.new.self c.args.at entries (n + 1)) (sym w.legal-is)
          (tried_not bounds b c.args.self.now c.args.at entries c.loop-entry.self c.take.new.self n e is take.extends take.going c.loop-entry.legal c.loop-entry.invariant
          (subst (IsTried bounds b c.take.new.self c.args.at e) w.if-branch.false take.tried))
    ]
