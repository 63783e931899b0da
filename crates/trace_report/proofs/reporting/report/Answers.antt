use Rattle.std.proofs.Common.{ap, ◌∙◌}
use Rattle.std.specs.declared.snapshot.Snapshot.{Snapshot}
use Rattle.std.proofs.lemmas.Result.{err_from_is_err_and}
use Rattle.rules_code.specs.declared.code.CodeBody.{CodeBody}
use Rattle.rules_code.specs.Codes.{body_of}
use Rattle.trace_checker.proofs.Following.{fewer_bytes, none_read, some_read}
use Rattle.trace_report.proofs.Counted.{counts_begun, counts_on, few, reported}
use Rattle.trace_report.proofs.reporting.report.Goals as goal

pub loop-tally-init : goal.loop-tally-init
loop-tally-init c =
    counts_begun (body_of c.args.code.now) c.args.text.now c.in_ok-walk.walk c.new-tally.result c.in_ok-walk.ensures.ok c.new-tally.ensures.first c.new-tally.ensures.within

pub play-requires : goal.play-requires
play-requires c = ap (λ (z : Snapshot CodeBody). z.value) c.next.ensures.of ∙ c.loop-tally.invariant.far.of

pub returns-in_err-play-clause-err : goal.returns-in_err-play-clause-err
returns-in_err-play-clause-err c =
    let h = c.loop-tally.invariant in
    let read = some_read (body_of c.args.code.now) c.args.text.now h.list c.next.new.self c.in_ok-entry.field-0 c.in-Some.entry c.in-Some.is (c.in_ok-entry.ensures.ok (body_of c.args.code.now) c.args.text.now h.list h.far) in
    let p = err_from_is_err_and c.from_residual-in_err-play.result c.from_residual-in_err-play.ensures.1 in
    rw (p.1, p.2) (c.in_err-play.ensures.err (body_of c.args.code.now) c.args.text.now h.list read)

pub count-requires-clause-few : goal.count-requires-clause-few
count-requires-clause-few c =
    let h = c.loop-tally.invariant in
    let read = some_read (body_of c.args.code.now) c.args.text.now h.list c.next.new.self c.in_ok-entry.field-0 c.in-Some.entry c.in-Some.is (c.in_ok-entry.ensures.ok (body_of c.args.code.now) c.args.text.now h.list h.far) in
    let on = c.in_ok-play.ensures.ok (body_of c.args.code.now) c.args.text.now h.list read in
    few (body_of c.args.code.now) c.args.text.now h.list c.loop-tally.tally c.in-Some.entry c.next.new.self c.play.new.self read on h.tallies h.steps

pub loop-tally-smaller : goal.loop-tally-smaller
loop-tally-smaller c =
    let h = c.loop-tally.invariant in
    let read = some_read (body_of c.args.code.now) c.args.text.now h.list c.next.new.self c.in_ok-entry.field-0 c.in-Some.entry c.in-Some.is (c.in_ok-entry.ensures.ok (body_of c.args.code.now) c.args.text.now h.list h.far) in
    let on = c.in_ok-play.ensures.ok (body_of c.args.code.now) c.args.text.now h.list read in
    fewer_bytes c.args.text.now c.loop-tally.walk.lines.rest c.play.new.self.lines.rest h.list c.in-Some.entry h.far.read on.read

pub loop-tally-preserved : goal.loop-tally-preserved
loop-tally-preserved c =
    let h = c.loop-tally.invariant in
    let read = some_read (body_of c.args.code.now) c.args.text.now h.list c.next.new.self c.in_ok-entry.field-0 c.in-Some.entry c.in-Some.is (c.in_ok-entry.ensures.ok (body_of c.args.code.now) c.args.text.now h.list h.far) in
    let on = c.in_ok-play.ensures.ok (body_of c.args.code.now) c.args.text.now h.list read in
    counts_on (body_of c.args.code.now) c.args.text.now h.list c.loop-tally.tally c.in-Some.entry c.next.new.self c.play.new.self read on h.tallies h.steps c.count.new.self
    c.seen-seen.result c.before-before.result c.before-before.ensures c.seen-seen.ensures c.in_ok-count.ensures.counted c.in_ok-count.ensures.within

pub returns-clause-ok : goal.returns-clause-ok
returns-clause-ok c =
    let h = c.loop-tally.invariant in
    let end = none_read (body_of c.args.code.now) c.args.text.now h.list c.next.new.self c.in_ok-entry.field-0 c.in_default.not-Some (c.in_ok-entry.ensures.ok (body_of c.args.code.now) c.args.text.now h.list h.far) in
    reported (body_of c.args.code.now) c.args.text.now h.list c.next.new.self c.loop-tally.tally c.in_ok-write.field-0 end.1 end.0 h.tallies c.in_ok-write.ensures
