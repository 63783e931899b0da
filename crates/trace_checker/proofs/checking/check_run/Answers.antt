use Rattle.std.proofs.Common.{[], ap, ◌∙◌}
use Rattle.std.specs.declared.snapshot.Snapshot.{Snapshot}
use Rattle.std.proofs.lemmas.Result.{err_from_is_err_and}
use Rattle.rules_code.specs.declared.code.CodeBody.{CodeBody}
use Rattle.rules_code.specs.Codes.{body_of}
use Rattle.trace_checker.proofs.Following.{fewer_bytes, none_read, some_read}
use Rattle.trace_checker.proofs.checking.check_run.Goals as goal

pub loop-walk-init : goal.loop-walk-init
loop-walk-init c = ([], c.in_ok-walk.ensures.ok)

pub play-requires : goal.play-requires
play-requires c = let (es, h) = c.loop-walk.invariant in ap (λ (z : Snapshot CodeBody). z.value) c.next.ensures.of ∙ h.of

pub returns-in_err-play : goal.returns-in_err-play
returns-in_err-play c =
    let (es, h) = c.loop-walk.invariant in
    let read = some_read (body_of c.args.code.now) c.args.text.now es c.next.new.self c.in_ok-entry.field-0 c.in-Some.entry c.in-Some.is (c.in_ok-entry.ensures.ok (body_of c.args.code.now) c.args.text.now es h) in
    let p = err_from_is_err_and c.from_residual-in_err-play.result c.from_residual-in_err-play.ensures.1 in
    rw (p.1, p.2) (c.in_err-play.ensures.err (body_of c.args.code.now) c.args.text.now es read)

pub loop-walk-smaller : goal.loop-walk-smaller
loop-walk-smaller c =
    let (es, h) = c.loop-walk.invariant in
    let read = some_read (body_of c.args.code.now) c.args.text.now es c.next.new.self c.in_ok-entry.field-0 c.in-Some.entry c.in-Some.is (c.in_ok-entry.ensures.ok (body_of c.args.code.now) c.args.text.now es h) in
    let on = c.in_ok-play.ensures.ok (body_of c.args.code.now) c.args.text.now es read in
    fewer_bytes c.args.text.now c.loop-walk.walk.lines.rest c.play.new.self.lines.rest es c.in-Some.entry h.read on.read

pub loop-walk-preserved : goal.loop-walk-preserved
loop-walk-preserved c =
    let (es, h) = c.loop-walk.invariant in
    let read = some_read (body_of c.args.code.now) c.args.text.now es c.next.new.self c.in_ok-entry.field-0 c.in-Some.entry c.in-Some.is (c.in_ok-entry.ensures.ok (body_of c.args.code.now) c.args.text.now es h) in
    (_, c.in_ok-play.ensures.ok (body_of c.args.code.now) c.args.text.now es read)

pub returns : goal.returns
returns c =
    let (es, h) = c.loop-walk.invariant in
    let end = none_read (body_of c.args.code.now) c.args.text.now es c.next.new.self c.in_ok-entry.field-0 c.in_default.not-Some (c.in_ok-entry.ensures.ok (body_of c.args.code.now) c.args.text.now es h) in
    c.verdict.ensures (body_of c.args.code.now) c.args.text.now es end.1 end.0
