use Rattle.std.proofs.Common.{arith}
use Rattle.rules_code.specs.Codes.{body_of}
use Rattle.rules_expansion.specs.trees.Programs.{script_of}
use Rattle.trace_picture.proofs.Filmed.{large, pictured}
use Rattle.trace_picture.proofs.filming.picture.Goals as goal

pub returns-then-verified-gt-MOST_ENTRIES-clause-err : goal.returns-then-verified-gt-MOST_ENTRIES-clause-err
returns-then-verified-gt-MOST_ENTRIES-clause-err c =
    let t = c.if-verified-gt-MOST_ENTRIES.true in
    large (script_of (body_of c.args.code.now).of.value) c.args.text.now c.in_ok-verified.verified (omega (arith, t)) c.in_ok-verified.ensures

pub returns-clause-ok : goal.returns-clause-ok
returns-clause-ok c =
    let t = c.if-verified-gt-MOST_ENTRIES.false in
    pictured (script_of (body_of c.args.code.now).of.value) c.args.text.now c.in_ok-verified.verified c.in_ok-shot.shot c.in_ok-develop.field-0 (omega (arith, t)) c.in_ok-verified.ensures c.in_ok-shot.ensures.ok c.in_ok-develop.ensures
