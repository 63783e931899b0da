use Rattle.std.proofs.Common.{arith, refl, sym, subst, Some}
use Rattle.plain_laws.proofs.Options.{said_of}
use Rattle.run_course.specs.history.Acts.{entry_of}
use Rattle.run_course.specs.history.Records.{WouldExceed}
use Rattle.run_course.specs.declared.ends.RunEnd.TheVariants as end
use Rattle.run_course.proofs.Kept.{calm_ends, calm_put, ended_none, limit_same, on_err, on_none, on_ok, rose_since, told_ends, told_failed, told_put, told_same}
use Rattle.run_course.proofs.course.Course.act.Goals as goal

pub invariant_of-self-in-Some : goal.invariant_of-self-in-Some
invariant_of-self-in-Some g c =
    let s = c.args.self.now in
    let old = s.clocked.«record» in
    let new = c.act.new.self.«record» in
    let kind = c.in-Some.kind in
    let over = said_of _ _ c.in_ok-kind.field-0 kind c.in-Some.is c.in_ok-kind.ensures.ok in
    let after = Some (end.Limit kind c.entry.result) in
    record {
      told = told_same old new over.0 after _ _ _ _ (told_ends s.end after c.requires.none refl _ _ _ _ _ _ s.told);
      out_faults = s.out_faults;
      err_faults = s.err_faults;
      calm = calm_ends s.end after c.requires.none _ _ _ _ s.calm;
      ended = ∣ limit_same old new over.0 kind c.entry.result (subst (λ z. WouldExceed kind z old) (sym c.entry.ensures) over.1) ∣₁;
    }

pub invariant_of-self-then-is_err : goal.invariant_of-self-then-is_err
invariant_of-self-then-is_err g c =
    let s = c.args.self.now in
    let O = g.O.Sink in
    let E = g.E.Sink in
    let old = s.clocked.«record» in
    let new = c.act.new.self.«record» in
    let e = entry_of c.args.act in
    let appended = on_none _ _ c.in_ok-kind.field-0 c.in_default.is c.in_ok-kind.ensures.ok in
    let put = c.put_piece.ensures in
    let failed = on_err c.put_piece.result c.is_err.result c.if-is_err.true c.is_err.ensures.value put.failed in
    let rose = on_err c.put_piece.result c.is_err.result c.if-is_err.true c.is_err.ensures.value put.rose in
    record {
      told = told_failed old new e appended s.end c.requires.none _ _ _ _ _ _ s.told (failed _ _ (c.in_ok-piece.ensures old.of.value));
      out_faults = omega (arith, s.out_faults, put.counted.output);
      err_faults = omega (arith, s.err_faults, put.counted.errors);
      calm = ∣ (λ f. absurd (cc f)) ∣₁;
      ended = rose_since s.end c.requires.none _ _ _ _ _ _ s.calm rose;
    }

pub invariant_of-self-else-is_err : goal.invariant_of-self-else-is_err
invariant_of-self-else-is_err g c =
    let s = c.args.self.now in
    let old = s.clocked.«record» in
    let new = c.act.new.self.«record» in
    let e = entry_of c.args.act in
    let appended = on_none _ _ c.in_ok-kind.field-0 c.in_default.is c.in_ok-kind.ensures.ok in
    let put = c.put_piece.ensures in
    let both = on_ok c.put_piece.result c.is_err.result c.if-is_err.false c.is_err.ensures.value put.ok in
    let calm = on_ok c.put_piece.result c.is_err.result c.if-is_err.false c.is_err.ensures.value put.calm in
    record {
      told = told_put old new e appended s.end c.requires.none _ _ _ _ _ _ s.told (both _ _ (c.in_ok-piece.ensures old.of.value));
      out_faults = omega (arith, s.out_faults, put.counted.output);
      err_faults = omega (arith, s.err_faults, put.counted.errors);
      calm = calm_put s.end c.requires.none _ _ _ _ _ _ s.calm calm;
      ended = ended_none s.end c.requires.none _ _ _ _ _ _ _ _;
    }
