use Rattle.std.proofs.Common.{sym, ap, subst}
use Rattle.rules_code.specs.Codes.{body_of}
use Rattle.rules_meaning.specs.Values.{values_of}
use Rattle.hs_eval.specs.Readings.{Reading}
use Rattle.lower_tests.proofs.evaluation_lemmas.SmallestCode.{smallest_reading}
use Rattle.lower_tests.proofs.evaluation.smallest.eval_gives_what_the_smallest_code_returns.Goals as goal

pub eval-requires : goal.eval-requires
eval-requires g c =
    let code = body_of c.in_ok-code.code in
    ∣ subst (Reading code (record { 0 = 0 })) (sym (ap values_of c.new.ensures)) (smallest_reading code (record { line = 1; col = 1 }) c.in_ok-code.ensures) ∣₁
