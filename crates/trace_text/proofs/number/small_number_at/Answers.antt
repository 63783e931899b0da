use Rattle.std.proofs.Common.{◌≡◌, ◌∙◌, sym, arith}
use Rattle.trace_text.proofs.Numbers.{none_ok, one_number, wider}
use Rattle.trace_text.proofs.number.small_number_at.Goals as goal

pub returns-in_err-small : goal.returns-in_err-small
returns-in_err-small c =
    rw c.from_residual-in_err-small.ensures
    (λ n rest r.
    let same : n ≡ c.in_ok-number.number = (one_number c.args.bytes.now n c.in_ok-number.number rest c.in_ok-number.rest.now (wider c.args.bytes.now n rest r) c.in_ok-number.ensures).0 in
    none_ok c.try_from.result _ _ c.try_from.ensures (sym c.ok.ensures.value ∙ c.in_err-small.was) (omega (arith, same, r.fits)))
