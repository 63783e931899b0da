use Rattle.std.proofs.Common.{◌≡◌, ◌++◌, drop}
use Rattle.hs_core.specs.Placing.{written}
use Rattle.hs_core.proofs.expanding.bind_params.Given as goal

abbrev pub invariant-params : goal.invariant-params
invariant-params l = l.scope ++ written (drop l.param-index l.params) ≡ l.fn.scope ++ written l.fn.params
