use Rattle.rules_code.specs.Slots.{s_binary}
use Rattle.hs_core.proofs.Steps.{ex_after2}
use Rattle.hs_core.proofs.emitter.ActEmitter.binary_bound.Goals as goal

pub returns : goal.returns
returns c = ex_after2 (s_binary c.args.form) c.in_ok-e.ensures (λ k. k) c.in_ok-f.ensures (λ k. k) c.in_ok-id.ensures
