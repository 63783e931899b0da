use Rattle.std.proofs.Common.{refl}
use Rattle.std.specs.Prelude.{Some, None}
use Rattle.std.proofs.lemmas.Bool.Decides.{Decides-eqb}
use Rattle.std.proofs.lemmas.Slice.Eq.{strip_prefix_is}
use Rattle.trace_text.specs.spelling.Traces.{header}
use Rattle.trace_text.proofs.lines.Lines.of.Goals as goal

pub returns-in_err-rest : goal.returns-in_err-rest
unfolding header
returns-in_err-rest c = rw c.from_residual.ensures (strip_prefix_is Decides-eqb c.args.text.now header None c.in_err-rest.ensures.cases)

pub returns : goal.returns
unfolding header
returns c = (refl, record { fit = tt; spelled = strip_prefix_is Decides-eqb c.args.text.now header (Some c.in_ok-rest.rest) c.in_ok-rest.ensures.cases })
