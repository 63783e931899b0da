use Rattle.trace_text.proofs.Readings.{one_reading}
use Rattle.trace_text.proofs.laws.one_reading.Goals as goal

pub returns : goal.returns
returns c = one_reading
