use Rattle.trace_text.proofs.Documents.{documents_part}
use Rattle.trace_text.proofs.laws.documents_part.Goals as goal

pub returns : goal.returns
returns c = documents_part
