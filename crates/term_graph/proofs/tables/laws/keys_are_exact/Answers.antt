use Rattle.term_graph.proofs.tables_lemmas.Exact.{exact_part, exact_frame}
use Rattle.term_graph.proofs.tables.laws.keys_are_exact.Goals as goal

-- src/laws.rt
pub returns-clause-parts : goal.returns-clause-parts
returns-clause-parts c = exact_part

pub returns-clause-frames : goal.returns-clause-frames
returns-clause-frames c = exact_frame
