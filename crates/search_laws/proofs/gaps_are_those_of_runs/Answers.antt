use Rattle.search_laws.proofs.Gaps.{reading_legal, left_uses, first_uses}
use Rattle.search_laws.proofs.gaps_are_those_of_runs.Goals as goal

pub returns-clause-reads : goal.returns-clause-reads
returns-clause-reads c = reading_legal

pub returns-clause-left : goal.returns-clause-left
returns-clause-left c = left_uses

pub returns-clause-first : goal.returns-clause-first
returns-clause-first c = first_uses
