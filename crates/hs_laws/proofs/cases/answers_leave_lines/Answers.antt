use Rattle.hs_laws.proofs.cases_lemmas.Lines.{free_stays, read_line, same_putter, taker_after}
use Rattle.hs_laws.proofs.cases.answers_leave_lines.Goals as goal

pub returns-clause-free : goal.returns-clause-free
returns-clause-free c = free_stays

pub returns-clause-read : goal.returns-clause-read
returns-clause-read c = read_line

pub returns-clause-putter : goal.returns-clause-putter
returns-clause-putter c = same_putter

pub returns-clause-taker : goal.returns-clause-taker
returns-clause-taker c = taker_after
