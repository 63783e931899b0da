use Rattle.conc_outcomes.proofs.walks.rounds.is_another.Goals as goal

-- src/rounds.rt
pub returns-in-None : goal.returns-in-None
returns-in-None c = λ yes. (c.in_ok-kept.kept, c.in_ok-kept.ensures, rw c.in-None.is at c.in_ok-known.ensures)
