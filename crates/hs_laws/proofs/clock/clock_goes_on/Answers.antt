use Rattle.hs_laws.proofs.Ticking.{clock_begins, clock_works, clock_ticks, clock_ticks_early, clock_more, clock_before}
use Rattle.hs_laws.proofs.clock.clock_goes_on.Goals as goal

pub returns-clause-begins : goal.returns-clause-begins
returns-clause-begins c = clock_begins

pub returns-clause-works : goal.returns-clause-works
returns-clause-works c = clock_works

pub returns-clause-ticks : goal.returns-clause-ticks
returns-clause-ticks c = λ ds es at n s is h t p. clock_ticks ds es at n s is h t p

pub returns-clause-early : goal.returns-clause-early
returns-clause-early c = λ ds es at n s is h t. clock_ticks_early ds es at n s is h t

pub returns-clause-more : goal.returns-clause-more
returns-clause-more c = clock_more

pub returns-clause-prefix : goal.returns-clause-prefix
returns-clause-prefix c = clock_before
