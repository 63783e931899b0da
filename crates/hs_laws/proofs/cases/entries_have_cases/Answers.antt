use Rattle.hs_laws.proofs.cases_lemmas.Entering.{case_of, entered_is}
use Rattle.hs_laws.proofs.cases.entries_have_cases.Goals as goal

pub returns-clause-case : goal.returns-clause-case
returns-clause-case c = case_of

pub returns-clause-entered : goal.returns-clause-entered
returns-clause-entered c = λ code s e u h. entered_is h

pub returns-clause-leads : goal.returns-clause-leads
returns-clause-leads c = λ code s e u h t. (entered_is h, t)
