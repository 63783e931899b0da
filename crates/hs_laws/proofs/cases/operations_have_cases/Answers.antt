use Rattle.hs_laws.proofs.cases_lemmas.Performing.{case_of, performed_is}
use Rattle.hs_laws.proofs.cases.operations_have_cases.Goals as goal

pub returns-clause-case : goal.returns-clause-case
returns-clause-case c = case_of

pub returns-clause-performed : goal.returns-clause-performed
returns-clause-performed c = λ t m p s u h. performed_is h
