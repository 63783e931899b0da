use Rattle.scope_laws.proofs.Law.{scopes_of, scopes_law}
use Rattle.scope_laws.proofs.scopes.children_end_first.Goals as goal

pub returns-clause-held : goal.returns-clause-held
returns-clause-held c = scopes_of

pub returns-clause-kept : goal.returns-clause-kept
returns-clause-kept c = scopes_law
