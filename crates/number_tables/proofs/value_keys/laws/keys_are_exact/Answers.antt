use Rattle.number_tables.proofs.value_keys_lemmas.Exact.{exact_text, exact_exn, exact_value, exact_values}
use Rattle.number_tables.proofs.value_keys.laws.keys_are_exact.Goals as goal

-- src/laws.rt
pub returns-clause-texts : goal.returns-clause-texts
returns-clause-texts c = exact_text

pub returns-clause-exceptions : goal.returns-clause-exceptions
returns-clause-exceptions c = exact_exn

pub returns-clause-values : goal.returns-clause-values
returns-clause-values c = exact_value

pub returns-clause-lists : goal.returns-clause-lists
returns-clause-lists c = exact_values
