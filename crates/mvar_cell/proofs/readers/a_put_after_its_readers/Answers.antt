use Rattle.mvar_cell.proofs.Served.{all_out, put_after, try_put_after}
use Rattle.mvar_cell.proofs.readers.a_put_after_its_readers.Goals as goal

pub returns-clause-readers : goal.returns-clause-readers
returns-clause-readers c = λ ts m old mid lt h. (all_out ts m old mid lt h).readers

pub returns-clause-put : goal.returns-clause-put
returns-clause-put c = put_after

pub returns-clause-try_put : goal.returns-clause-try_put
returns-clause-try_put c = try_put_after
