use Rattle.std.proofs.lemmas.Result.{err_from_is_err_and}
use Rattle.conc_task.proofs.Reading.{had_none, traced_had, unread}
use Rattle.conc_task.proofs.task.read_traced.Goals as goal

pub returns-clause-comes : goal.returns-clause-comes
returns-clause-comes g c =
    traced_had _ _ c.in_ok-bytes.bytes.items c.deref.result.now _ c.in_ok-bytes.ensures.read.0 c.in_ok-bytes.ensures.read.1 c.deref.ensures.value c.in_ok-code.ensures

pub returns-in_err-bytes-clause-comes : goal.returns-in_err-bytes-clause-comes
returns-in_err-bytes-clause-comes g c =
    let p = err_from_is_err_and c.from_residual.result c.from_residual.ensures.1 in
    rw (p.1, p.2) (unread _ _ _ _ c.in_err-bytes.ensures.read)

pub returns-in_err-code-clause-comes : goal.returns-in_err-code-clause-comes
returns-in_err-code-clause-comes g c =
    let p = err_from_is_err_and c.from_residual-in_err-code.result c.from_residual-in_err-code.ensures.1 in
    rw (p.1, p.2) (had_none _ _ _ c.in_ok-bytes.bytes.items c.deref.result.now _ c.in_ok-bytes.ensures.read.0 c.in_ok-bytes.ensures.read.1 c.deref.ensures.value c.in_err-code.ensures)
