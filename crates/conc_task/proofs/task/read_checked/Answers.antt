use Rattle.std.proofs.lemmas.Result.{err_from_is_err_and}
use Rattle.conc_task.proofs.Reading.{check_had, unread}
use Rattle.conc_task.proofs.task.read_checked.Goals as goal

pub returns-clause-comes : goal.returns-clause-comes
returns-clause-comes g c =
    check_had c.check_of.result _ _ _ c.in_ok-bytes.bytes.items c.deref.result.now c.in_ok-bytes.ensures.read.0 c.in_ok-bytes.ensures.read.1 c.deref.ensures.value c.check_of.ensures

pub returns-in_err-bytes-clause-comes : goal.returns-in_err-bytes-clause-comes
returns-in_err-bytes-clause-comes g c =
    let p = err_from_is_err_and c.from_residual.result c.from_residual.ensures.1 in
    rw (p.1, p.2) (unread _ _ _ _ c.in_err-bytes.ensures.read)
