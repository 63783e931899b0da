use Rattle.std.proofs.lemmas.Result.{err_from_is_err_and}
use Rattle.conc_task.proofs.Documents.{replay_had, document_unread}
use Rattle.conc_task.proofs.task.read_replay.Goals as goal

pub returns-clause-comes : goal.returns-clause-comes
returns-clause-comes g c = λ question. replay_had question _ _ _ c.replay_of.result _ c.in_ok-document.ensures.read.0 c.in_ok-document.ensures.read.1 c.replay_of.ensures

pub returns-in_err-document-clause-comes : goal.returns-in_err-document-clause-comes
returns-in_err-document-clause-comes g c =
    let p = err_from_is_err_and c.from_residual.result c.from_residual.ensures.1 in
    λ question. rw (p.1, p.2) (document_unread question _ _ _ _ c.in_err-document.ensures.read)
