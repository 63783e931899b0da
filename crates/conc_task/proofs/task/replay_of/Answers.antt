use Rattle.std.proofs.Common.{◌≤◌, length, ap, arith}
use Rattle.std.proofs.lemmas.Result.{err_from_is_err_and}
use Rattle.conc_task.specs.Documents.{document_limit}
use Rattle.conc_task.proofs.Documents.{cut_replay, cut_denied, line_within}
use Rattle.conc_task.proofs.task.replay_of.Goals as goal

pub slice_bounds-code_of-count : goal.slice_bounds-code_of-count
slice_bounds-code_of-count c =
    omega (arith, line_within c.deref.result.now _ c.in-Some.ensures.0, c.in-Some.ensures.2, ap length c.deref.ensures.value, ap length c.deref-2.ensures.value)

pub slice_bounds-code_of-start : goal.slice_bounds-code_of-start
slice_bounds-code_of-start c =
    omega (arith, line_within c.deref.result.now _ c.in-Some.ensures.0, c.in-Some.ensures.2, ap length c.deref.ensures.value, ap length c.deref-2.ensures.value)

pub returns-in_err-code : goal.returns-in_err-code
returns-in_err-code c =
    let p = err_from_is_err_and c.from_residual.result c.from_residual.ensures.1 in
    let short : length c.args.document.items ≤ document_limit = omega arith in
    let found = c.in-Some.ensures in
    rw (p.1, p.2) (cut_denied c.args.document.items c.deref.result.now c.deref-2.result.now _ _ c.deref.ensures.value c.deref-2.ensures.value found.0 found.1 found.2 short _ c.in_err-code.ensures)

pub returns : goal.returns
returns c =
    let short : length c.args.document.items ≤ document_limit = omega arith in
    let found = c.in-Some.ensures in
    cut_replay c.args.document.items c.deref.result.now c.deref-2.result.now _ _ c.deref.ensures.value c.deref-2.ensures.value found.0 found.1 found.2 short _ c.truncate.ensures.items c.in_ok-code.ensures
