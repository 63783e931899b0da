use Rattle.std.proofs.Common.{◌≡◌, IfOk, List, subst, vec_items}
use Rattle.lane_picture.specs.declared.film.Ending.{Ending}
use Rattle.lane_picture.specs.declared.film.Frame.{Frame}
use Rattle.lane_picture.specs.Drawing.{picture}
use Rattle.trace_picture.proofs.filming.develop.Goals as goal

pub returns : goal.returns
returns c =
    let shot = c.args.shot.now in
    subst (λ (e : Ending). IfOk c.draw.result (λ txt. txt ≡ picture (vec_items shot.film) shot.threads shot.cells e)) c.ending-end.ensures
    (subst (λ (film : List Frame). IfOk c.draw.result (λ txt. txt ≡ picture film shot.threads shot.cells c.ending-end.result)) c.deref.ensures.value c.draw.ensures)
