use Rattle.std.proofs.Common.{subst}
use Rattle.hs_types.specs.Answers.{IsAnswer}
use Rattle.hs_types.specs.declared.answer.Answer.TheVariants as a
use Rattle.hs_types.proofs.Told.{refused}
use Rattle.hs_types.proofs.check.Goals as goal

pub returns-in-Err : goal.returns-in-Err
returns-in-Err c = tt

pub returns-in-Ok-NoMain : goal.returns-in-Ok-NoMain
returns-in-Ok-NoMain c = rw c.in-Ok-NoMain.field-0-is at c.in-Ok-NoMain.ensures

pub returns-in-Ok-Broken : goal.returns-in-Ok-Broken
returns-in-Ok-Broken c =
    let s = c.args.script in
    let f = c.in-Ok-Broken.f in
    let h : IsAnswer (a.Broken f) s = subst (λ z. IsAnswer z s) c.in-Ok-Broken.field-0-is c.in-Ok-Broken.ensures in
    refused s f h.0 h.1 h.2
