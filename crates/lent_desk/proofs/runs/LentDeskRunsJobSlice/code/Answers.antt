use Rattle.std.proofs.Common.{◌∙◌, ap}
use Rattle.lent_desk.proofs.Keeping.{ok_also}
use Rattle.rules_code.specs.Codes.{body_of}
use Rattle.lent_desk.proofs.runs.LentDeskRunsJobSlice.code.Goals as goal

pub returns : goal.returns
returns g c = ok_also c.share.result (λ code is. is ∙ ap body_of (c.code.ensures ∙ ap (λ d. d.code) c.deref.ensures) ∙ c.args.self.now.desk.value.of_code) c.share.ensures
