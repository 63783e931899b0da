use Rattle.std.proofs.Common.{◌∙◌, sym}
use Rattle.typing_parts.specs.Views.{texts_of}
use Rattle.typing_parts.proofs.Indexes.{found_none, found_some}
use Rattle.typing_parts.proofs.funs.Funs.find.Goals as goal

pub returns-in-None : goal.returns-in-None
returns-in-None c =
    let funs = c.args.self.now in
    found_none funs.sigs c.args.x.now (sym (c.first.ensures (texts_of funs.sigs) funs.indexed) ∙ c.in-None.is)

pub returns-in-Some : goal.returns-in-Some
returns-in-Some c =
    let funs = c.args.self.now in
    found_some funs.sigs c.args.x.now c.in-Some.place c.get.result (sym (c.first.ensures (texts_of funs.sigs) funs.indexed) ∙ c.in-Some.is) c.get.ensures.value
