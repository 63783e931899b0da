use Rattle.std.proofs.Common.{sym, ap, ◌∙◌, subst, arith}
use Rattle.run_course.specs.history.Acts.{is_value}
use Rattle.run_course.specs.history.Records.{HasFinished}
use Rattle.run_course.proofs.history_lemmas.Finished.{some_main, has_finished, main_is}
use Rattle.run_course.proofs.history.record.Record.main.Goals as goal

pub index-main-requires : goal.index-main-requires
index-main-requires c = let r = c.args.self.now in let some = some_main r in let size = r.world.threads.list.ok.0 in omega arith

pub returns-then-not-main-clause-none : goal.returns-then-not-main-clause-none
returns-then-not-main-clause-none c =
    let r = c.args.self.now in
    record { main = c.index-main.result.now; is = main_is r c.index-main.result.now c.index-main.ensures; unfinished = c.if-not-main.true }

pub returns-clause-some : goal.returns-clause-some
returns-clause-some c =
    let r = c.args.self.now in
    subst (λ v. HasFinished v r) (sym (c.is_value.ensures ∙ ap is_value c.control.ensures))
    (has_finished r c.index-main.result.now (main_is r c.index-main.result.now c.index-main.ensures) c.if-not-main.false)
