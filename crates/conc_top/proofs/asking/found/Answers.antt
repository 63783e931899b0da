use Rattle.std.proofs.Common.{List, ℕ, refl, subst, sym}
use Rattle.rules_code.specs.Codes.{body_of}
use Rattle.rules_expansion.specs.trees.Programs.{script_of}
use Rattle.trace_report.specs.tally.Reporting.{report_of}
use Rattle.trace_report.specs.Checking.{TellsOfRun}
use Rattle.conc_task.specs.declared.words.command.Question.{Question}
use Rattle.conc_top.specs.declared.ending.Ending.TheVariants.{Reported, Pictured}
use Rattle.conc_top.specs.Causes.{IsPictureOf}
use Rattle.conc_top.specs.Answers.{IsFound}
use Rattle.conc_top.proofs.asking.found.Goals as goal

pub returns-in_ok-text-in-Report : goal.returns-in_ok-text-in-Report
returns-in_ok-text-in-Report c =
    let ds = script_of (body_of c.args.replay.now.code).of.value in
    let text = c.in_ok-text-in-Report.text in
    let tells = subst (λ (t : List ℕ). TellsOfRun report_of ds t text) c.deref-in-Report.ensures.value c.in_ok-text-in-Report.ensures.ok in
    subst (λ (q : Question). IsFound q ds c.args.replay.now.trace.items Reported text) (sym c.in-Report.is) (refl, tells)

pub returns-in_ok-text-in-Picture : goal.returns-in_ok-text-in-Picture
returns-in_ok-text-in-Picture c =
    let ds = script_of (body_of c.args.replay.now.code).of.value in
    let text = c.in_ok-text-in-Picture.text in
    let drawn = subst (λ (t : List ℕ). IsPictureOf text ds t) c.deref-in-Picture.ensures.value c.in_ok-text-in-Picture.ensures.ok in
    subst (λ (q : Question). IsFound q ds c.args.replay.now.trace.items Pictured text) (sym c.in-Picture.is) (refl, drawn)
