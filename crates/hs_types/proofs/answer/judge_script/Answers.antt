use Rattle.std.proofs.Common.{Some, ap, ◌∙◌, sym, codes}
use Rattle.rules_expansion.specs.trees.Programs.{script_of}
use Rattle.rules_typing.specs.Typing.{find}
use Rattle.rules_typing.specs.TypingScripts.{main_by}
use Rattle.typing_judge.specs.JudgingScripts.{script_faults}
use Rattle.typing_judge.proofs.Scripts.{first_broken, nothing_broken}
use Rattle.typing_parts.specs.Views.{broken_of, kept_of}
use Rattle.typing_parts.proofs.ScriptSteps.{first_is, first_none}
use Rattle.hs_types.proofs.Headed.{heads_are}
use Rattle.hs_types.proofs.answer.judge_script.Goals as goal

pub returns-in-Some : goal.returns-in-Some
returns-in-Some c =
    let s = c.args.script.now in
    let ms = c.in_ok-funs.funs.types.nodes in
    let f = broken_of ms c.in-Some.f in (
      f,
      c.in_ok-refusal-in-Some.ensures ∙ ap (λ z. Some (broken_of z.nodes c.in-Some.f)) c.in_ok-f.ensures.1,
      first_broken s f (first_is (script_faults (script_of s)) f (sym c.in_ok-f.ensures.0 ∙ ap (kept_of ms) c.in-Some.is)),
    )

pub returns-then-branch : goal.returns-then-branch
returns-then-branch c =
    let s = c.args.script.now in (
      nothing_broken s (first_none (script_faults (script_of s)) (sym c.in_ok-f.ensures.0 ∙ ap (kept_of c.in_ok-funs.funs.types.nodes) c.in-None.is)),
      ap (λ z. main_by (find z (codes "main"))) (sym (heads_are c.first_broken.new.funs c.in_ok-funs.funs c.in_ok-heads.heads c.args.script.now c.in_ok-f.ensures.1 c.in_ok-f.ensures.2 c.in_ok-funs.ensures.0 c.in_ok-funs.ensures.1 c.in_ok-heads.ensures)) ∙ (sym c.in_ok-has_main-in-None.ensures ∙ c.if-branch.true),
    )

pub returns : goal.returns
returns c =
    let s = c.args.script.now in (
      nothing_broken s (first_none (script_faults (script_of s)) (sym c.in_ok-f.ensures.0 ∙ ap (kept_of c.in_ok-funs.funs.types.nodes) c.in-None.is)),
      ap (λ z. main_by (find z (codes "main"))) (sym (heads_are c.first_broken.new.funs c.in_ok-funs.funs c.in_ok-heads.heads c.args.script.now c.in_ok-f.ensures.1 c.in_ok-f.ensures.2 c.in_ok-funs.ensures.0 c.in_ok-funs.ensures.1 c.in_ok-heads.ensures)) ∙ (sym c.in_ok-has_main-in-None.ensures ∙ c.if-branch.false),
    )
