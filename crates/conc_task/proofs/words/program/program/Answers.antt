use Rattle.std.proofs.Common.{◌≡◌, ◌∙◌, ap, ap₂, codes, true}
use Rattle.std.proofs.lemmas.Result.{IfOk-weaker}
use Rattle.clap.specs.Simple.{App, Shape, app_of, app_of_fields, new_app, on_top, with_subcommand}
use Rattle.conc_task.specs.words.Program.{alone}
use Rattle.conc_task.proofs.words.program.program.Goals as goal

-- each setting, in turn
abbrev without_name : App → App
without_name = on_top (λ s. record s { no_binary_name = true })

abbrev without_help : App → App
without_help = on_top (λ s. record s { disable_help_flag = true })

abbrev without_help_command : App → App
without_help_command = on_top (λ s. record s { disable_help_subcommand = true })

abbrev with_need : App → App
with_need = on_top (λ s. record s { subcommand_required = true })

abbrev top_of : App → Shape
top_of a = a.top

pub returns : goal.returns
returns c =
    let named : app_of c.no_binary_name.result ≡ without_name (new_app (codes "conc_run")) =
    ap app_of_fields c.no_binary_name.ensures ∙ ap without_name c.new.ensures.app in
    let quiet : app_of c.disable_help_flag.result ≡ without_help (without_name (new_app (codes "conc_run"))) =
    ap app_of_fields c.disable_help_flag.ensures ∙ ap without_help named in
    let quieter : app_of c.disable_help_subcommand.result ≡ without_help_command (without_help (without_name (new_app (codes "conc_run")))) =
    ap app_of_fields c.disable_help_subcommand.ensures ∙ ap without_help_command quiet in
    let alone_is : app_of c.subcommand_required.result ≡ alone =
    ap app_of_fields c.subcommand_required.ensures ∙ ap with_need quieter in
    let with_run = c.in_ok-subcommand.ensures.shape c.in_ok-runner.ensures.local ∙ ap₂ with_subcommand alone_is (ap top_of c.in_ok-runner.ensures.shape) in
    let with_check = c.in_ok-subcommand-2.ensures.shape c.plain.ensures.local ∙ ap₂ with_subcommand with_run (ap top_of c.plain.ensures.shape) in
    let with_bench = c.in_ok-subcommand-3.ensures.shape c.in_ok-bench.ensures.local ∙ ap₂ with_subcommand with_check (ap top_of c.in_ok-bench.ensures.shape) in
    let with_trace = c.in_ok-subcommand-4.ensures.shape c.in_ok-runner-2.ensures.local ∙ ap₂ with_subcommand with_bench (ap top_of c.in_ok-runner-2.ensures.shape) in
    let with_outcomes = c.in_ok-subcommand-5.ensures.shape c.in_ok-outcomes.ensures.local ∙ ap₂ with_subcommand with_trace (ap top_of c.in_ok-outcomes.ensures.shape) in
    let with_claims = c.in_ok-subcommand-6.ensures.shape c.in_ok-searcher.ensures.local ∙ ap₂ with_subcommand with_outcomes (ap top_of c.in_ok-searcher.ensures.shape) in
    let with_haskell = c.in_ok-subcommand-7.ensures.shape c.plain-2.ensures.local ∙ ap₂ with_subcommand with_claims (ap top_of c.plain-2.ensures.shape) in
    let with_verify = c.in_ok-subcommand-8.ensures.shape c.plain-3.ensures.local ∙ ap₂ with_subcommand with_haskell (ap top_of c.plain-3.ensures.shape) in
    let with_report = c.in_ok-subcommand-9.ensures.shape c.plain-4.ensures.local ∙ ap₂ with_subcommand with_verify (ap top_of c.plain-4.ensures.shape) in
    IfOk-weaker c.subcommand-10.result _ _ (λ r h. h.shape c.plain-5.ensures.local ∙ ap₂ with_subcommand with_report (ap top_of c.plain-5.ensures.shape)) c.subcommand-10.ensures
