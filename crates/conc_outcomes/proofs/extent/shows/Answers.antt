use Rattle.std.proofs.Common.{Bool, IsTrue, ◌≡◌, length, sym, subst}
use Rattle.std.proofs.lemmas.Result.{IfOk-weaker}
use Rattle.hs_base.specs.declared.tree.script.Script.{Script}
use Rattle.rules_expansion.specs.trees.Programs.{script_of}
use Rattle.rules_code.specs.declared.code.CodeBody.{CodeBody}
use Rattle.outcome_listing.specs.declared.bounds.Bounds.{Bounds}
use Rattle.number_states.specs.Stocks.{Stock, HasGrown}
use Rattle.state_search.specs.Searching.{IsCodeOf}
use Rattle.conc_outcomes.specs.walks.Entering.{IsAnother}
use Rattle.conc_outcomes.specs.Exploring.{HasGap}
use Rattle.conc_outcomes.proofs.Gaps.{another_at}
use Rattle.conc_outcomes.proofs.extent.shows.Goals as goal

-- src/extent.rt
pub returns-in-States : goal.returns-in-States
returns-in-States c =
    let bounds : Bounds = c.args.bounds.now in
    let b : CodeBody = c.args.body.now in
    let h : Stock = c.args.numbers.now in
    let w = c.args.walk.now in
    let states = c.args.states.now in
    IfOk-weaker c.shows_another.result
    (λ (yes : Bool). IsTrue yes → (length states ≡ bounds.states) × IsAnother bounds.clock h states w.state)
    (λ (yes : Bool). IsTrue yes → (g : Stock) → HasGrown g h → (script : Script) → IsCodeOf b script → HasGap bounds (script_of script) b g states c.args.cause w.history.list)
    (λ yes shows is g grown script code. let k = shows is in subst (λ why. HasGap bounds (script_of script) b g states why w.history.list) (sym c.in-States.is) (k.0, another_at bounds b h w c.requires script code g states grown k.1))
    c.shows_another.ensures
