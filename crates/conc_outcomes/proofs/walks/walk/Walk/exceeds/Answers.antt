use Rattle.std.proofs.Common.{Option, Some, None, MatchOption}
use Rattle.std.proofs.lemmas.Result.{IfOk-weaker}
use Rattle.hs_rules.specs.declared.entry.LimitKind.{LimitKind}
use Rattle.rules_code.specs.declared.code.CodeBody.{CodeBody}
use Rattle.outcome_listing.specs.declared.bounds.Bounds.{Bounds}
use Rattle.number_states.specs.Stocks.{Stock}
use Rattle.number_states.specs.States.{slots}
use Rattle.search_laws.specs.Shown.{FitsIn}
use Rattle.state_search.specs.Searching.{ExceedsFirst}
use Rattle.conc_outcomes.specs.declared.walks.walk.Walk.{Walk}
use Rattle.conc_outcomes.specs.walks.Entering.{IsAt, IsWithin, Exceeds}
use Rattle.conc_outcomes.proofs.walks_lemmas.Judged.{within_at, exceeds_at}
use Rattle.conc_outcomes.proofs.walks.walk.Walk.exceeds.Goals as goal

-- what is found of the state is so of the walk
module _ (bounds : Bounds) (b : CodeBody) (g : Stock) (w : Walk) (at : IsAt bounds b g w) where
  abbrev Found : Option LimitKind → Type 0
  Found o = (c : CodeBody) → MatchOption o (FitsIn bounds.limits (slots g c w.state)) (λ kind. ExceedsFirst kind bounds.limits (slots g c w.state))

  abbrev Told : Option LimitKind → Type 0
  Told o = MatchOption o (IsWithin bounds b w) (λ kind. Exceeds bounds b w kind)

  told : (o : Option LimitKind) → Found o → Told o
  told None h = within_at bounds b g w at (h b)
  told (Some kind) h = exceeds_at bounds b g w at kind (h b)

-- src/judging.rt
pub returns : goal.returns
returns c =
    let bounds : Bounds = c.args.bounds.now in
    let b : CodeBody = c.args.body.now in
    let g : Stock = c.args.numbers.now in
    let w : Walk = c.args.self.now in
    IfOk-weaker c.exceeded.result (Found bounds b g w c.requires) (Told bounds b g w c.requires) (told bounds b g w c.requires) c.exceeded.ensures
