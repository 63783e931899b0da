use Rattle.std.proofs.Common.{◌≡◌, true, false, sym, ◌∙◌}
use Rattle.conc_outcomes.proofs.walks_lemmas.Tried.{not_tick, works_there}
use Rattle.conc_outcomes.proofs.walks.rounds.works.Goals as goal
use Rattle.conc_outcomes.proofs.walks.rounds.works.Goals.{in-Tick, in_default-matches}

-- src/rounds.rt
pub returns-then-not-matches : goal.returns-then-not-matches
returns-then-not-matches c = λ yes.
    let at = sym c.at.ensures.entry ∙ c.in-Some.is in
    elim c.match-matches.branch [
      | in-Tick w ↦ let e : true ≡ false = sym w.matches-is ∙ c.if-not-matches.true in absurd (cc e)
      | in_default-matches w ↦ works_there c.args.history.now.list c.loop-place.place c.in-Some.entry at (not_tick c.in-Some.entry w.in_default-matches.not-Tick)
    ]
