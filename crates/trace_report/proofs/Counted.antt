-- The counts beside a walk that has gone along some lines.
use Rattle.std.proofs.Math.Logic.{∥∥₁_elim, ∥∥₁_prop, ∥∥₁_map}
use Rattle.std.proofs.Common.{◌≡◌, ℕ, ◌+◌, ◌≤◌, List, [], ◌∷◌, ◌++◌, Bool, length, ap, ◌∙◌, subst, arith}
use Rattle.hs_rules.specs.declared.entry.Entry.{Entry}
use Rattle.hs_rules.specs.Histories.{cost_of, steps_of}
use Rattle.hs_rules.proofs.Histories.{steps_of_last}
use Rattle.hs_rules.specs.Entries.{Leads}
use Rattle.hs_laws.proofs.RunParts.{is_after, same_after}
use Rattle.rules_code.specs.declared.code.CodeBody.{CodeBody}
use Rattle.rules_meaning.specs.CoreMeaning.{code_of}
use Rattle.rules_expansion.specs.trees.Programs.{Fn, script_of}
use Rattle.trace_text.specs.spelling.Traces.{Spells}
use Rattle.world_entries.specs.Worlds.{Live}
use Rattle.trace_checker.specs.declared.walk.Walk.{Walk}
use Rattle.trace_checker.specs.Checking.{TellsOfRun}
use Rattle.trace_checker.specs.Walking.{Stands, WalkedTo, HasRead}
use Rattle.trace_checker.proofs.Parts.{last_leads}
use Rattle.trace_report.specs.declared.tally.counts.Seen.{Seen}
use Rattle.trace_report.specs.declared.tally.touch.Touch.{Touch}
use Rattle.trace_report.specs.declared.tally.tally.Tally.{Tally}
use Rattle.trace_report.specs.tally.Reporting.{lines_below, report_of}
use Rattle.trace_report.specs.tally.Tallying.{Tallies, IsWithin, IsCounted}
use Rattle.trace_report.proofs.tally_lemmas.Tallied.{tallied}
use Rattle.trace_report.specs.Looking.{before_of, seen_of, thread_text, cell_text}
use Rattle.trace_report.proofs.Seeing.{entry_seen}
use Rattle.trace_report.proofs.Written.{written}

-- the walk stands behind some entries, and the counts are those of these
pub record Counts (b : CodeBody) (text : List ℕ) (w : Walk) (y : Tally) : Type 0 where
  pub list : List Entry
  pub far : WalkedTo b text list w
  pub tallies : ∥ Tallies (script_of b.of.value) list y ∥₁
  pub within : IsWithin y
  pub steps : y.steps ≡ steps_of list

module _ (b : CodeBody) (text : List ℕ) where
  abbrev ds : List Fn
  ds = script_of b.of.value

  live : (es read : List Entry) (w : Walk) → Stands b text es read w → ∥ Live b es w.player.world ∥₁
  live es read w h = subst (λ (z : CodeBody). ∥ Live z es w.player.world ∥₁) h.of h.played

  pub counts_begun : (w : Walk) (y : Tally) → WalkedTo b text [] w → ((fs : List Fn) → Tallies fs [] y) → IsWithin y → Counts b text w y
  counts_begun w y begun first within = record {
    list = [];
    far = begun;
    tallies = ∣ first ds ∣₁;
    within = within;
    steps = (first ds).steps;
  }

  pub reported : (es : List Entry) (w : Walk) (y : Tally) (txt : List ℕ) → WalkedTo b text es w → Spells text es → ∥ Tallies ds es y ∥₁
      → txt ≡ lines_below (thread_text y w.player.world) (length w.player.world.threads.list.items) ++ lines_below (cell_text y w.player.world) (length w.player.world.cells.cells)
      → TellsOfRun report_of ds text txt
  reported es w y txt h spells counted is =
      let within = w.within in
      let steps = h.steps in
      ∥∥₁_elim (live es es w h) ∥∥₁_prop (λ l. ∥∥₁_map counted (λ k. (
        es,
        l.state,
        spells,
        record { run = l.run; within = omega (arith, within, steps) },
        is ∙ written ds b w.player.world es l.state y l.run l.represents k,
      )))

  -- an entry was read by the one walk, and played by the other
  module _ (es : List Entry) (y : Tally) (e : Entry) (w q : Walk) (read : HasRead b text es e w) (on : WalkedTo b text (es ++ e ∷ []) q) (counted : ∥ Tallies ds es y ∥₁) (same : y.steps ≡ steps_of es) where
    pub few : y.steps + cost_of e ≤ 4000000
    few =
        let last = steps_of_last es e in
        let new = on.steps in
        let within = q.within in
        omega (arith, last, new, within, same)

    module _ (z : Tally) (seen : Seen) (before : Touch × Bool) where
      tallies_on : before ≡ before_of e w.player.world → seen ≡ seen_of e before q.player.world → IsCounted e seen y z → ∥ Tallies ds (es ++ e ∷ []) z ∥₁
      tallies_on first then_ adds =
          ∥∥₁_elim (live es (es ++ e ∷ []) w read) ∥∥₁_prop (λ l. ∥∥₁_elim (live (es ++ e ∷ []) (es ++ e ∷ []) q on) ∥∥₁_prop (λ m. ∥∥₁_map counted (λ k.
          let last = last_leads ds es e m.state m.run in
          let at = same_after ds es last.before l.state last.run (is_after ds es l.state l.run) in
          let leads : Leads (code_of ds) l.state e m.state = subst (λ x. Leads (code_of ds) x e m.state) at last.leads in
          let is : seen ≡ seen_of e (before_of e w.player.world) q.player.world = then_ ∙ ap (λ x. seen_of e x q.player.world) first in
          tallied ds es l.state m.state e (seen_of e (before_of e w.player.world) q.player.world) y z l.run leads (entry_seen ds b w.player.world q.player.world es l.state m.state l.run l.represents m.represents e leads) k
          (subst (λ x. IsCounted e x y z) is adds))))

      pub counts_on : before ≡ before_of e w.player.world → seen ≡ seen_of e before q.player.world → IsCounted e seen y z → IsWithin z → Counts b text q z
      counts_on first then_ adds within = record {
        list = es ++ e ∷ [];
        far = on;
        tallies = tallies_on first then_ adds;
        within = within;
        steps =
            let sum = adds.steps in
            let last = steps_of_last es e in
            omega (arith, sum, last, same);
      }
