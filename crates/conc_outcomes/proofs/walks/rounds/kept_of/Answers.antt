use Rattle.std.proofs.Common.{ap, ◌∙◌}
use Rattle.number_states.specs.Stocks.{Stock}
use Rattle.number_states.specs.States.{Contents, slots_of}
use Rattle.search_laws.specs.Shown.{forget}
use Rattle.conc_outcomes.proofs.walks.rounds.kept_of.Goals as goal

-- src/rounds.rt
pub returns : goal.returns
returns c =
    let g : Stock = c.args.numbers.now in
    let same = c.in_ok-copy.ensures in
    let f = c.forget_time.ensures in
    record {
      is = λ b. f.is b ∙ ap (λ (k : Contents). forget c.args.clock (slots_of g b k)) same;
      there = f.there;
      output = f.output ∙ ap (λ (k : Contents). k.output) same;
      errors = f.errors ∙ ap (λ (k : Contents). k.errors) same;
    }
