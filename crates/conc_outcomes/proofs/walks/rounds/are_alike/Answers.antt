use Rattle.std.proofs.Common.{◌≡◌, ap, sym, ◌∙◌}
use Rattle.std.proofs.lemmas.Slice.Eq.{bytes_eq-Decides}
use Rattle.hs_base.specs.declared.clock_choice.ClockChoice.{ClockChoice}
use Rattle.rules_code.specs.declared.code.CodeBody.{CodeBody}
use Rattle.number_states.specs.Stocks.{Stock, text_at}
use Rattle.number_states.specs.States.{Contents, Becomes, contents, slots_of}
use Rattle.number_states.specs.declared.state.NumberState.{NumberState}
use Rattle.number_states.proofs.Exact.{exact_contents}
use Rattle.search_laws.specs.Shown.{forget}
use Rattle.conc_outcomes.specs.walks.Entering.{AreAlike}
use Rattle.conc_outcomes.proofs.walks.rounds.are_alike.Goals as goal

-- states that become the same but for what is forgotten are alike
alike_by : (clock : ClockChoice) (b : CodeBody) (g : Stock) (one other x y : NumberState) → Becomes (λ c. forget clock) g one g x → Becomes (λ c. forget clock) g other g y → contents x ≡ contents y → AreAlike clock b g one other
alike_by clock b g one other x y p q same = (
  sym (p.is b) ∙ (ap (slots_of g b) same ∙ q.is b),
  ap (text_at g) (sym p.output ∙ (ap (λ (k : Contents). k.output) same ∙ q.output)),
  ap (text_at g) (sym p.errors ∙ (ap (λ (k : Contents). k.errors) same ∙ q.errors)),
)

-- src/rounds.rt
pub returns : goal.returns
returns c = λ yes b.
    let p = c.in_ok-key_in.ensures {u = tt} in
    let q = c.in_ok-key_in-2.ensures {u = tt} in
    let keys = (bytes_eq-Decides c.in_ok-key_in.field-0.items c.in_ok-key_in-2.field-0.items).0 (sym c.eq.ensures ∙ yes) in
    alike_by c.args.clock b c.args.numbers.now c.args.one.now c.args.other.now p.0 q.0 p.1 q.1 (exact_contents (contents p.0) (contents q.0) (sym p.2 ∙ (keys ∙ q.2)))
