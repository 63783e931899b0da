use Rattle.std.proofs.Common.{◌≡◌, Some, ap, ◌∙◌}
use Rattle.std.proofs.lemmas.Result.{IfOk-weaker}
use Rattle.rules_code.specs.declared.code.CodeBody.{CodeBody}
use Rattle.term_graph.specs.tables.Numbered.{term_in}
use Rattle.number_states.specs.Stocks.{Stock, term_at, or_bare}
use Rattle.number_states.proofs.Stacked.{both_ok, term_there}
use Rattle.number_states.proofs.numbers.Numbers.forked.Goals as goal

-- src/terms.rt
pub returns-clause-is : goal.returns-clause-is
returns-clause-is c =
    let now = c.args.self.now in
    let old : (b : CodeBody) → term_in c.self.inside.terms b c.args.parent ≡ Some (term_at now b c.args.parent) = λ b. ap (λ (g : Stock). term_in g.terms b c.args.parent) c.self.view_is ∙ term_there now b c.args.parent c.requires in
    IfOk-weaker c.forked.result _ _ (λ n is b. ap or_bare (is b (term_at now b c.args.parent) (old b))) c.forked.ensures.is

pub returns-clause-there : goal.returns-clause-there
returns-clause-there c =
    let now = c.args.self.now in
    let old : (b : CodeBody) → term_in c.self.inside.terms b c.args.parent ≡ Some (term_at now b c.args.parent) = λ b. ap (λ (g : Stock). term_in g.terms b c.args.parent) c.self.view_is ∙ term_there now b c.args.parent c.requires in
    both_ok _ _ _ (λ n is t. record { there = t; term = λ b. (_, is b (term_at now b c.args.parent) (old b)) }) c.forked.result c.forked.ensures.is c.forked.ensures.there
