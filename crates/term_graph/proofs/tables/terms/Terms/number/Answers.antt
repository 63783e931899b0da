use Rattle.std.proofs.Common.{sym, ap, ◌∙◌, subst, slice_get, length, ◌<◌}
use Rattle.std.proofs.lemmas.Result.{IfOk-weaker}
use Rattle.std.proofs.lemmas.Option.{slice_get_within}
use Rattle.term_graph.specs.declared.tables.term.Term.{Term}
use Rattle.term_graph.specs.tables.Stacks.{stacks_of}
use Rattle.term_graph.specs.tables.Numbered.{Numbered, HasGrown, numbered}
use Rattle.term_graph.proofs.tables_lemmas.Stacked.{is_term, stand_now, grown_terms}
use Rattle.term_graph.proofs.tables.terms.Terms.number.Goals as goal

-- src/terms.rt
pub invariant_of-self : goal.invariant_of-self
invariant_of-self c =
    let t : Term = record { part = c.args.part; stack = c.args.stack } in
    (c.self.invariant.0, stand_now c.self.inside.terms c.number.new.self t (stacks_of c.self.inside.levels) c.number.ensures.adds c.self.invariant.1 (subst (λ (g : Numbered). c.args.stack < length g.stacks) (sym c.self.view_is) c.requires))

pub returns-clause-is : goal.returns-clause-is
returns-clause-is c =
    let t : Term = record { part = c.args.part; stack = c.args.stack } in
    IfOk-weaker c.number.result _ _
    (λ n is b fs e. is_term (stacks_of c.self.inside.levels) c.number.new.self n is.0 t is.1 is.2 b fs (ap (λ (g : Numbered). slice_get g.stacks c.args.stack) c.self.view_is ∙ e))
    c.number.ensures.is

pub returns-clause-there : goal.returns-clause-there
returns-clause-there c = IfOk-weaker c.number.result _ _ (λ n is. slice_get_within c.number.new.self n is.0 is.1) c.number.ensures.is

pub returns-clause-grows : goal.returns-clause-grows
returns-clause-grows c = subst (λ g. HasGrown g (numbered (stacks_of c.self.inside.levels) c.number.new.self)) c.self.view_is (grown_terms (stacks_of c.self.inside.levels) c.self.inside.terms c.number.new.self c.number.ensures.grows)
