use Rattle.std.proofs.Common.{◌+◌, drop, get_or, ap, ◌∙◌, sym}
use Rattle.rules_typing.specs.Typing.{is, is_each}
use Rattle.typing_judge.specs.Least.{least}
use Rattle.typing_table.specs.Meaning.{type_in}
use Rattle.typing_table.specs.declared.ty.TypeTerm.TheVariants as t
use Rattle.typing_parts.specs.Views.{place_types, tys_of}
use Rattle.typing_parts.specs.Judged.{all_met, kept, unmet}
use Rattle.typing_parts.proofs.Arguments.{each_more, each_end, all_stop, all_go}
use Rattle.typing_parts.proofs.checker.Checker.each_is.Goals as goal

pub returns-in-None : goal.returns-in-None
returns-in-None c =
    let ms = c.args.types.now.nodes in
    let e = each_end ms (place_types ms (drop c.each.i c.args.params.now)) c.args.us.now c.each.i c.in-None.ensures.lookup.3 in record {
      scope = c.each.invariant.scope;
      holds = sym (ap all_met e) ∙ c.each.invariant.holds;
      faults = sym (ap (λ z. least (kept c.args.types.now.nodes c.each.self) (unmet c.args.p z)) e) ∙ c.each.invariant.faults;
    }

pub returns-then-not-branch : goal.returns-then-not-branch
returns-then-not-branch c =
    let ms = c.args.types.now.nodes in
    let ps = c.args.params.now in
    let us = c.args.us.now in
    let rest = is_each (place_types ms (drop (c.each.i + 1) ps)) (tys_of ms (drop (c.each.i + 1) us)) in
    let e = each_more ms ps us c.each.i c.in-Some.u.now c.each-test.true c.in-Some.ensures.lookup.3.0 c.in-Some.ensures.lookup.1 in
    all_stop ms c.args.self.now c.each.self c.is.new.self c.in_ok-is-in-Some.field-0 c.args.p (is (type_in ms (t.Known (get_or ps c.each.i 0))) (type_in ms c.in-Some.u.now)) rest (is_each (place_types ms ps) (tys_of ms us))
    c.if-not-branch.true c.in_ok-is-in-Some.ensures c.each.invariant.scope (sym (ap all_met e) ∙ c.each.invariant.holds) (sym (ap (λ z. least (kept c.args.types.now.nodes c.each.self) (unmet c.args.p z)) e) ∙ c.each.invariant.faults)

pub each-preserved : goal.each-preserved
each-preserved c =
    let ms = c.args.types.now.nodes in
    let ps = c.args.params.now in
    let us = c.args.us.now in
    let rest = is_each (place_types ms (drop (c.each.i + 1) ps)) (tys_of ms (drop (c.each.i + 1) us)) in
    let e = each_more ms ps us c.each.i c.in-Some.u.now c.each-test.true c.in-Some.ensures.lookup.3.0 c.in-Some.ensures.lookup.1 in
    let r = all_go ms c.args.self.now c.each.self c.is.new.self c.in_ok-is-in-Some.field-0 c.args.p (is (type_in ms (t.Known (get_or ps c.each.i 0))) (type_in ms c.in-Some.u.now)) rest (is_each (place_types ms ps) (tys_of ms us))
    c.if-not-branch.false c.in_ok-is-in-Some.ensures (sym (ap all_met e) ∙ c.each.invariant.holds) (sym (ap (λ z. least (kept c.args.types.now.nodes c.each.self) (unmet c.args.p z)) e) ∙ c.each.invariant.faults) in
    record { scope = c.in_ok-is-in-Some.ensures.scope ∙ c.each.invariant.scope; holds = r.0; faults = r.1 }
