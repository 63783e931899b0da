use Rattle.std.proofs.Common.{◌-◌, take, length, ap, ◌∙◌, sym, arith}
use Rattle.rules_meaning.specs.Values.{values_of}
use Rattle.hs_eval.specs.Founds.{out_of}
use Rattle.hs_eval.specs.Evaluation.{join_right}
use Rattle.hs_eval.proofs.Steps.{one_joined, end_joined}
use Rattle.hs_eval.proofs.lists.join_onto.Goals as goal

pub links-preserved : goal.links-preserved
links-preserved c =
    let i = c.links.i - 1 in
    let h = c.in_ok-so_far-in-Some.ensures {u = tt} in
    ap (join_right (take i c.args.links.now) (values_of c.pop.new.self)) h
    ∙ (sym (one_joined c.args.links.now i c.links.i c.link_at-link.result c.links.values c.pop.new.self c.in-Some.value (out_of c.links.so_far) (omega arith) c.link_at-link.ensures c.in-Some.ensures) ∙ c.links.invariant)

pub returns : goal.returns
returns c = sym (end_joined c.args.links.now c.links.i c.links.values (out_of c.links.so_far) (omega arith) (λ e. let z = ap length e in let l = c.len.ensures in omega (arith, z, l))) ∙ c.links.invariant
