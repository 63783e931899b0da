use Rattle.std.proofs.Common.{◌+◌, slice_get, ap, ◌∙◌, subst, refl, arith}
use Rattle.std.proofs.lemmas.Option.{slice_get_within}
use Rattle.term_graph.specs.declared.tables.level.Level.{Level}
use Rattle.term_graph.specs.tables.Stacks.{stacks_of}
use Rattle.term_graph.specs.tables.Numbered.{Numbered, numbered, HasGrown}
use Rattle.term_graph.proofs.tables_lemmas.Stacked.{stacks_length, stacks_grow, measured_now, measured_level, is_pushed, stand_more, length_now, grown_stacks}
use Rattle.term_graph.proofs.tables.terms.Terms.push.Goals as goal

-- src/terms.rt
pub invariant_of-self : goal.invariant_of-self
invariant_of-self c =
    let ls = c.self.inside.levels in
    let ns = c.number.new.self in
    let level : Level = record { frame = c.args.frame; outer = c.args.outer; mask = c.inside-mask.result; depth = c.depth-inner.result + 1 } in
    let measured = measured_level ls c.args.self.now (ap (λ (g : Numbered). g.stacks) c.self.view_is) level c.requires (λ fs e. c.inside-mask.ensures fs (c.mask.ensures fs e)) (λ fs e. ap (λ n. n + 1) (c.depth-inner.ensures fs e)) in
    let all = measured_now ls ns level c.number.ensures.adds c.self.invariant.0 measured in
    (all, stand_more c.self.inside.terms (stacks_of ls) (stacks_of ns) (stacks_grow ls ns level c.number.ensures.adds) c.self.invariant.1)

pub overflow_add-result : goal.overflow_add-result
overflow_add-result c =
    let ls = c.self.inside.levels in
    let ns = c.number.new.self in
    let level : Level = record { frame = c.args.frame; outer = c.args.outer; mask = c.inside-mask.result; depth = c.depth-inner.result + 1 } in
    let is = c.in_ok-number.ensures.is in
    let h = slice_get_within ns c.in_ok-number.number is.0 is.1 in
    let k = length_now ls ns level c.number.ensures.adds in
    omega (arith, h, k, c.if-len.false, c.len.ensures)

pub invariant_of-self-2 : goal.invariant_of-self-2
invariant_of-self-2 c =
    let ls = c.self.inside.levels in
    let ns = c.number.new.self in
    let level : Level = record { frame = c.args.frame; outer = c.args.outer; mask = c.inside-mask.result; depth = c.depth-inner.result + 1 } in
    let measured = measured_level ls c.args.self.now (ap (λ (g : Numbered). g.stacks) c.self.view_is) level c.requires (λ fs e. c.inside-mask.ensures fs (c.mask.ensures fs e)) (λ fs e. ap (λ n. n + 1) (c.depth-inner.ensures fs e)) in
    let all = measured_now ls ns level c.number.ensures.adds c.self.invariant.0 measured in
    (all, stand_more c.self.inside.terms (stacks_of ls) (stacks_of ns) (stacks_grow ls ns level c.number.ensures.adds) c.self.invariant.1)

pub returns-clause-is : goal.returns-clause-is
returns-clause-is c = λ b fs e.
    let ls = c.self.inside.levels in
    let ns = c.number.new.self in
    let level : Level = record { frame = c.args.frame; outer = c.args.outer; mask = c.inside-mask.result; depth = c.depth-inner.result + 1 } in
    let measured = measured_level ls c.args.self.now (ap (λ (g : Numbered). g.stacks) c.self.view_is) level c.requires (λ fs e. c.inside-mask.ensures fs (c.mask.ensures fs e)) (λ fs e. ap (λ n. n + 1) (c.depth-inner.ensures fs e)) in
    let all = measured_now ls ns level c.number.ensures.adds c.self.invariant.0 measured in
    let is = c.in_ok-number.ensures.is in
    is_pushed ls ns level is.0 c.in_ok-number.number (numbered (stacks_of ns) c.self.inside.terms) refl all (stacks_grow ls ns level c.number.ensures.adds) is.1 is.2 b fs
    (ap (λ (g : Numbered). slice_get g.stacks c.args.outer) c.self.view_is ∙ e)

pub returns-clause-there : goal.returns-clause-there
returns-clause-there c =
    let is = c.in_ok-number.ensures.is in
    let h = slice_get_within c.number.new.self c.in_ok-number.number is.0 is.1 in
    let k = stacks_length c.number.new.self in
    omega (arith, h, k)

pub returns-clause-grows : goal.returns-clause-grows
returns-clause-grows c =
    let ls = c.self.inside.levels in
    let ns = c.number.new.self in
    let level : Level = record { frame = c.args.frame; outer = c.args.outer; mask = c.inside-mask.result; depth = c.depth-inner.result + 1 } in
    subst (λ g. HasGrown g (numbered (stacks_of ns) c.self.inside.terms)) c.self.view_is
    (grown_stacks (stacks_of ls) (stacks_of ns) c.self.inside.terms (stacks_grow ls ns level c.number.ensures.adds))
