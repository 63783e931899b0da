use Rattle.std.proofs.Common.{◌++◌, ◌∷◌, ◌+◌, [], sym, ap, ◌∙◌, subst, arith}
use Rattle.hs_rules.specs.declared.entry.Entry.TheVariants as entry
use Rattle.local_steps.specs.Machine.{funs_of}
use Rattle.number_states.specs.States.{slots}
use Rattle.number_states.proofs.Growth.{stock_on}
use Rattle.number_moves.specs.rests.Resting.{Rests, MovesOn}
use Rattle.number_moves.proofs.rests_lemmas.Moving.{rests_more}
use Rattle.number_moves.proofs.rests.resting.rest.Goals as goal

pub moves-preserved-then-branch : goal.moves-preserved-then-branch
moves-preserved-then-branch c =
    let m = c.in_ok-move_on.ensures {u = tt} in
    let i = c.moves.invariant in
    let funs = funs_of c.args.body.now in
    let x = slots c.args.numbers.now c.args.body.now c.args.state.now in
    let y = slots c.moves.numbers c.args.body.now c.moves.state in
    let z = slots c.move_on.new.numbers c.args.body.now c.move_on.new.state in
    let done = subst (λ d. MovesOn funs c.args.most_frames c.moves.thread y z d) c.if-branch.true m.moves in
    let more = rests_more funs c.args.most_frames c.moves.count c.args.locals.now.items c.moves.locals.items x y z c.moves.thread i.rests done in
    let reserved = (c.in_ok-reserve.ensures {u = tt}).items in
    record {
      rests = subst (λ es. Rests funs c.args.most_frames (c.moves.count + 1) c.args.locals.now.items es x z) (sym (c.push_reserved.ensures.items ∙ ap (λ es. es ++ entry.Local c.moves.thread 1 ∷ []) reserved)) more;
      few = omega arith;
      output = m.output ∙ i.output;
      errors = m.errors ∙ i.errors;
      there = m.there;
      rules = m.rules;
      grows = stock_on c.args.numbers.now c.moves.numbers c.move_on.new.numbers i.grows m.grows;
    }
