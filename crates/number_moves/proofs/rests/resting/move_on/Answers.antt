use Rattle.std.proofs.Common.{◌≡◌, ◌≤◌, ℕ, sym, subst}
use Rattle.number_states.specs.States.{AreIn}
use Rattle.number_states.specs.Stocks.{Stock, IsTerm}
use Rattle.number_states.specs.declared.state.NumberState.{NumberState}
use Rattle.number_states.specs.declared.state.NumberThread.{NumberThread}
use Rattle.number_states.proofs.Growth.{is_term_on}
use Rattle.number_states.proofs.Changes.{becomes_same, all_at}
use Rattle.number_moves.specs.rests.Resting.{IsFree}
use Rattle.number_moves.proofs.rests_lemmas.Moving.{read_is, moved_eagerly, moved_back}
use Rattle.number_moves.proofs.rests.resting.move_on.Goals as goal

-- the term of the thread that is free is there
term_there : (g : Stock) (n : NumberState) (t term : ℕ) (free : IsFree n t) → AreIn g n → term ≡ free.thread.term → IsTerm g term
term_there g n t term free there is = subst (IsTerm g) (sym is) (all_at (λ (th : NumberThread). IsTerm g th.term) n.threads.items t free.thread there.threads free.is)

pub eager-requires-clause-there : goal.eager-requires-clause-there
eager-requires-clause-there c =
    let free = c.if-not-is_free.ensures in
    term_there c.args.numbers.now c.args.state.now c.args.thread c.index.result.now.term free c.requires.state (read_is c.args.state.now c.args.thread free c.index.result.now c.index.ensures)

pub returns-in_default-clause-moves : goal.returns-in_default-clause-moves
returns-in_default-clause-moves c = (becomes_same c.args.numbers.now c.eager.new.numbers c.args.state.now c.requires.state c.eager.ensures.grows).is c.args.body.now

pub returns-in_default-clause-there : goal.returns-in_default-clause-there
returns-in_default-clause-there c = (becomes_same c.args.numbers.now c.eager.new.numbers c.args.state.now c.requires.state c.eager.ensures.grows).there

pub move_to-requires-clause-state : goal.move_to-requires-clause-state
move_to-requires-clause-state c = (becomes_same c.args.numbers.now c.eager.new.numbers c.args.state.now c.requires.state c.eager.ensures.grows).there

pub move_to-requires-clause-term : goal.move_to-requires-clause-term
move_to-requires-clause-term c = let rule = rw c.in-Some.is at c.in_ok-to.ensures.leads in rule.goes

pub move_to-requires-then-branch-most_frames-clause-term : goal.move_to-requires-then-branch-most_frames-clause-term
move_to-requires-then-branch-most_frames-clause-term c =
    let free = c.if-not-is_free.ensures in
    let term = read_is c.args.state.now c.args.thread free c.index.result.now c.index.ensures in
    is_term_on c.args.numbers.now c.eager.new.numbers c.eager.ensures.grows c.index.result.now.term
    (term_there c.args.numbers.now c.args.state.now c.args.thread c.index.result.now.term free c.requires.state term)

pub returns-then-branch-most_frames-clause-moves : goal.returns-then-branch-most_frames-clause-moves
returns-then-branch-most_frames-clause-moves c =
    let same = becomes_same c.args.numbers.now c.eager.new.numbers c.args.state.now c.requires.state c.eager.ensures.grows in
    let free = c.if-not-is_free.ensures in
    let term = read_is c.args.state.now c.args.thread free c.index.result.now c.index.ensures in
    moved_back c.args.body.now c.args.numbers.now c.eager.new.numbers c.args.state.now c.move_to.new.self c.move_to-then-branch-most_frames.new.self c.args.thread c.index.result.now.term c.in-Some.to free term
    (c.move_to.ensures.is c.args.body.now) (c.move_to-then-branch-most_frames.ensures.is c.args.body.now) (same.is c.args.body.now)

pub returns-clause-moves : goal.returns-clause-moves
returns-clause-moves c =
    let g = c.args.numbers.now in
    let grown = c.eager.ensures.grows in
    let same = becomes_same g c.eager.new.numbers c.args.state.now c.requires.state grown in
    let free = c.if-not-is_free.ensures in
    let term = read_is c.args.state.now c.args.thread free c.index.result.now c.index.ensures in
    let rule = rw c.in-Some.is at c.in_ok-to.ensures.leads in
    moved_eagerly c.args.body.now g c.eager.new.numbers c.args.state.now c.move_to.new.self c.args.thread c.args.most_frames c.index.result.now.term c.in-Some.to free term grown
    (term_there g c.args.state.now c.args.thread c.index.result.now.term free c.requires.state term) rule (c.move_to.ensures.is c.args.body.now) (same.is c.args.body.now)
    (subst (λ n. n ≤ c.args.most_frames) (c.in_ok-used.ensures {u = tt} c.args.body.now) c.if-branch-most_frames.false)
