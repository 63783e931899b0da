use Rattle.number_states.proofs.Growth.{stock_on}
use Rattle.number_changes.proofs.Calls.{reply_step, replies_end}
use Rattle.number_changes.proofs.calling.answer_all.Goals as goal

-- src/calling.rt
pub answer-requires : goal.answer-requires
answer-requires c = (c.loop-reply.invariant.left 0).there

pub loop-reply-preserved : goal.loop-reply-preserved
loop-reply-preserved c =
    let g = c.args.numbers.now in
    let x = c.args.state.now in
    let h = c.loop-reply.numbers in
    let j = c.answer.new.numbers in
    record {
      left = λ m. reply_step m g x c.args.replies.now h c.loop-reply.state c.loop-reply.reply-index _ j c.answer.new.self _ c.requires.replies c.loop-reply-test.true (c.in_ok-value.ensures m) (c.loop-reply.invariant.left m)
          c.in_ok-answer.ensures.is c.in_ok-answer.ensures.grows;
      grown = stock_on g h j c.loop-reply.invariant.grown c.in_ok-answer.ensures.grows;
    }

pub returns-clause-is : goal.returns-clause-is
returns-clause-is c = λ m. replies_end m c.args.numbers.now c.args.state.now c.args.replies.now c.loop-reply.numbers c.loop-reply.state c.loop-reply.reply-index c.loop-reply-test.false (c.loop-reply.invariant.left m)
