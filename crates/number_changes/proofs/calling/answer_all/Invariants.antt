use Rattle.std.proofs.Common.{ℕ, drop}
use Rattle.number_states.specs.Stocks.{HasGrown}
use Rattle.number_changes.proofs.Turns.{AreLeft}
use Rattle.number_changes.proofs.Calls.{meant, replies_make}
use Rattle.number_changes.proofs.calling.answer_all.Given as goal

abbrev pub invariant-loop-reply : goal.invariant-loop-reply
invariant-loop-reply l = record {
  left : (m : ℕ) → AreLeft (replies_make m) (meant l.fn.numbers l.replies) (meant l.fn.numbers (drop l.reply-index l.replies)) l.fn.numbers l.fn.state l.numbers l.state;
  grown : HasGrown l.fn.numbers l.numbers;
}
