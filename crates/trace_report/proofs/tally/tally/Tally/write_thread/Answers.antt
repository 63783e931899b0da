use Rattle.trace_report.specs.tally.Words.{word_text}
use Rattle.trace_report.specs.tally.Tallying.{thread_at}
use Rattle.trace_report.proofs.tally_lemmas.Lines.{thread_written}
use Rattle.trace_report.proofs.tally.tally.Tally.write_thread.Goals as goal

pub returns : goal.returns
returns c =
    thread_written _ _ _ _ c.args.t c.thread_counts-counts.result (thread_at c.args.self.now.threads.items c.args.t) (word_text c.args.word) c.in_ok-write_thread_head.ensures c.in_ok-write_thread_rest.ensures c.in_ok-write_word.ensures c.thread_counts-counts.ensures
