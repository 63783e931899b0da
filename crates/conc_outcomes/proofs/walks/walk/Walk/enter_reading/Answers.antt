use Rattle.std.proofs.Common.{Result, Ok, Err, OnOk}
use Rattle.conc_outcomes.proofs.walks_lemmas.Judged.{reads_at}
use Rattle.conc_outcomes.proofs.walks.walk.Walk.enter_reading.Goals as goal

-- from what holds where a call succeeds
on_both : {T E P Q R : Type 0} (r : Result T E) → (P → Q → R) → OnOk r P → OnOk r Q → OnOk r R
on_both (Ok x) f p q = f p q
on_both (Err e) f p q = tt

-- src/judging.rt
pub returns-clause-reads : goal.returns-clause-reads
returns-clause-reads c =
    on_both c.enter.result
    (λ at list. reads_at c.args.bounds.now c.args.body.now c.args.numbers.now c.args.self.now c.requires c.if-not-self.false c.enter.new.numbers c.enter.new.self c.args.entry at list (c.if-not-reads_time.ensures {u = tt} c.args.body.now))
    c.enter.ensures.at c.enter.ensures.history
