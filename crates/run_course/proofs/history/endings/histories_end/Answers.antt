use Rattle.std.proofs.Math.Logic.{∥∥₁_map}
use Rattle.run_course.proofs.history_lemmas.HowItEnds.{done_ends, uncaught_ends, act_spends, goer_spends, sleeper_spends, stuck_ends}
use Rattle.run_course.proofs.history.endings.histories_end.Goals as goal

pub returns-clause-done : goal.returns-clause-done
returns-clause-done c = done_ends

pub returns-clause-uncaught : goal.returns-clause-uncaught
returns-clause-uncaught c = uncaught_ends

pub returns-clause-deadlock : goal.returns-clause-deadlock
returns-clause-deadlock c = λ r h. ∥∥₁_map r.after (λ l. stuck_ends r.of.value r.history.list r.world l h.0 r.fuel h.1 h.2 (h.3 r.of.value))

pub returns-clause-fuel_act : goal.returns-clause-fuel_act
returns-clause-fuel_act c = λ r a h. λ e. ∥∥₁_map r.after (λ l. act_spends r.of.value r.history.list r.world l h.0 r.fuel a h.1 e)

pub returns-clause-fuel_goes : goal.returns-clause-fuel_goes
returns-clause-fuel_goes c = λ r h e. ∥∥₁_map r.after (λ l. goer_spends r.of.value r.history.list r.world l h.0 r.fuel h.2.0 (h.2.1 r.of.value) e)

pub returns-clause-fuel_sleeps : goal.returns-clause-fuel_sleeps
returns-clause-fuel_sleeps c = λ r h e. ∥∥₁_map r.after (λ l. sleeper_spends r.of.value r.history.list r.world l h.1.0 r.fuel h.0 h.1.2 e)
