use Rattle.conc_world.proofs.Closing.{run_of}
use Rattle.conc_world.proofs.desk.Desk.close.Goals as goal

pub returns-clause-run : goal.returns-clause-run
returns-clause-run g c =
    let k = c.args.self.course in
    let O = g.O.Sink in
    let E = g.E.Sink in
    let K = g.K.Clock in
    run_of k.clocked.«record» k.end (K.choice k.clocked.lent.value)
    (record {
      output = O.told k.out_lent.value;
      errors = E.told k.err_lent.value;
      out_faults = O.faults k.out_lent.value;
      err_faults = E.faults k.err_lent.value;
      last = K.last k.clocked.lent.value;
      early = K.early_waits k.clocked.lent.value;
    })
    (record {
      output = O.told k.out;
      errors = E.told k.err;
      out_faults = O.faults k.out;
      err_faults = E.faults k.err;
      last = K.last k.clocked.clock;
      early = K.early_waits k.clocked.clock;
    })
    k.clocked.time k.ended k.clocked.ticks k.told k.calm
