use Rattle.conc_caps.proofs.caps.run_caps.Given as goal

abbrev pub ghosts-run_lent : goal.ghosts-run_lent
ghosts-run_lent g a = record { output = g.O.Sink.told a.desk.course.out_lent.value; errors = g.E.Sink.told a.desk.course.err_lent.value; last = g.K.Clock.last a.desk.course.clocked.lent.value }
