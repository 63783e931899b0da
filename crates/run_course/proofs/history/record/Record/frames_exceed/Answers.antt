use Rattle.std.proofs.Common.{arith}
use Rattle.std.proofs.lemmas.Bool.{ltb-true, ltb-false}
use Rattle.run_course.proofs.history_lemmas.Exceeding.{slice_exceeds, slice_fits_in}
use Rattle.run_course.proofs.history.record.Record.frames_exceed.Goals as goal

pub returns-clause-yes : goal.returns-clause-yes
returns-clause-yes c e =
    let lt = ltb-true _ _ e in
    slice_exceeds c.args.self.now c.requires.goes c.args.slice.now c.requires.code c.requires.starts c.requires.fuel (omega (arith, lt))

pub returns-clause-no : goal.returns-clause-no
returns-clause-no c e =
    let le = ltb-false _ _ e in
    slice_fits_in c.args.self.now c.requires.goes c.args.slice.now c.requires.code c.requires.starts (omega (arith, le))
