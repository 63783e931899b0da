use Rattle.conc_top.proofs.asking.answer.Goals as goal

pub returns-in-Err : goal.returns-in-Err
returns-in-Err c = (c.in-Err.fault, c.unfound.ensures, c.in-Err.ensures)
