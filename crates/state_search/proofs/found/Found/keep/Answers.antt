use Rattle.state_search.proofs.Keeping.{kept_known, noted_so, barred}
use Rattle.state_search.proofs.found.Found.keep.Goals as goal

-- src/going.rt
pub returns-in-Some-2-clause-kept : goal.returns-in-Some-2-clause-kept
returns-in-Some-2-clause-kept c = λ b. kept_known b c.args.self.now c.args.state c.in-Some-2.number (rw c.in-Some-2.is at c.in_ok-number-2.ensures)

pub returns-clause-going : goal.returns-clause-going
returns-clause-going c =
    let why = rw c.in-Some.is at c.bar.ensures in
    λ b n within going comes.
    noted_so c.args.bounds.now b n c.args.self.now c.note.new.self c.note.ensures.same going c.note.ensures.gap
    (c.note.ensures.shows b c.args.bounds.now going.searched (barred c.args.bounds.now b c.args.self.now c.args.state c.args.by c.in-Some.cause going.searched comes why))
