use Rattle.std.proofs.Common.{◌≡◌, ◌++◌, ◌∷◌, [], arith}
use Rattle.conc_outcomes.proofs.finiteness_lemmas.Moves.{ends_at, back_at}
use Rattle.conc_outcomes.proofs.finiteness_lemmas.Steps.{is_empty}
use Rattle.conc_outcomes.proofs.finiteness.walking.Walk.back.Goals as goal

pub returns-in-None : goal.returns-in-None
returns-in-None c =
    let old = c.args.self.now in
    let none : old.path.items ≡ [] = is_empty old.path.items (omega (arith, c.in-None.ensures.cases.0, old.path.ok.0)) in
    ends_at c.args.moves.now old.marks.items old.path.items old.at old.place c.requires.walks c.requires.order c.requires.over none

pub returns-in-Some : goal.returns-in-Some
returns-in-Some c =
    let old = c.args.self.now in
    let last : old.path.items ≡ c.pop.new.self.items ++ c.in-Some.place ∷ [] = c.in-Some.ensures.items in
    back_at c.args.moves.now old.marks.items old.path.items old.at old.place c.requires.walks c.requires.order c.requires.over c.pop.new.self.items c.in-Some.place last _
