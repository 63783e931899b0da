use Rattle.std.proofs.Common.{◌≡◌, length, suc, arith}
use Rattle.conc_outcomes.proofs.finiteness_lemmas.Moves.{go_to}
use Rattle.conc_outcomes.proofs.finiteness.walking.Walk.go.Goals as goal

pub returns-in-Ok : goal.returns-in-Ok
returns-in-Ok c =
    let old = c.args.self.now in
    let depth : c.len.result ≡ suc (length old.path.items) = omega (arith, c.len.ensures, c.in-Ok.ensures.len, old.path.ok.0) in
    go_to c.args.moves.now old.marks.items old.path.items old.at old.place c.requires.walks c.args.state c.requires.leads c.requires.new c.push.new.self.items c.in-Ok.ensures.items c.len.result depth c.first_from-self.result c.first_from-self.ensures.bound c.first_from-self.ensures.before c.first_from-self.ensures.behind
