use Rattle.std.proofs.Common.{◌-◌, All, length, sym, subst}
use Rattle.std.proofs.lemmas.List.Elements.{All-take, All-drop}
use Rattle.conc_hands.specs.Hands.{IsHandOf}
use Rattle.conc_hands.specs.Lists.{hands_in}
use Rattle.caps_loop.proofs.halves.cut_list.Goals as goal

pub returns-in-Ok-clause-first : goal.returns-in-Ok-clause-first
returns-in-Ok-clause-first g c = λ h all. let xs = hands_in c.args.list in subst (All (IsHandOf h)) (sym c.in-Ok.ensures.kept) (All-take (IsHandOf h) (length xs - c.args.count) xs all)

pub returns-in-Ok-clause-last : goal.returns-in-Ok-clause-last
returns-in-Ok-clause-last g c = λ h all. let xs = hands_in c.args.list in subst (All (IsHandOf h)) (sym c.in-Ok.ensures.moved) (All-drop (IsHandOf h) (length xs - c.args.count) xs all)

pub returns-in-Err-clause-first : goal.returns-in-Err-clause-first
returns-in-Err-clause-first g c = λ h all. subst (λ l. All (IsHandOf h) (hands_in l)) (sym c.in-Err.ensures.err) all
