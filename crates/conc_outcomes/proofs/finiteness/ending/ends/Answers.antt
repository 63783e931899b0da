use Rattle.std.proofs.Common.{IfOk, map, length, sym, subst}
use Rattle.state_search.specs.Meaning.{edge_of}
use Rattle.conc_outcomes.specs.finiteness.Walks.{AreWithin, Judges}
use Rattle.conc_outcomes.proofs.finiteness_lemmas.Judging.{moves_within, right_of_all}
use Rattle.conc_outcomes.proofs.finiteness.ending.ends.Goals as goal

pub find_round-requires-clause-within : goal.find_round-requires-clause-within
find_round-requires-clause-within c =
    let f = c.args.found.now in
    let at_list = moves_within c.requires.0 c.requires.1 f c.requires.2 in
    let at_slice = subst (λ ms. AreWithin (length f.states) (map edge_of ms)) (sym c.deref.ensures.value) at_list in
    subst (λ n. AreWithin n (map edge_of c.deref.result.now)) (sym c.len-count.ensures) at_slice

pub returns : goal.returns
returns c =
    let f = c.args.found.now in
    let judged = subst (λ ms. IfOk c.find_round.result (λ e. Judges (map edge_of ms) e)) c.deref.ensures.value c.find_round.ensures in
    right_of_all f c.find_round.result judged
