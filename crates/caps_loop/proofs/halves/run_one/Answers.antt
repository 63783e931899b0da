use Rattle.std.proofs.Common.{All, subst}
use Rattle.std.proofs.lemmas.List.Elements.{All-head}
use Rattle.plain_laws.proofs.Options.{said_of}
use Rattle.conc_hands.specs.Hands.{IsHandOf}
use Rattle.caps_loop.proofs.halves.run_one.Goals as goal

pub work-seat-requires-clause-hand : goal.work-seat-requires-clause-hand
work-seat-requires-clause-hand g c =
    let hands = c.args.shared.now.hands.now in
    All-head (IsHandOf hands) c.unwrap-hand.result _ (subst (All (IsHandOf hands)) (said_of _ _ c.take.result c.unwrap-hand.result c.unwrap-hand.ensures c.take.ensures).0 c.requires.list)
