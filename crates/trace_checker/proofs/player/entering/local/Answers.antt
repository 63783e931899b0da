use Rattle.std.proofs.Common.{refl, arith}
use Rattle.rules_code.specs.Codes.{body_of}
use Rattle.trace_checker.proofs.player_lemmas.Asked.{local_asked}
use Rattle.trace_checker.proofs.player_lemmas.Following.{advance_tried}
use Rattle.trace_checker.proofs.player.entering.local.Goals as goal

pub returns-then-k-eq0-clause-tried : goal.returns-then-k-eq0-clause-tried
returns-then-k-eq0-clause-tried c = (λ z. refl, λ a. let some = a.4 in omega (arith, some, c.if-k-eq0.true))

pub returns-then-not-is_free-clause-tried : goal.returns-then-not-is_free-clause-tried
returns-then-not-is_free-clause-tried c =
    let b = body_of c.args.code.now in (λ z. refl, λ a. c.if-not-is_free.ensures (local_asked b c.args.world.now c.args.t c.args.k a))

pub advance-requires-clause-free : goal.advance-requires-clause-free
advance-requires-clause-free c = c.if-not-is_free.ensures

pub returns-clause-tried : goal.returns-clause-tried
returns-clause-tried c =
    advance_tried (body_of c.args.code.now) c.args.world.now c.advance.new.self c.args.t c.args.k c.if-not-is_free.ensures c.advance.result c.advance.ensures.moves c.advance.ensures.stuck
