use Rattle.std.proofs.Common.{◌≡◌, refl, sym, subst}
use Rattle.rules_code.specs.declared.code.CodeBody.{CodeBody}
use Rattle.rules_code.specs.Codes.{body_of}
use Rattle.trace_checker.proofs.player_lemmas.Following.{Stood, still_stood, none_follows, stands_on, legal_on, illegal_on}
use Rattle.trace_checker.proofs.player.player.Player.play.Goals as goal

pub returns-then-not-goes-clause-illegal : goal.returns-then-not-goes-clause-illegal
returns-then-not-goes-clause-illegal c = λ f. (record { of = refl; world = λ b. refl }, none_follows c.args.self.now c.args.entry c.if-not-goes.ensures)

pub invariant_of-self : goal.invariant_of-self
invariant_of-self c = let p = c.args.self.now in record { live = still_stood p.of.value p.world c.room.new.self c.room.ensures.state p.live }

pub enter-requires-clause-live : goal.enter-requires-clause-live
enter-requires-clause-live c =
    let p = c.args.self.now in
    subst (λ (b : CodeBody). Stood b c.room.new.self) c.requires (still_stood p.of.value p.world c.room.new.self c.room.ensures.state p.live)

pub invariant_of-self-2 : goal.invariant_of-self-2
invariant_of-self-2 c =
    let p = c.args.self.now in
    record { live = stands_on p (body_of c.args.code.now) c.requires c.room.new.self c.enter.new.world c.room.ensures.state c.args.entry c.enter.result c.enter.ensures.tried c.enter.ensures.err }

pub returns-clause-legal : goal.returns-clause-legal
returns-clause-legal c =
    legal_on c.args.self.now (body_of c.args.code.now) c.requires c.room.new.self c.enter.new.world c.room.ensures.state c.args.entry c.enter.result c.enter.ensures.tried

pub returns-clause-illegal : goal.returns-clause-illegal
returns-clause-illegal c =
    illegal_on c.args.self.now (body_of c.args.code.now) c.requires c.room.new.self c.enter.new.world c.room.ensures.state c.args.entry _ (λ same. record { of = refl; world = same }) c.enter.result c.enter.ensures.tried
