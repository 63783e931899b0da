use Rattle.std.proofs.Common.{◌≡◌, true, false, sym, ap, ◌∙◌}
use Rattle.std.proofs.Props.{props}
use Rattle.std.proofs.Math.Logic.{∥∥₁_elim}
use Rattle.hs_rules.specs.declared.entry.Entry.TheVariants as entry
use Rattle.slot_states.specs.SlotStates.{SlotState}
use Rattle.run_course.proofs.history_lemmas.Resting.{rest_alike}
use Rattle.trace_checker.proofs.player_lemmas.Asked.{strand_asked, strand_can, not_then}
use Rattle.trace_checker.proofs.player_lemmas.Following.{still_lives, makes_from}
use Rattle.trace_checker.proofs.player.entering.strand.Goals as goal

pub returns-then-not-is_strand-clause-tried : goal.returns-then-not-is_strand-clause-tried
returns-then-not-is_strand-clause-tried c b =
    let now = c.next_of.new.world in (
      c.next_of.ensures.same,
      not_then b entry.Stranded c.args.world.now now c.next_of.ensures.same (λ a.
          let z : false ≡ true = sym c.if-not-is_strand.true ∙ (c.is_strand.ensures ∙ strand_asked b now c.next_of.result c.next_of.ensures.next a) in cc z),
    )

pub strand-requires-clause-live : goal.strand-requires-clause-live
strand-requires-clause-live c = still_lives c.args.world.now c.room.new.self (λ b. c.room.ensures.state b ∙ c.next_of.ensures.same b) c.requires.live

pub strand-requires-clause-rest : goal.strand-requires-clause-rest
strand-requires-clause-rest c =
    let can = strand_can c.next_of.new.world c.next_of.result c.next_of.ensures.next (sym c.is_strand.ensures ∙ c.if-not-is_strand.false) in
    rest_alike c.next_of.new.world c.room.new.self c.room.ensures.state can.1.0

pub strand-requires-clause-awake : goal.strand-requires-clause-awake
strand-requires-clause-awake c =
    let can = strand_can c.next_of.new.world c.next_of.result c.next_of.ensures.next (sym c.is_strand.ensures ∙ c.if-not-is_strand.false) in
    ∥∥₁_elim c.requires.live (hlevel props) (λ k. ap (λ (x : SlotState). x.sleepers) (c.room.ensures.state k.0) ∙ can.1.1)

pub returns-clause-tried : goal.returns-clause-tried
returns-clause-tried c b =
    makes_from b entry.Stranded c.args.world.now c.room.new.self c.strand.new.self (λ z. c.room.ensures.state z ∙ c.next_of.ensures.same z) (c.strand.ensures b)
