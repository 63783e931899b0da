-- A seat later on.
use Rattle.std.proofs.Common.{◌<◌, sym, ◌∙◌, refl, subst}
use Rattle.atomic_table.specs.Seated.{TableId}
use Rattle.hs_rules.specs.declared.kept.Plan.{Plan}
use Rattle.conc_turn.specs.declared.seat.Seat.{Seat}
use Rattle.conc_turn.specs.Seats.{IsLater, IsSeatAt, seen_by}
use Rattle.conc_turn.proofs.Prefixes.{prefix_self, prefix_trans}

pub later_self : (a : Seat) → IsLater a a
later_self a = (refl, refl, refl, prefix_self (seen_by a))

pub later_trans : (a b c : Seat) → IsLater a b → IsLater b c → IsLater a c
later_trans a b c p q = (q.0 ∙ p.0, q.1 ∙ p.1, q.2 ∙ p.2, prefix_trans (seen_by a) (seen_by b) (seen_by c) p.3 q.3)

pub later_seat : (id : TableId) (plan : Plan) (a b : Seat) → IsLater a b → IsSeatAt id plan a → IsSeatAt id plan b
later_seat id plan a b p s = (p.0 ∙ s.0, p.1 ∙ s.1, subst (λ n. 0 < n) (sym p.2) s.2)
