use Rattle.std.proofs.Math.Logic.{∥∥₁_elim}
use Rattle.std.specs.Coded.{Coded-set}
use Rattle.caps_visits.proofs.Objects.{hand_prop}
use Rattle.caps_visits.proofs.cutting.read_flag.Goals as goal

pub raised-requires : goal.raised-requires
raised-requires g c = ∥∥₁_elim c.requires (hand_prop (Coded-set g.row.J.coded) (Coded-set g.row.S.coded) _ _) (λ own. own)
