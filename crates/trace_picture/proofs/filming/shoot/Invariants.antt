use Rattle.std.proofs.Common.{length, vec_items}
use Rattle.rules_code.specs.Codes.{body_of}
use Rattle.trace_picture.proofs.Filmed.{Films}
use Rattle.trace_picture.proofs.filming.shoot.Given as goal

abbrev pub invariant-lines : goal.invariant-lines
invariant-lines l = Films (body_of l.code) l.text l.walk (vec_items l.film)

abbrev pub decreases-lines : goal.decreases-lines
decreases-lines l = length l.walk.lines.rest
