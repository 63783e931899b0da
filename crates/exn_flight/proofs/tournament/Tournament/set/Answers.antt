use Rattle.std.proofs.Common.{◌∙◌}
use Rattle.exn_flight.proofs.Winning.{placed}
use Rattle.exn_flight.proofs.tournament.Tournament.set.Goals as goal

-- a climb leaves the places as they are
pub returns : goal.returns
returns c =
    c.climb.ensures.leaves ∙ placed c.self.inside.places c.args.place c.self.inside.nodes.items c.args.self.now c.args.sleeper c.self.view_is
