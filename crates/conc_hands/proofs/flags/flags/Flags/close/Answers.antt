use Rattle.std.proofs.Common.{◌∙◌, arith}
use Rattle.conc_hands.proofs.flags_lemmas.Keeps.{ends}
use Rattle.conc_hands.proofs.flags.flags.Flags.close.Goals as goal

pub free-requires : goal.free-requires
free-requires c = λ k small. absurd (let none = c.close_with.ensures.counts.1 ∙ c.args.self.words_only.1 in omega arith)

pub returns : goal.returns
returns c = ends _ _ _ _ _ c.requires.all c.requires.pen.1 c.close_with.ensures.values.2
