use Rattle.std.proofs.Common.{◌≡◌, ◌∙◌, ap, sym}
use Rattle.rules_expansion.specs.trees.Programs.{bd_of}
use Rattle.rules_typing.specs.TypingScripts.{acts}
use Rattle.typing_parts.proofs.HeadSteps.{head_step}
use Rattle.typing_parts.proofs.heads.fun_of.Goals.{in-Pure, in-Action}
use Rattle.typing_parts.proofs.heads.fun_of.Goals as goal

pub returns : goal.returns
returns c =
    let a : c.match-d.acts ≡ acts (bd_of c.args.d.now.body) = elim c.match-d.branch [ in-Pure w ↦ w.acts-is ∙ sym (ap (λ z. acts (bd_of z)) w.in-Pure.is) | in-Action w ↦ w.acts-is ∙ sym (ap (λ z. acts (bd_of z)) w.in-Action.is) ] in
    head_step c.args.interner.now.types.nodes c.places_of.new.interner.types.nodes c.intern.new.self.types.nodes c.args.k c.args.d.now c.in_ok-params.params c.in_ok-result.result c.in_ok-copy.field-0 c.match-d.acts c.written_of.result.now
    c.in_ok-copy.ensures a c.written_of.ensures c.in_ok-params.ensures c.in_ok-result.ensures
