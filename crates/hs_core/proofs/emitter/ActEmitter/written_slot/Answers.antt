use Rattle.std.proofs.Common.{ap, ◌∙◌, sym}
use Rattle.rules_code.specs.CodeTrees.{slot_or_end}
use Rattle.hs_nodes.specs.Names.{scope_of}
use Rattle.hs_nodes.proofs.Scopes.{scope-length}
use Rattle.hs_core.proofs.emitter.ActEmitter.written_slot.Goals as goal

pub returns-in-None : goal.returns-in-None
returns-in-None c = c.len.ensures ∙ (sym (scope-length c.args.self.now.emitter.scope) ∙ ap (λ z. slot_or_end z (scope_of c.args.self.now.emitter.scope)) c.in-None.ensures)
