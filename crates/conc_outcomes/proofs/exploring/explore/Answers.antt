use Rattle.std.proofs.Common.{sym, subst}
use Rattle.hs_base.specs.declared.tree.script.Script.{Script}
use Rattle.rules_code.specs.declared.code.CodeBody.{CodeBody}
use Rattle.rules_code.specs.Codes.{body_of}
use Rattle.rules_expansion.specs.trees.Programs.{script_of}
use Rattle.state_search.specs.Searching.{IsCodeOf}
use Rattle.conc_outcomes.specs.Parts.{IsExtentOf}
use Rattle.conc_outcomes.proofs.Whole.{explored}
use Rattle.conc_outcomes.proofs.exploring.explore.Goals as goal

pub returns : goal.returns
returns c = λ script code.
    let b : CodeBody = body_of c.args.code.now in
    let found = c.in_ok-found.ensures in
    let here : (s : Script) → IsCodeOf b s → IsCodeOf c.deref-body.result.now s = λ s. subst (λ z. IsCodeOf z s) (sym c.deref-body.ensures) in
    explored c.args.bounds.now b c.in_ok-found.found c.in_ok-endings.endings script code c.in_ok-ends.ends _
    (record {
      searched = found.searched;
      closed = found.closed;
      reached = found.sound;
      complete = found.complete;
      endings = c.in_ok-endings.ensures;
      rising = c.are_rising.ensures;
      right = c.in_ok-ends.ensures;
      listed = λ s is. c.in_ok-outcomes.ensures.listed s (here s is);
      are = c.in_ok-outcomes.ensures.are;
      extent = λ s is. subst (λ z. IsExtentOf c.args.bounds.now (script_of s) z c.in_ok-found.found.numbers c.in_ok-found.found.states c.in_ok-found.found.gap c.in_ok-extent.extent) c.deref-body.ensures (c.in_ok-extent.ensures s (here s is));
      endless = λ s is. c.in_ok-endless.ensures s (here s is);
      states = c.count-count.ensures;
    })
