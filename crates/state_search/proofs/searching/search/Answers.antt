use Rattle.std.proofs.Common.{◌≡◌, ◌≤◌, None, length, subst, arith}
use Rattle.rules_code.specs.declared.code.CodeBody.{CodeBody}
use Rattle.rules_code.specs.Codes.{body_of}
use Rattle.state_search.specs.Searching.{IsClosed}
use Rattle.state_search.specs.Working.{Going}
use Rattle.state_search.proofs.Closing.{begun_on, closed}
use Rattle.state_search.proofs.Promised.{reached, shows_all, gap_shown}
use Rattle.state_search.proofs.searching.search.Goals as goal
use Rattle.state_search.proofs.searching.search.Goals.{else-states-test, then-states-test+then-at-len}

-- src/searching.rt
pub states-preserved : goal.states-preserved
states-preserved c =
    record { going = c.in_ok-go_on.ensures.going; begun = begun_on c.deref-body.result.now c.states.found c.go_on.new.self c.states.invariant.begun c.in_ok-go_on.ensures.extends }

pub returns : goal.returns
returns c =
    let bounds = c.args.bounds.now in
    let b : CodeBody = body_of c.args.code.now in
    let f = c.states.found in
    let going : Going bounds b c.states.at f = subst (λ z. Going bounds z c.states.at f) c.deref-body.ensures c.states.invariant.going in
    let few = going.searched.few in
    let last : length f.states ≤ c.states.at = elim c.states-test.branch [
      | else-states-test w ↦ omega (arith, few, w.states-test.false)
      | then-states-test+then-at-len w ↦ omega (arith, w.len.ensures, w.if-at-len.true)
    ] in
    let shut : f.gap ≡ None → IsClosed bounds b f = λ none. closed bounds b c.states.at f going last none c.states.invariant.begun in
    record {
      searched = going.searched;
      closed = shut;
      sound = λ script code. reached bounds b f going.searched script code;
      complete = λ script code none. shows_all bounds b f going.searched script code (shut none);
      gap = λ script code. gap_shown bounds b f going.searched script code f.gap going.searched.gap;
    }
