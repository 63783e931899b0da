use Rattle.std.proofs.Common.{◌≡◌, length, Some, slice_get, sym, ◌∙◌, subst, arith}
use Rattle.std.specs.List.{AllByRecursion}
use Rattle.number_states.specs.States.{slots}
use Rattle.number_states.proofs.Changes.{got_mapped}
use Rattle.search_laws.specs.Found.{candidates}
use Rattle.state_search.specs.Meaning.{shown}
use Rattle.state_search.specs.EachTried.{MayAlways, HasTried}
use Rattle.state_search.proofs.EachTried.{always_candidates, still_there, gone_on}
use Rattle.state_search.proofs.found.Found.go_on.Goals as goal

-- src/going.rt
pub try_each-requires-clause-always : goal.try_each-requires-clause-always
try_each-requires-clause-always c =
    let all = c.as_slice.ensures.value ∙ c.in_ok-entries.ensures {u = tt} c.args.self.now.numbers c.args.body.now in
    subst (AllByRecursion MayAlways) (sym all) (always_candidates (slots c.args.self.now.numbers c.args.body.now c.in-Some.state.now))

pub returns-then-branch-clause-going : goal.returns-then-branch-clause-going
returns-then-branch-clause-going c =
    let bounds = c.args.bounds.now in
    let b = c.args.body.now in
    let f = c.args.self.now in
    let n = c.in-Some.state.now in
    let entries = c.as_slice.result.now in
    let all : entries ≡ candidates (slots f.numbers b n) = c.as_slice.ensures.value ∙ c.in_ok-entries.ensures {u = tt} f.numbers b in
    let is : slice_get f.states c.args.at ≡ Some n = sym c.in-Some.ensures in
    let tried = subst (HasTried bounds b f c.try_each.new.self c.args.at entries (length entries)) c.if-branch.true c.in_ok-try_each.ensures in
    gone_on bounds b f c.args.at entries c.try_each.new.self (length entries) (shown f.numbers b n) (got_mapped (shown f.numbers b) f.states c.args.at n is) all (omega arith) tried

pub stay-requires-clause-still : goal.stay-requires-clause-still
stay-requires-clause-still c =
    let bounds = c.args.bounds.now in
    let b = c.args.body.now in
    let f = c.args.self.now in
    let n = c.in-Some.state.now in
    let entries = c.as_slice.result.now in
    let all : entries ≡ candidates (slots f.numbers b n) = c.as_slice.ensures.value ∙ c.in_ok-entries.ensures {u = tt} f.numbers b in
    let is : slice_get f.states c.args.at ≡ Some n = sym c.in-Some.ensures in
    let tried = subst (HasTried bounds b f c.try_each.new.self c.args.at entries (length entries)) c.if-branch.false c.in_ok-try_each.ensures in
    still_there bounds b f c.args.at entries c.try_each.new.self (length entries) (shown f.numbers b n) (got_mapped (shown f.numbers b) f.states c.args.at n is) all (omega arith) tried
