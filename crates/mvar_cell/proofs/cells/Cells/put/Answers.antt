-- A put by the put that never waits.
use Rattle.std.proofs.Common.{◌≡◌, ◌+◌, is_some, Option, Some, None, refl, ap, sym, ◌∙◌, arith, get_or}
use Rattle.std.proofs.lemmas.List.{set-get_or}
use Rattle.hs_base.specs.declared.value.Value.{Value}
use Rattle.rules_waiting.specs.OneCell.{Put, To_put}
use Rattle.mvar_cell.specs.Mvars.{Mvars, cells_of, no_content}
use Rattle.mvar_cell.specs.Calls.{cell_at}
use Rattle.mvar_cell.proofs.CellLaws.{put_full, put_by_try, put_serves_by_try, nothing_put}
use Rattle.mvar_cell.proofs.Seen.{nowhere, here}
use Rattle.mvar_cell.proofs.Steps.{content_is, joins, cells_join}
use Rattle.mvar_cell.proofs.cells.Cells.put.Goals as goal

pub join-requires-clause-within : goal.join-requires-clause-within
join-requires-clause-within c =
    let to = c.in-Full.ensures.to in
    let h = here c.args.m c.args.self.now _ _ c.self.invariant (ap (λ (x : Mvars). x.cells) c.self.view_is ∙ nothing_put c.args.t c.args.m c.args.v to.0 c.args.self.now _ _ to.1 (c.in-Full.ensures.call c.args.t)) c.requires.exists in
    h.lines

pub join-requires-clause-alone : goal.join-requires-clause-alone
join-requires-clause-alone c =
    let ss = c.self.inside.stored.items in
    let ls = c.self.inside.lines.lines in
    let seen : cells_of ss ls ≡ c.args.self.now.cells = ap (λ (x : Mvars). x.cells) c.self.view_is ∙ nothing_put c.args.t c.args.m c.args.v c.in-Full.ensures.to.0 c.args.self.now _ _ c.in-Full.ensures.to.1 (c.in-Full.ensures.call c.args.t) in
    nowhere c.args.t c.args.self.now ss ls c.self.invariant seen c.requires.alone

pub invariant_of-self : goal.invariant_of-self
invariant_of-self c =
    let to = c.in-Full.ensures.to in
    let ss = c.self.inside.stored.items in
    let h = here c.args.m c.args.self.now _ _ c.self.invariant (ap (λ (x : Mvars). x.cells) c.self.view_is ∙ nothing_put c.args.t c.args.m c.args.v to.0 c.args.self.now _ _ to.1 (c.in-Full.ensures.call c.args.t)) c.requires.exists in
    let stored : (get_or ss c.args.m no_content).content ≡ Some to.0 = sym (content_is h _ refl) ∙ to.1 in
    cells_join h (get_or ss c.args.m no_content) ss c.join.new.self.lines (record { thread = c.args.t; want = To_put c.in-Full.value }) (ap (λ (o : Option Value). is_some o) (sym stored)) c.requires.alone refl (let z : (get_or ss c.args.m no_content).readers ≡ (get_or ss c.args.m no_content).readers + 0 = omega arith in z) c.join.ensures.lines (sym (set-get_or ss c.args.m no_content))

pub returns-in-Full-clause-call : goal.returns-in-Full-clause-call
returns-in-Full-clause-call c =
    let to = c.in-Full.ensures.to in
    let ss = c.self.inside.stored.items in
    let h = here c.args.m c.args.self.now _ _ c.self.invariant (ap (λ (x : Mvars). x.cells) c.self.view_is ∙ nothing_put c.args.t c.args.m c.args.v to.0 c.args.self.now _ _ to.1 (c.in-Full.ensures.call c.args.t)) c.requires.exists in
    let lines = rw c.in-Full.ensures.back at c.join.ensures.lines in
    joins h (Put c.args.t c.args.v) _ ss (get_or ss c.args.m no_content) c.join.new.self.lines (record { thread = c.args.t; want = To_put c.args.v }) (put_full c.args.t (cell_at c.args.m c.args.self.now) c.args.v to.0 to.1) refl lines (sym (set-get_or ss c.args.m no_content)) refl

pub returns-in-Full-clause-to : goal.returns-in-Full-clause-to
returns-in-Full-clause-to c =
    c.in-Full.ensures.to

pub returns-in-Done-clause-call : goal.returns-in-Done-clause-call
returns-in-Done-clause-call c =
    put_by_try c.args.t c.args.m c.args.self.now _ c.args.v None _ c.in-Done.ensures.to c.requires.no_reader (c.in-Done.ensures.call c.args.t)

pub returns-in-Done-clause-to : goal.returns-in-Done-clause-to
returns-in-Done-clause-to c =
    c.in-Done.ensures.to

pub returns-in-Served-clause-call : goal.returns-in-Served-clause-call
returns-in-Served-clause-call c =
    let to = c.in-Served.ensures.to in
    put_serves_by_try c.args.t c.args.m c.in-Served.taker c.args.self.now _ c.args.v c.in-Served.value _ to.0 to.1 c.requires.no_reader (c.in-Served.ensures.call c.args.t)

pub returns-in-Served-clause-to : goal.returns-in-Served-clause-to
returns-in-Served-clause-to c =
    c.in-Served.ensures.to
