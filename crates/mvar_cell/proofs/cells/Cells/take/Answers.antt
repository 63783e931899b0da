-- A take by the take that never waits.
use Rattle.std.proofs.Common.{◌≡◌, ◌+◌, is_some, Option, Some, None, refl, ap, sym, ◌∙◌, arith, get_or}
use Rattle.std.proofs.lemmas.List.{set-get_or}
use Rattle.hs_base.specs.declared.value.Value.{Value}
use Rattle.rules_waiting.specs.OneCell.{Take, To_take}
use Rattle.mvar_cell.specs.Mvars.{Mvars, cells_of, no_content}
use Rattle.mvar_cell.specs.Calls.{cell_at}
use Rattle.mvar_cell.proofs.CellLaws.{take_empty, take_by_try, nothing_taken}
use Rattle.mvar_cell.proofs.Seen.{nowhere, here}
use Rattle.mvar_cell.proofs.Steps.{content_is, joins, cells_join}
use Rattle.mvar_cell.proofs.cells.Cells.take.Goals as goal

pub join-requires-clause-within : goal.join-requires-clause-within
join-requires-clause-within c =
    let e = c.in_default.ensures.from in
    let h = here c.args.m c.args.self.now _ _ c.self.invariant (ap (λ (x : Mvars). x.cells) c.self.view_is ∙ nothing_taken c.args.t c.args.m c.args.self.now _ _ e (c.in_default.ensures.call c.args.t)) c.requires.exists in
    h.lines

pub join-requires-clause-alone : goal.join-requires-clause-alone
join-requires-clause-alone c =
    let ss = c.self.inside.stored.items in
    let ls = c.self.inside.lines.lines in
    let seen : cells_of ss ls ≡ c.args.self.now.cells = ap (λ (x : Mvars). x.cells) c.self.view_is ∙ nothing_taken c.args.t c.args.m c.args.self.now _ _ c.in_default.ensures.from (c.in_default.ensures.call c.args.t) in
    nowhere c.args.t c.args.self.now ss ls c.self.invariant seen c.requires.alone

pub invariant_of-self : goal.invariant_of-self
invariant_of-self c =
    let e = c.in_default.ensures.from in
    let ss = c.self.inside.stored.items in
    let h = here c.args.m c.args.self.now _ _ c.self.invariant (ap (λ (x : Mvars). x.cells) c.self.view_is ∙ nothing_taken c.args.t c.args.m c.args.self.now _ _ e (c.in_default.ensures.call c.args.t)) c.requires.exists in
    let stored : (get_or ss c.args.m no_content).content ≡ None = sym (content_is h _ refl) ∙ e in
    cells_join h (get_or ss c.args.m no_content) ss c.join.new.self.lines (record { thread = c.args.t; want = To_take }) (ap (λ (o : Option Value). is_some o) (sym stored)) c.requires.alone refl (let z : (get_or ss c.args.m no_content).readers ≡ (get_or ss c.args.m no_content).readers + 0 = omega arith in z) c.join.ensures.lines (sym (set-get_or ss c.args.m no_content))

pub returns-in_default-clause-call : goal.returns-in_default-clause-call
returns-in_default-clause-call c =
    let e = c.in_default.ensures.from in
    let ss = c.self.inside.stored.items in
    let h = here c.args.m c.args.self.now _ _ c.self.invariant (ap (λ (x : Mvars). x.cells) c.self.view_is ∙ nothing_taken c.args.t c.args.m c.args.self.now _ _ e (c.in_default.ensures.call c.args.t)) c.requires.exists in
    joins h (Take c.args.t) _ ss (get_or ss c.args.m no_content) c.join.new.self.lines (record { thread = c.args.t; want = To_take }) (take_empty c.args.t (cell_at c.args.m c.args.self.now) e) refl c.join.ensures.lines (sym (set-get_or ss c.args.m no_content)) refl

pub returns-in_default-clause-from : goal.returns-in_default-clause-from
returns-in_default-clause-from c =
    let e = c.in_default.ensures.from in
    e

pub returns-in-None-clause-call : goal.returns-in-None-clause-call
returns-in-None-clause-call c =
    let full = rw c.in-None.is at c.in-Some.ensures.from in
    take_by_try c.args.t c.args.m c.args.self.now _ c.in-Some.value None _ full (c.in-Some.ensures.call c.args.t)

pub returns-in-None-clause-from : goal.returns-in-None-clause-from
returns-in-None-clause-from c =
    rw c.in-None.is at c.in-Some.ensures.from

pub returns-in-Some-putter-clause-call : goal.returns-in-Some-putter-clause-call
returns-in-Some-putter-clause-call c =
    let full = rw c.in-Some-putter.is at c.in-Some.ensures.from in
    take_by_try c.args.t c.args.m c.args.self.now _ c.in-Some.value (Some (c.in-Some-putter.putter, full.0)) _ full.1 (c.in-Some.ensures.call c.args.t)

pub returns-in-Some-putter-clause-from : goal.returns-in-Some-putter-clause-from
returns-in-Some-putter-clause-from c =
    rw c.in-Some-putter.is at c.in-Some.ensures.from
