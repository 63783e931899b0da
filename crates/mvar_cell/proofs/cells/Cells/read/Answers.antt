-- A read of a full cell changes nothing; at an empty one the thread joins the line.
use Rattle.std.proofs.Common.{◌≡◌, ◌+◌, is_some, [], Some, None, refl, ap, sym, ◌∙◌, arith, get_or}
use Rattle.rules_waiting.specs.OneCell.{Read, To_read}
use Rattle.mvar_cell.specs.declared.cells.Stored.{Stored}
use Rattle.mvar_cell.specs.Mvars.{no_content}
use Rattle.mvar_cell.specs.Calls.{cell_at}
use Rattle.mvar_cell.proofs.CellLaws.{read_empty, read_full, is_same_call}
use Rattle.mvar_cell.proofs.Keeping.{no_other, reads_short}
use Rattle.mvar_cell.proofs.Seen.{nowhere, here_in, stored_at}
use Rattle.mvar_cell.proofs.Steps.{content_is, joins, cells_join}
use Rattle.mvar_cell.proofs.cells.Cells.read.Goals as goal

pub index-requires : goal.index-requires
index-requires c =
    let h = here_in c.args.m _ _ c.self.inside.lines _ c.self.invariant c.self.view_is c.requires.exists in
    omega (arith, h.stored, c.self.inside.stored.ok.0)

pub returns-in-Some-clause-call : goal.returns-in-Some-clause-call
returns-in-Some-clause-call c =
    let ss = c.self.inside.stored.items in
    let h = here_in c.args.m _ _ c.self.inside.lines _ c.self.invariant c.self.view_is c.requires.exists in
    let stored = stored_at h _ c.index.ensures in
    let full : (get_or ss c.args.m no_content).content ≡ Some c.in_ok-copy.field-0 = sym (ap (λ (x : Stored). x.content) stored) ∙ c.in-Some.is ∙ ap (λ v. Some v) (sym (c.in_ok-copy.ensures {u = tt})) in
    is_same_call (Read c.args.t) c.args.m c.args.self.now c.args.self.now _ (read_full c.args.t (cell_at c.args.m c.args.self.now) c.in_ok-copy.field-0 (content_is h _ full)) refl

pub returns-in-Some-clause-from : goal.returns-in-Some-clause-from
returns-in-Some-clause-from c =
    let ss = c.self.inside.stored.items in
    let h = here_in c.args.m _ _ c.self.inside.lines _ c.self.invariant c.self.view_is c.requires.exists in
    let stored = stored_at h _ c.index.ensures in
    let full : (get_or ss c.args.m no_content).content ≡ Some c.in_ok-copy.field-0 = sym (ap (λ (x : Stored). x.content) stored) ∙ c.in-Some.is ∙ ap (λ v. Some v) (sym (c.in_ok-copy.ensures {u = tt})) in
    content_is h _ full

pub join-requires-clause-within : goal.join-requires-clause-within
join-requires-clause-within c =
    let h = here_in c.args.m _ _ c.self.inside.lines _ c.self.invariant c.self.view_is c.requires.exists in
    h.lines

pub index_mut-requires : goal.index_mut-requires
index_mut-requires c =
    let h = here_in c.args.m _ _ c.self.inside.lines _ c.self.invariant c.self.view_is c.requires.exists in
    omega (arith, h.stored, c.self.inside.stored.ok.0)

pub overflow_add-index_mut : goal.overflow_add-index_mut
overflow_add-index_mut c =
    let ss = c.self.inside.stored.items in
    let ls = c.self.inside.lines.lines in
    let h = here_in c.args.m _ _ c.self.inside.lines _ c.self.invariant c.self.view_is c.requires.exists in
    let stored = stored_at h _ c.index.ensures in
    let e : (get_or ss c.args.m no_content).content ≡ None = sym (ap (λ (x : Stored). x.content) stored) ∙ no_other c.index.result.now.content c.in_default.not-Some in
    let again = stored_at h _ c.index_mut.ensures.value in
    let s : Stored = record { content = c.index_mut.result.now.content; readers = c.index_mut.result.now.readers + 1 } in
    let count = ap (λ (x : Stored). x.readers) again in
    let cell = c.self.invariant.each c.args.m h.lines in
    omega (arith, count, cell.counted, reads_short (get_or ls c.args.m []), c.join.ensures.short)

pub join-requires-clause-alone : goal.join-requires-clause-alone
join-requires-clause-alone c =
    let h = here_in c.args.m _ _ c.self.inside.lines _ c.self.invariant c.self.view_is c.requires.exists in
    nowhere c.args.t c.args.self.now _ _ h.cells h.seen c.requires.alone

pub invariant_of-self : goal.invariant_of-self
invariant_of-self c =
    let ss = c.self.inside.stored.items in
    let h = here_in c.args.m _ _ c.self.inside.lines _ c.self.invariant c.self.view_is c.requires.exists in
    let stored = stored_at h _ c.index.ensures in
    let e : (get_or ss c.args.m no_content).content ≡ None = sym (ap (λ (x : Stored). x.content) stored) ∙ no_other c.index.result.now.content c.in_default.not-Some in
    let again = stored_at h _ c.index_mut.ensures.value in
    let s : Stored = record { content = c.index_mut.result.now.content; readers = c.index_mut.result.now.readers + 1 } in
    cells_join h s _ c.join.new.self.lines (record { thread = c.args.t; want = To_read }) (ap (λ o. is_some o) (sym e)) c.requires.alone (ap (λ (x : Stored). x.content) again) (ap (λ (x : Stored). x.readers + 1) again) c.join.ensures.lines refl

pub returns-clause-call : goal.returns-clause-call
returns-clause-call c =
    let ss = c.self.inside.stored.items in
    let h = here_in c.args.m _ _ c.self.inside.lines _ c.self.invariant c.self.view_is c.requires.exists in
    let stored = stored_at h _ c.index.ensures in
    let e : (get_or ss c.args.m no_content).content ≡ None = sym (ap (λ (x : Stored). x.content) stored) ∙ no_other c.index.result.now.content c.in_default.not-Some in
    let again = stored_at h _ c.index_mut.ensures.value in
    let s : Stored = record { content = c.index_mut.result.now.content; readers = c.index_mut.result.now.readers + 1 } in
    joins h (Read c.args.t) _ _ s c.join.new.self.lines (record { thread = c.args.t; want = To_read }) (read_empty c.args.t (cell_at c.args.m c.args.self.now) (content_is h None e)) (ap (λ (x : Stored). x.content) again) c.join.ensures.lines refl refl

pub returns-clause-from : goal.returns-clause-from
returns-clause-from c =
    let ss = c.self.inside.stored.items in
    let h = here_in c.args.m _ _ c.self.inside.lines _ c.self.invariant c.self.view_is c.requires.exists in
    let stored = stored_at h _ c.index.ensures in
    let e : (get_or ss c.args.m no_content).content ≡ None = sym (ap (λ (x : Stored). x.content) stored) ∙ no_other c.index.result.now.content c.in_default.not-Some in
    content_is h None e
