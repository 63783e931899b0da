-- A take of a full cell: the first put of the line, if any, moves in.
use Rattle.std.proofs.Common.{◌≡◌, ◌∷◌, Some, None, refl, ap, sym, subst, ◌∙◌, arith, get_or}
use Rattle.std.proofs.lemmas.List.{set-set, get_or-set_same}
use Rattle.rules_waiting.specs.OneCell.{first_put}
use Rattle.mvar_cell.specs.declared.cells.Stored.{Stored}
use Rattle.mvar_cell.specs.Lined.{line_of}
use Rattle.mvar_cell.specs.Nodes.{place}
use Rattle.mvar_cell.specs.Mvars.{no_content}
use Rattle.mvar_cell.specs.Calls.{cell_at, TriesToTake}
use Rattle.mvar_cell.proofs.Seen.{here_in, stored_at}
use Rattle.mvar_cell.proofs.Steps.{content_is, is_full, takes_nothing, takes_last, takes_and_serves, cells_move}
use Rattle.mvar_cell.proofs.cells.Cells.try_take.Goals as goal

pub index_mut-requires : goal.index_mut-requires
index_mut-requires c =
    let h = here_in c.args.m _ _ c.self.inside.lines _ c.self.invariant c.self.view_is c.requires in
    omega (arith, h.stored, c.self.inside.stored.ok.0)

pub returns-in_err-value-clause-call : goal.returns-in_err-value-clause-call
returns-in_err-value-clause-call c =
    let ss = c.self.inside.stored.items in
    let h = here_in c.args.m _ _ c.self.inside.lines _ c.self.invariant c.self.view_is c.requires in
    let stored = stored_at h _ c.index_mut.ensures.value in
    let s : Stored = record { content = c.replace.new.dest; readers = c.index_mut.result.now.readers } in
    let e : (get_or ss c.args.m no_content).content ≡ None = sym (ap (λ (x : Stored). x.content) stored) ∙ sym c.replace.ensures.value ∙ c.in_err-value.was {u = tt} in
    λ t. takes_nothing h _ s t c.from_residual.result c.from_residual.ensures e c.replace.ensures.after refl

pub returns-in_err-value-clause-from : goal.returns-in_err-value-clause-from
returns-in_err-value-clause-from c =
    let ss = c.self.inside.stored.items in
    let h = here_in c.args.m _ _ c.self.inside.lines _ c.self.invariant c.self.view_is c.requires in
    let stored = stored_at h _ c.index_mut.ensures.value in
    let s : Stored = record { content = c.replace.new.dest; readers = c.index_mut.result.now.readers } in
    let e : (get_or ss c.args.m no_content).content ≡ None = sym (ap (λ (x : Stored). x.content) stored) ∙ sym c.replace.ensures.value ∙ c.in_err-value.was {u = tt} in
    subst (λ r. TriesToTake r (cell_at c.args.m c.args.self.now)) (sym c.from_residual.ensures) (content_is h None e)

pub serve-requires : goal.serve-requires
serve-requires c =
    let h = here_in c.args.m _ _ c.self.inside.lines _ c.self.invariant c.self.view_is c.requires in
    h.lines

pub invariant_of-self-in-Some-default-Put : goal.invariant_of-self-in-Some-default-Put
invariant_of-self-in-Some-default-Put c =
    let ss = c.self.inside.stored.items in
    let h = here_in c.args.m _ _ c.self.inside.lines _ c.self.invariant c.self.view_is c.requires in
    let stored = stored_at h _ c.index_mut.ensures.value in
    let s : Stored = record { content = c.replace.new.dest; readers = c.index_mut.result.now.readers } in
    let full : (get_or ss c.args.m no_content).content ≡ Some c.in_ok-value.value = sym (ap (λ (x : Stored). x.content) stored) ∙ sym c.replace.ensures.value ∙ c.in_ok-value.was {u = tt} in
    let served = c.in-Some-default-Put.ensures {u = tt} in
    let rest = line_of c.serve.new.self c.args.m in
    let line = served.served ∙ ap (λ w. place c.in-Some-default-Put.putter w ∷ rest) c.in-Some-default-Put.field-0-1-is in
    let s2 : Stored = record { content = Some c.in-Some-default-Put.next; readers = c.index_mut-in-Some-default-Put.result.now.readers } in
    let again : c.index_mut-in-Some-default-Put.result.now ≡ s = c.index_mut-in-Some-default-Put.ensures.value ∙ get_or-set_same ss c.args.m s _ h.stored in
    let count : s2.readers ≡ (get_or ss c.args.m no_content).readers = ap (λ (x : Stored). x.readers) again ∙ ap (λ (x : Stored). x.readers) stored in
    cells_move h s s2 c.serve.new.self.lines rest c.in_ok-value.value c.in-Some-default-Put.next c.in-Some-default-Put.putter full refl count line served.lines

pub returns-in-Some-default-Put-clause-call : goal.returns-in-Some-default-Put-clause-call
returns-in-Some-default-Put-clause-call c =
    let ss = c.self.inside.stored.items in
    let h = here_in c.args.m _ _ c.self.inside.lines _ c.self.invariant c.self.view_is c.requires in
    let stored = stored_at h _ c.index_mut.ensures.value in
    let s : Stored = record { content = c.replace.new.dest; readers = c.index_mut.result.now.readers } in
    let full : (get_or ss c.args.m no_content).content ≡ Some c.in_ok-value.value = sym (ap (λ (x : Stored). x.content) stored) ∙ sym c.replace.ensures.value ∙ c.in_ok-value.was {u = tt} in
    let served = c.in-Some-default-Put.ensures {u = tt} in
    let rest = line_of c.serve.new.self c.args.m in
    let line = served.served ∙ ap (λ w. place c.in-Some-default-Put.putter w ∷ rest) c.in-Some-default-Put.field-0-1-is in
    let s2 : Stored = record { content = Some c.in-Some-default-Put.next; readers = c.index_mut-in-Some-default-Put.result.now.readers } in
    λ t. takes_and_serves h _ _ s2 c.serve.new.self.lines rest c.in_ok-value.value c.in-Some-default-Put.next c.in-Some-default-Put.putter t full refl line served.lines (set-set ss c.args.m s s2) refl

pub returns-in-Some-default-Put-clause-from : goal.returns-in-Some-default-Put-clause-from
returns-in-Some-default-Put-clause-from c =
    let ss = c.self.inside.stored.items in
    let h = here_in c.args.m _ _ c.self.inside.lines _ c.self.invariant c.self.view_is c.requires in
    let stored = stored_at h _ c.index_mut.ensures.value in
    let s : Stored = record { content = c.replace.new.dest; readers = c.index_mut.result.now.readers } in
    let full : (get_or ss c.args.m no_content).content ≡ Some c.in_ok-value.value = sym (ap (λ (x : Stored). x.content) stored) ∙ sym c.replace.ensures.value ∙ c.in_ok-value.was {u = tt} in
    let served = c.in-Some-default-Put.ensures {u = tt} in
    let rest = line_of c.serve.new.self c.args.m in
    let line = served.served ∙ ap (λ w. place c.in-Some-default-Put.putter w ∷ rest) c.in-Some-default-Put.field-0-1-is in
    let s2 : Stored = record { content = Some c.in-Some-default-Put.next; readers = c.index_mut-in-Some-default-Put.result.now.readers } in
    (c.in-Some-default-Put.next, is_full h c.in_ok-value.value _ full (ap first_put line))

pub returns-in-None-clause-call : goal.returns-in-None-clause-call
returns-in-None-clause-call c =
    let ss = c.self.inside.stored.items in
    let h = here_in c.args.m _ _ c.self.inside.lines _ c.self.invariant c.self.view_is c.requires in
    let stored = stored_at h _ c.index_mut.ensures.value in
    let s : Stored = record { content = c.replace.new.dest; readers = c.index_mut.result.now.readers } in
    let full : (get_or ss c.args.m no_content).content ≡ Some c.in_ok-value.value = sym (ap (λ (x : Stored). x.content) stored) ∙ sym c.replace.ensures.value ∙ c.in_ok-value.was {u = tt} in
    let served = c.in-None.ensures {u = tt} in
    λ t. takes_last h _ s c.serve.new.self.lines c.in_ok-value.value t full c.replace.ensures.after served.served.0 served.served.1 refl

pub returns-in-None-clause-from : goal.returns-in-None-clause-from
returns-in-None-clause-from c =
    let ss = c.self.inside.stored.items in
    let h = here_in c.args.m _ _ c.self.inside.lines _ c.self.invariant c.self.view_is c.requires in
    let stored = stored_at h _ c.index_mut.ensures.value in
    let s : Stored = record { content = c.replace.new.dest; readers = c.index_mut.result.now.readers } in
    let full : (get_or ss c.args.m no_content).content ≡ Some c.in_ok-value.value = sym (ap (λ (x : Stored). x.content) stored) ∙ sym c.replace.ensures.value ∙ c.in_ok-value.was {u = tt} in
    let served = c.in-None.ensures {u = tt} in
    is_full h c.in_ok-value.value None full (ap first_put served.served.0)
