-- The first reader leaves the line.
use Rattle.std.proofs.Common.{◌≡◌, ◌+◌, ◌-◌, Bool, cond, refl, ap, sym, ◌∙◌, arith, get_or}
use Rattle.rules_waiting.specs.OneCell.{reads_it}
use Rattle.mvar_cell.specs.declared.cells.Stored.{Stored}
use Rattle.mvar_cell.specs.Nodes.{place}
use Rattle.mvar_cell.specs.Mvars.{no_content}
use Rattle.mvar_cell.proofs.Seen.{here_in, stored_at}
use Rattle.mvar_cell.proofs.Steps.{cell_leaves, cells_leave, counted_one, nobody_reads, somebody_reads, reader_leaves}
use Rattle.mvar_cell.proofs.cells.Cells.next_reader.Goals as goal

pub index-requires : goal.index-requires
index-requires c =
    let h = here_in c.args.m _ _ c.self.inside.lines _ c.self.invariant c.self.view_is c.requires in
    omega (arith, h.stored, c.self.inside.stored.ok.0)

pub returns-then-index-eq0-clause-next : goal.returns-then-index-eq0-clause-next
returns-then-index-eq0-clause-next c =
    let h = here_in c.args.m _ _ c.self.inside.lines _ c.self.invariant c.self.view_is c.requires in
    let stored = stored_at h _ c.index.ensures in
    (nobody_reads h (sym (ap (λ (x : Stored). x.readers) stored) ∙ c.if-index-eq0.true), refl)

pub leave-reader-requires-clause-within : goal.leave-reader-requires-clause-within
leave-reader-requires-clause-within c =
    let h = here_in c.args.m _ _ c.self.inside.lines _ c.self.invariant c.self.view_is c.requires in
    h.lines

pub leave-reader-requires-clause-stands : goal.leave-reader-requires-clause-stands
leave-reader-requires-clause-stands c =
    let h = here_in c.args.m _ _ c.self.inside.lines _ c.self.invariant c.self.view_is c.requires in
    let stored = stored_at h _ c.index.ensures in
    somebody_reads h (λ z. c.if-index-eq0.false (ap (λ (x : Stored). x.readers) stored ∙ z))

pub index_mut-requires : goal.index_mut-requires
index_mut-requires c =
    let h = here_in c.args.m _ _ c.self.inside.lines _ c.self.invariant c.self.view_is c.requires in
    omega (arith, h.stored, c.self.inside.stored.ok.0)

pub overflow_sub-index_mut : goal.overflow_sub-index_mut
overflow_sub-index_mut c =
    let h = here_in c.args.m _ _ c.self.inside.lines _ c.self.invariant c.self.view_is c.requires in
    let again = stored_at h _ c.index_mut.ensures.value in
    let one = c.leave-reader.ensures.lines in
    let p = place c.leave-reader.result.0 c.leave-reader.result.1 in
    let some = counted_one h one.front one.back p one.was one.found in
    let count = ap (λ (x : Stored). x.readers) again in
    let s : Stored = record { content = c.index_mut.result.now.content; readers = c.index_mut.result.now.readers - 1 } in
    omega (arith, some, count)

pub invariant_of-self : goal.invariant_of-self
invariant_of-self c =
    let ss = c.self.inside.stored.items in
    let h = here_in c.args.m _ _ c.self.inside.lines _ c.self.invariant c.self.view_is c.requires in
    let again = stored_at h _ c.index_mut.ensures.value in
    let one = c.leave-reader.ensures.lines in
    let p = place c.leave-reader.result.0 c.leave-reader.result.1 in
    let some = counted_one h one.front one.back p one.was one.found in
    let count = ap (λ (x : Stored). x.readers) again in
    let s : Stored = record { content = c.index_mut.result.now.content; readers = c.index_mut.result.now.readers - 1 } in
    let one_less : (get_or ss c.args.m no_content).readers ≡ cond (reads_it p.want) 1 0 + s.readers = sym (ap (λ (b : Bool). cond b 1 0 + s.readers) one.found ∙ (let z : 1 + s.readers ≡ (get_or ss c.args.m no_content).readers = omega (arith, some, count) in z)) in
    cells_leave h s _ c.leave-reader.new.self.lines one.front one.back p one.was (ap (λ (x : Stored). x.content) again) one_less one.now refl

pub returns-clause-next : goal.returns-clause-next
returns-clause-next c =
    let h = here_in c.args.m _ _ c.self.inside.lines _ c.self.invariant c.self.view_is c.requires in
    let again = stored_at h _ c.index_mut.ensures.value in
    let one = c.leave-reader.ensures.lines in
    let p = place c.leave-reader.result.0 c.leave-reader.result.1 in
    let some = counted_one h one.front one.back p one.was one.found in
    let count = ap (λ (x : Stored). x.readers) again in
    let s : Stored = record { content = c.index_mut.result.now.content; readers = c.index_mut.result.now.readers - 1 } in
    let call = cell_leaves h _ _ s c.leave-reader.new.self.lines c.leave-reader.result.0 one.front one.back p one.was refl (ap (λ (x : Stored). x.content) again) one.now refl refl in
    reader_leaves h _ c.leave-reader.result.0 one.front one.back p one.was one.clear one.found refl call
