-- A thread leaves one line.
use Rattle.std.proofs.Common.{◌≡◌, ◌+◌, ◌-◌, Bool, true, false, cond, refl, ap, sym, ◌∙◌, arith, get_or}
use Rattle.std.proofs.lemmas.List.{set-get_or}
use Rattle.std.proofs.lemmas.Bool.{eqb-true}
use Rattle.rules_waiting.specs.OneCell.{reads_it}
use Rattle.mvar_cell.specs.declared.cells.Stored.{Stored}
use Rattle.mvar_cell.specs.Nodes.{place}
use Rattle.mvar_cell.specs.Mvars.{no_content}
use Rattle.mvar_cell.proofs.Seen.{here_in, stored_at}
use Rattle.mvar_cell.proofs.Steps.{cell_leaves, cells_leave, counted_one, stands_here}
use Rattle.mvar_cell.proofs.cells.Cells.drop_waiter.Goals as goal

pub leave-want-requires-clause-within : goal.leave-want-requires-clause-within
leave-want-requires-clause-within c =
    let h = here_in c.args.m _ _ c.self.inside.lines _ c.self.invariant c.self.view_is c.requires.exists in
    h.lines

pub leave-want-requires-clause-stands : goal.leave-want-requires-clause-stands
leave-want-requires-clause-stands c =
    let h = here_in c.args.m _ _ c.self.inside.lines _ c.self.invariant c.self.view_is c.requires.exists in
    stands_here h c.args.t c.requires.stands

pub index_mut-requires : goal.index_mut-requires
index_mut-requires c =
    let h = here_in c.args.m _ _ c.self.inside.lines _ c.self.invariant c.self.view_is c.requires.exists in
    omega (arith, h.stored, c.self.inside.stored.ok.0)

pub overflow_sub-index_mut : goal.overflow_sub-index_mut
overflow_sub-index_mut c =
    let h = here_in c.args.m _ _ c.self.inside.lines _ c.self.invariant c.self.view_is c.requires.exists in
    let one = c.leave-want.ensures.lines in
    let p = place c.leave-want.result.0 c.leave-want.result.1 in
    let thread : p.thread ≡ c.args.t = eqb-true c.leave-want.result.0 c.args.t one.found in
    let again = stored_at h _ c.index_mut.ensures.value in
    let reads : reads_it p.want ≡ true = sym c.reads.ensures ∙ c.if-reads.true in
    let some = counted_one h one.front one.back p one.was reads in
    let count = ap (λ (x : Stored). x.readers) again in
    let s : Stored = record { content = c.index_mut.result.now.content; readers = c.index_mut.result.now.readers - 1 } in
    omega (arith, some, count)

pub invariant_of-self : goal.invariant_of-self
invariant_of-self c =
    let ss = c.self.inside.stored.items in
    let h = here_in c.args.m _ _ c.self.inside.lines _ c.self.invariant c.self.view_is c.requires.exists in
    let one = c.leave-want.ensures.lines in
    let p = place c.leave-want.result.0 c.leave-want.result.1 in
    let thread : p.thread ≡ c.args.t = eqb-true c.leave-want.result.0 c.args.t one.found in
    let again = stored_at h _ c.index_mut.ensures.value in
    let reads : reads_it p.want ≡ true = sym c.reads.ensures ∙ c.if-reads.true in
    let some = counted_one h one.front one.back p one.was reads in
    let count = ap (λ (x : Stored). x.readers) again in
    let s : Stored = record { content = c.index_mut.result.now.content; readers = c.index_mut.result.now.readers - 1 } in
    let one_less : (get_or ss c.args.m no_content).readers ≡ cond (reads_it p.want) 1 0 + s.readers = sym (ap (λ (b : Bool). cond b 1 0 + s.readers) reads ∙ (let z : 1 + s.readers ≡ (get_or ss c.args.m no_content).readers = omega (arith, some, count) in z)) in
    cells_leave h s _ c.leave-want.new.self.lines one.front one.back p one.was (ap (λ (x : Stored). x.content) again) one_less one.now refl

pub returns-then-reads-clause-call : goal.returns-then-reads-clause-call
returns-then-reads-clause-call c =
    let h = here_in c.args.m _ _ c.self.inside.lines _ c.self.invariant c.self.view_is c.requires.exists in
    let one = c.leave-want.ensures.lines in
    let p = place c.leave-want.result.0 c.leave-want.result.1 in
    let thread : p.thread ≡ c.args.t = eqb-true c.leave-want.result.0 c.args.t one.found in
    let again = stored_at h _ c.index_mut.ensures.value in
    let reads : reads_it p.want ≡ true = sym c.reads.ensures ∙ c.if-reads.true in
    let some = counted_one h one.front one.back p one.was reads in
    let count = ap (λ (x : Stored). x.readers) again in
    let s : Stored = record { content = c.index_mut.result.now.content; readers = c.index_mut.result.now.readers - 1 } in
    cell_leaves h _ _ s c.leave-want.new.self.lines c.args.t one.front one.back p one.was thread (ap (λ (x : Stored). x.content) again) one.now refl refl

pub invariant_of-self-else-reads : goal.invariant_of-self-else-reads
invariant_of-self-else-reads c =
    let ss = c.self.inside.stored.items in
    let h = here_in c.args.m _ _ c.self.inside.lines _ c.self.invariant c.self.view_is c.requires.exists in
    let one = c.leave-want.ensures.lines in
    let p = place c.leave-want.result.0 c.leave-want.result.1 in
    let thread : p.thread ≡ c.args.t = eqb-true c.leave-want.result.0 c.args.t one.found in
    let reads : reads_it p.want ≡ false = sym c.reads.ensures ∙ c.if-reads.false in
    let s = get_or ss c.args.m no_content in
    let same : s.readers ≡ cond (reads_it p.want) 1 0 + s.readers = sym (ap (λ (b : Bool). cond b 1 0 + s.readers) reads ∙ (let z : 0 + s.readers ≡ s.readers = omega arith in z)) in
    cells_leave h s ss c.leave-want.new.self.lines one.front one.back p one.was refl same one.now (sym (set-get_or ss c.args.m no_content))

pub returns-clause-call : goal.returns-clause-call
returns-clause-call c =
    let ss = c.self.inside.stored.items in
    let h = here_in c.args.m _ _ c.self.inside.lines _ c.self.invariant c.self.view_is c.requires.exists in
    let one = c.leave-want.ensures.lines in
    let p = place c.leave-want.result.0 c.leave-want.result.1 in
    let thread : p.thread ≡ c.args.t = eqb-true c.leave-want.result.0 c.args.t one.found in
    let reads : reads_it p.want ≡ false = sym c.reads.ensures ∙ c.if-reads.false in
    let s = get_or ss c.args.m no_content in
    cell_leaves h _ ss s c.leave-want.new.self.lines c.args.t one.front one.back p one.was thread refl one.now (sym (set-get_or ss c.args.m no_content)) refl
