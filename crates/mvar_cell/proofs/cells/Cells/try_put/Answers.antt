-- A put to an empty cell where nobody reads: the first take of the line, if any, gets the value.
use Rattle.std.proofs.Common.{◌≡◌, ◌∷◌, Some, None, refl, ap, sym, ◌∙◌, arith, get_or, inl, inr}
use Rattle.rules_waiting.specs.OneCell.{Try_put, first_take}
use Rattle.mvar_cell.specs.declared.cells.Stored.{Stored}
use Rattle.mvar_cell.specs.Lined.{line_of}
use Rattle.mvar_cell.specs.Nodes.{place}
use Rattle.mvar_cell.specs.Mvars.{no_content}
use Rattle.mvar_cell.specs.Calls.{cell_at}
use Rattle.mvar_cell.proofs.CellLaws.{try_put_full, is_same_call}
use Rattle.mvar_cell.proofs.Keeping.{some_of, none_of, none_reads_first}
use Rattle.mvar_cell.proofs.Seen.{here_in, stored_at}
use Rattle.mvar_cell.proofs.Steps.{content_is, is_empty, seen_line, puts_last, puts_and_serves, none_first_puts}
use Rattle.mvar_cell.proofs.cells.Cells.try_put.Goals as goal

pub index-requires : goal.index-requires
index-requires c =
    let h = here_in c.args.m _ _ c.self.inside.lines _ c.self.invariant c.self.view_is c.requires.exists in
    omega (arith, h.stored, c.self.inside.stored.ok.0)

pub returns-then-is_some-clause-call : goal.returns-then-is_some-clause-call
returns-then-is_some-clause-call c =
    let ss = c.self.inside.stored.items in
    let h = here_in c.args.m _ _ c.self.inside.lines _ c.self.invariant c.self.view_is c.requires.exists in
    let stored = stored_at h _ c.index.ensures in
    let some = some_of c.index.result.now.content (sym c.is_some.ensures ∙ c.if-is_some.true) in
    let full : (get_or ss c.args.m no_content).content ≡ Some some.0 = sym (ap (λ (x : Stored). x.content) stored) ∙ some.1 in
    λ t. is_same_call (Try_put t c.args.v) c.args.m c.args.self.now c.args.self.now _ (try_put_full t (cell_at c.args.m c.args.self.now) c.args.v some.0 (content_is h (Some some.0) full)) refl

pub returns-then-is_some-clause-to : goal.returns-then-is_some-clause-to
returns-then-is_some-clause-to c =
    let ss = c.self.inside.stored.items in
    let h = here_in c.args.m _ _ c.self.inside.lines _ c.self.invariant c.self.view_is c.requires.exists in
    let stored = stored_at h _ c.index.ensures in
    let some = some_of c.index.result.now.content (sym c.is_some.ensures ∙ c.if-is_some.true) in
    let full : (get_or ss c.args.m no_content).content ≡ Some some.0 = sym (ap (λ (x : Stored). x.content) stored) ∙ some.1 in
    (some.0, content_is h (Some some.0) full)

pub serve-requires : goal.serve-requires
serve-requires c =
    let h = here_in c.args.m _ _ c.self.inside.lines _ c.self.invariant c.self.view_is c.requires.exists in
    h.lines

pub index_mut-requires : goal.index_mut-requires
index_mut-requires c =
    let h = here_in c.args.m _ _ c.self.inside.lines _ c.self.invariant c.self.view_is c.requires.exists in
    omega (arith, h.stored, c.self.inside.stored.ok.0)

pub returns-in_default-clause-call : goal.returns-in_default-clause-call
returns-in_default-clause-call c =
    let ss = c.self.inside.stored.items in
    let h = here_in c.args.m _ _ c.self.inside.lines _ c.self.invariant c.self.view_is c.requires.exists in
    let stored = stored_at h _ c.index.ensures in
    let e : (get_or ss c.args.m no_content).content ≡ None = sym (ap (λ (x : Stored). x.content) stored) ∙ none_of c.index.result.now.content (sym c.is_some.ensures ∙ c.if-is_some.false) in
    let served = c.in_default.ensures {u = tt} in
    λ t. puts_last h _ (record { content = Some c.args.v; readers = c.index_mut.result.now.readers }) c.serve.new.self.lines c.args.v t e refl c.requires.no_reader served.served.0 served.served.1 refl

pub returns-in_default-clause-to : goal.returns-in_default-clause-to
returns-in_default-clause-to c =
    let ss = c.self.inside.stored.items in
    let h = here_in c.args.m _ _ c.self.inside.lines _ c.self.invariant c.self.view_is c.requires.exists in
    let stored = stored_at h _ c.index.ensures in
    let e : (get_or ss c.args.m no_content).content ≡ None = sym (ap (λ (x : Stored). x.content) stored) ∙ none_of c.index.result.now.content (sym c.is_some.ensures ∙ c.if-is_some.false) in
    let served = c.in_default.ensures {u = tt} in
    is_empty h None e (ap first_take served.served.0)

pub unreachable-requires : goal.unreachable-requires
unreachable-requires c =
    let ss = c.self.inside.stored.items in
    let h = here_in c.args.m _ _ c.self.inside.lines _ c.self.invariant c.self.view_is c.requires.exists in
    let stored = stored_at h _ c.index.ensures in
    let e : (get_or ss c.args.m no_content).content ≡ None = sym (ap (λ (x : Stored). x.content) stored) ∙ none_of c.index.result.now.content (sym c.is_some.ensures ∙ c.if-is_some.false) in
    let served = c.in-Some.ensures {u = tt} in
    let rest = line_of c.serve.new.self c.args.m in
    elim c.in-Read.is [
      | inl read ↦ none_reads_first c.args.m c.in-Some.taker (cell_at c.args.m c.args.self.now).line rest c.requires.no_reader (seen_line h ∙ served.served ∙ ap (λ w. place c.in-Some.taker w ∷ rest) read)
      | inr put ↦ none_first_puts h c.in-Some.taker put.0 rest e (served.served ∙ ap (λ w. place c.in-Some.taker w ∷ rest) put.1)
    ]

pub returns-clause-call : goal.returns-clause-call
returns-clause-call c =
    let ss = c.self.inside.stored.items in
    let h = here_in c.args.m _ _ c.self.inside.lines _ c.self.invariant c.self.view_is c.requires.exists in
    let stored = stored_at h _ c.index.ensures in
    let e : (get_or ss c.args.m no_content).content ≡ None = sym (ap (λ (x : Stored). x.content) stored) ∙ none_of c.index.result.now.content (sym c.is_some.ensures ∙ c.if-is_some.false) in
    let served = c.in-Some.ensures {u = tt} in
    let rest = line_of c.serve.new.self c.args.m in
    let line = served.served ∙ ap (λ w. place c.in-Some.taker w ∷ rest) c.in-Take.is in
    λ t. puts_and_serves h _ c.serve.new.self.lines rest c.args.v c.in-Some.taker t e c.requires.no_reader line served.lines refl

pub returns-clause-to : goal.returns-clause-to
returns-clause-to c =
    let ss = c.self.inside.stored.items in
    let h = here_in c.args.m _ _ c.self.inside.lines _ c.self.invariant c.self.view_is c.requires.exists in
    let stored = stored_at h _ c.index.ensures in
    let e : (get_or ss c.args.m no_content).content ≡ None = sym (ap (λ (x : Stored). x.content) stored) ∙ none_of c.index.result.now.content (sym c.is_some.ensures ∙ c.if-is_some.false) in
    let served = c.in-Some.ensures {u = tt} in
    let rest = line_of c.serve.new.self c.args.m in
    let line = served.served ∙ ap (λ w. place c.in-Some.taker w ∷ rest) c.in-Take.is in
    (refl, is_empty h (Some c.in-Some.taker) e (ap first_take line))
