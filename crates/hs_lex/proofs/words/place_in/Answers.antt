use Rattle.std.proofs.Common.{◌≡◌, ℕ, List, get_or, sym, ◌∙◌, subst}
use Rattle.std.proofs.lemmas.Bool.{false≢true}
use Rattle.std.proofs.lemmas.Slice.Eq.{bytes_eq-Decides}
use Rattle.hs_lex.specs.Fronts.{IsRow}
use Rattle.hs_lex.proofs.Tables.{no_row, row_at, other_more, other_all}
use Rattle.hs_lex.proofs.words.place_in.Goals.{else-may_be-via-then-may_be+else-eq, else-may_be-via-else-may_be}
use Rattle.hs_lex.proofs.words.place_in.Goals as goal

pub returns-then-eq-clause-place : goal.returns-then-eq-clause-place
returns-then-eq-clause-place c =
    let row : List ℕ = (get_or c.args.table.now c.loop-number.number no_row).now in
    let same : row ≡ c.args.text.now = (bytes_eq-Decides row c.args.text.now).0 (sym c.eq.ensures ∙ c.if-eq.true) in
    subst (IsRow c.args.table.now c.loop-number.number) same (row_at c.args.table.now c.loop-number.number c.loop-number-test.true)

pub loop-number-preserved : goal.loop-number-preserved
loop-number-preserved c =
    let row : List ℕ = (get_or c.args.table.now c.loop-number.number no_row).now in
    let differs : row ≡ c.args.text.now → ⊥ = elim c.else-may_be.branch [
      | else-may_be-via-then-may_be+else-eq w ↦ λ e. false≢true (sym w.if-eq.false ∙ (w.eq.ensures ∙ (bytes_eq-Decides row c.args.text.now).1 e))
      | else-may_be-via-else-may_be w ↦ c.may_be.ensures w.if-may_be.false
    ] in
    other_more c.args.table.now c.loop-number.number row c.args.text.now (row_at c.args.table.now c.loop-number.number c.loop-number-test.true) differs c.loop-number.invariant

pub returns-clause-place : goal.returns-clause-place
returns-clause-place c = other_all c.args.table.now c.loop-number.number c.args.text.now c.loop-number-test.false c.loop-number.invariant
