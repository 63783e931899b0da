use Rattle.std.proofs.Common.{◌≡◌, ◌∷◌, ap, sym, ◌∙◌, length, arith}
use Rattle.trace_text.proofs.EntryLines.{read_behind, one_entry}
use Rattle.trace_text.proofs.lines.entry_at.Goals as goal

pub returns-in_err-entry : goal.returns-in_err-entry
returns-in_err-entry c =
    rw c.from_residual-in_err-entry.ensures
    (λ e rest fits h. c.in_err-entry.ensures e (10 ∷ rest) (read_behind c.args.bytes.now c.in_ok-letter.letter.now c.in_ok-letter.fields.now e rest fits c.in_ok-letter.ensures.cases.0 h))

pub returns-in_err-byte : goal.returns-in_err-byte
returns-in_err-byte c =
    rw c.from_residual-in_err-byte.ensures
    (λ e rest fits h.
    let read = read_behind c.args.bytes.now c.in_ok-letter.letter.now c.in_ok-letter.fields.now e rest fits c.in_ok-letter.ensures.cases.0 h in
    let same = one_entry c.in_ok-letter.letter.now c.in_ok-letter.fields.now c.in_ok-entry.entry e c.in_ok-entry.end.now (10 ∷ rest) c.in_ok-entry.ensures read in
    omega (arith, ap length same.1, c.in_err-byte.ensures.cases))

pub returns-then-byte-ne10 : goal.returns-then-byte-ne10
returns-then-byte-ne10 c e rest fits h =
    let read = read_behind c.args.bytes.now c.in_ok-letter.letter.now c.in_ok-letter.fields.now e rest fits c.in_ok-letter.ensures.cases.0 h in
    let same = one_entry c.in_ok-letter.letter.now c.in_ok-letter.fields.now c.in_ok-entry.entry e c.in_ok-entry.end.now (10 ∷ rest) c.in_ok-entry.ensures read in
    let cells : c.in_ok-byte.byte.now ∷ c.in_ok-byte.rest.now ≡ 10 ∷ rest = sym c.in_ok-byte.ensures.cases.0 ∙ same.1 in
    let head : c.in_ok-byte.byte.now ≡ 10 = cc in
    absurd (c.if-byte-ne10.true head)
