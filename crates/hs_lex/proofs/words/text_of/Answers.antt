use Rattle.std.proofs.Common.{◌≡◌, ◌+◌, length, get_or, take, ap, ◌∙◌, arith}
use Rattle.std.specs.Str.{encode_utf8_all}
use Rattle.hs_lex.proofs.Cuts.{item_at}
use Rattle.hs_lex.proofs.Texts.{bytes_next, bytes_room, front_boundary, front_text, range_front}
use Rattle.hs_lex.proofs.words.text_of.Goals as goal

pub overflow_add-len : goal.overflow_add-len
overflow_add-len c =
    let item : get_or c.args.chars.now c.loop-c.c-index 0 ≡ c.c-item.result = item_at c.args.chars.now c.loop-c.c-index c.c-item.result c.loop-c-test.true c.c-item.is in
    let room = bytes_room c.args.text.now c.args.chars.now c.requires.0 (c.loop-c.c-index + 1) c.requires.1 in
    let next = bytes_next c.args.chars.now c.loop-c.c-index c.c-item.result c.loop-c-test.true item in
    omega (arith, room, next, c.loop-c.invariant, c.len_utf8-len.ensures.value)

pub loop-c-preserved : goal.loop-c-preserved
loop-c-preserved c =
    let item : get_or c.args.chars.now c.loop-c.c-index 0 ≡ c.c-item.result = item_at c.args.chars.now c.loop-c.c-index c.c-item.result c.loop-c-test.true c.c-item.is in
    ap (λ k. k + c.len_utf8-len.result) c.loop-c.invariant ∙ (ap (λ k. length (encode_utf8_all (take c.loop-c.c-index c.args.chars.now)) + k) c.len_utf8-len.ensures.value
    ∙ bytes_next c.args.chars.now c.loop-c.c-index c.c-item.result c.loop-c-test.true item)

pub range-requires-clause-end_boundary : goal.range-requires-clause-end_boundary
range-requires-clause-end_boundary c = front_boundary c.args.text.now c.args.chars.now c.requires.0 c.loop-c.c-index c.loop-c.len c.utf8.text c.requires.1 c.loop-c-test.false c.loop-c.invariant

pub returns : goal.returns
returns c = c.range.ensures.value ∙ (range_front c.args.text.now c.loop-c.len ∙ front_text c.args.text.now c.args.chars.now c.requires.0 c.loop-c.c-index c.loop-c.len c.requires.1 c.loop-c-test.false c.loop-c.invariant)
