use Rattle.std.proofs.Common.{◌≡◌, [], ◌∷◌, ◌++◌, ◌<◌, ◌+◌, length, get_or, sym, ap, ◌∙◌}
use Rattle.std.specs.Char.{encode_utf8}
use Rattle.std.specs.String.{string_bytes}
use Rattle.rules_tokens.specs.Tokens.{backslash}
use Rattle.hs_lex.proofs.Cuts.{item_at}
use Rattle.hs_lex.proofs.Bodies.{IsNext, meant_start, meant_next, meant_plain, meant_behind, meant_escape, meant_wrong, meant_end, bytes_of_push}
use Rattle.hs_lex.proofs.literal.read_body.Goals as goal

pub parts-init : goal.parts-init
parts-init c = ([], meant_start c.args.body.now c.requires, c.new-text.ensures.bytes)

pub bounds-body-at-then-body-at-eq92 : goal.bounds-body-at-then-body-at-eq92
bounds-body-at-then-body-at-eq92 c =
    let (meant, m, text) = c.parts.invariant in
    let slash : get_or c.args.body.now c.parts.at 0 ≡ backslash = item_at c.args.body.now c.parts.at c.index-body-at.result c.parts-test.true c.index-body-at.is ∙ c.if-body-at-eq92.true in
    meant_behind c.args.body.now c.parts.at m.more (meant_next c.args.body.now c.parts.at meant m c.parts-test.true) slash

pub returns-in-None : goal.returns-in-None
returns-in-None c =
    let (meant, m, text) = c.parts.invariant in
    let next : IsNext m.more c.args.body.now c.parts.at = meant_next c.args.body.now c.parts.at meant m c.parts-test.true in
    let slash : get_or c.args.body.now c.parts.at 0 ≡ backslash = item_at c.args.body.now c.parts.at c.index-body-at.result c.parts-test.true c.index-body-at.is ∙ c.if-body-at-eq92.true in
    let room : c.parts.at + 1 < length c.args.body.now = meant_behind c.args.body.now c.parts.at m.more next slash in
    let behind : get_or c.args.body.now (c.parts.at + 1) 0 ≡ c.index-body-at-then-body-at-eq92.result = item_at c.args.body.now (c.parts.at + 1) c.index-body-at-then-body-at-eq92.result room c.index-body-at-then-body-at-eq92.is in
    meant_wrong c.args.body.now c.parts.at meant m.good m.more c.index-body-at-then-body-at-eq92.result m.whole m.right m.len next slash behind (sym c.escaped.ensures ∙ c.in-None.is)

pub parts-preserved-then-body-at-eq92 : goal.parts-preserved-then-body-at-eq92
parts-preserved-then-body-at-eq92 c =
    let (meant, m, text) = c.parts.invariant in
    let next : IsNext m.more c.args.body.now c.parts.at = meant_next c.args.body.now c.parts.at meant m c.parts-test.true in
    let slash : get_or c.args.body.now c.parts.at 0 ≡ backslash = item_at c.args.body.now c.parts.at c.index-body-at.result c.parts-test.true c.index-body-at.is ∙ c.if-body-at-eq92.true in
    let room : c.parts.at + 1 < length c.args.body.now = meant_behind c.args.body.now c.parts.at m.more next slash in
    let behind : get_or c.args.body.now (c.parts.at + 1) 0 ≡ c.index-body-at-then-body-at-eq92.result = item_at c.args.body.now (c.parts.at + 1) c.index-body-at-then-body-at-eq92.result room c.index-body-at-then-body-at-eq92.is in (
      meant ++ c.in-Some.c ∷ [],
      meant_escape c.args.body.now c.parts.at meant m.good m.more c.in-Some.c c.index-body-at-then-body-at-eq92.result m.whole m.right m.len next slash behind (sym c.escaped.ensures ∙ c.in-Some.is),
      bytes_of_push meant c.in-Some.c (string_bytes c.parts.text) (string_bytes c.push.new.self) text c.in_ok-push-in-Some.ensures.bytes,
    )

pub parts-preserved : goal.parts-preserved
parts-preserved c =
    let (meant, m, text) = c.parts.invariant in
    let next : IsNext m.more c.args.body.now c.parts.at = meant_next c.args.body.now c.parts.at meant m c.parts-test.true in
    let item : get_or c.args.body.now c.parts.at 0 ≡ c.index-body-at.result = item_at c.args.body.now c.parts.at c.index-body-at.result c.parts-test.true c.index-body-at.is in
    let again : get_or c.args.body.now c.parts.at 0 ≡ c.index-body-at-else-body-at-eq92.result = item_at c.args.body.now c.parts.at c.index-body-at-else-body-at-eq92.result c.parts-test.true c.index-body-at-else-body-at-eq92.is in
    let bytes : string_bytes c.push-else-body-at-eq92.new.self ≡ string_bytes c.parts.text ++ encode_utf8 (get_or c.args.body.now c.parts.at 0) =
    c.in_ok-push.ensures.bytes ∙ ap (λ z. string_bytes c.parts.text ++ encode_utf8 z) (sym again) in (
      meant ++ get_or c.args.body.now c.parts.at 0 ∷ [],
      meant_plain c.args.body.now c.parts.at meant m.good m.more m.whole m.right m.len next (λ e. c.if-body-at-eq92.false (sym item ∙ e)),
      bytes_of_push meant (get_or c.args.body.now c.parts.at 0) (string_bytes c.parts.text) (string_bytes c.push-else-body-at-eq92.new.self) text bytes,
    )

pub returns : goal.returns
returns c =
    let (meant, m, text) = c.parts.invariant in
    let (ps, body, stands) = meant_end c.args.body.now c.parts.at meant m c.parts-test.false in
    (ps, meant, body, stands, c.in_ok-text.ensures ∙ text)
