use Rattle.std.proofs.Common.{◌≡◌, ◌<◌, ◌+◌, length, get_or, ◌∙◌, arith}
use Rattle.rules_tokens.specs.Tokens.{backslash}
use Rattle.hs_lex.proofs.Cuts.{item_at}
use Rattle.hs_lex.proofs.Bodies.{body_plain, body_escape, body_end, body_line, body_last, body_broken}
use Rattle.hs_lex.proofs.literal.body_len.Goals.{then-at-inside-via-then-at-inside, then-at-inside-via-else-at-inside+then-inside-at-eq10}
use Rattle.hs_lex.proofs.literal.body_len.Goals as goal

pub returns-in-10 : goal.returns-in-10
returns-in-10 c =
    body_line c.args.inside.now c.parts.at c.parts.invariant c.parts-test.true (item_at c.args.inside.now c.parts.at c.index-inside-at.result c.parts-test.true c.index-inside-at.is ∙ c.in-10.is)

pub returns-then-at-inside : goal.returns-then-at-inside
returns-then-at-inside c =
    let slash : get_or c.args.inside.now c.parts.at 0 ≡ backslash = item_at c.args.inside.now c.parts.at c.index-inside-at.result c.parts-test.true c.index-inside-at.is ∙ c.in-92.is in
    elim c.then-at-inside.branch [
      | then-at-inside-via-then-at-inside w ↦ body_last c.args.inside.now c.parts.at c.parts.invariant w.if-at-inside.true slash
      | then-at-inside-via-else-at-inside+then-inside-at-eq10 w ↦
          (let room : c.parts.at + 1 < length c.args.inside.now = let more = c.parts-test.true in let differs = w.if-at-inside.false in omega arith in
          body_broken c.args.inside.now c.parts.at c.parts.invariant room slash
          (item_at c.args.inside.now (c.parts.at + 1) w.index-inside-at-else-at-inside.result room w.index-inside-at-else-at-inside.is ∙ w.if-inside-at-eq10.true))
    ]

pub parts-preserved-in-92 : goal.parts-preserved-in-92
parts-preserved-in-92 c =
    let slash : get_or c.args.inside.now c.parts.at 0 ≡ backslash = item_at c.args.inside.now c.parts.at c.index-inside-at.result c.parts-test.true c.index-inside-at.is ∙ c.in-92.is in
    let more = c.parts-test.true in
    let differs = c.if-at-inside.false in
    let room : c.parts.at + 1 < length c.args.inside.now = omega arith in
    let behind : get_or c.args.inside.now (c.parts.at + 1) 0 ≡ c.index-inside-at-else-at-inside.result =
    item_at c.args.inside.now (c.parts.at + 1) c.index-inside-at-else-at-inside.result room c.index-inside-at-else-at-inside.is in
    body_escape c.args.inside.now c.parts.at c.index-inside-at-else-at-inside.result c.parts.invariant room slash behind c.if-inside-at-eq10.false

pub parts-preserved : goal.parts-preserved
parts-preserved c =
    let item : get_or c.args.inside.now c.parts.at 0 ≡ c.index-inside-at.result = item_at c.args.inside.now c.parts.at c.index-inside-at.result c.parts-test.true c.index-inside-at.is in
    body_plain c.args.inside.now c.parts.at c.index-inside-at.result c.parts.invariant c.parts-test.true item (λ e. omega arith) (λ e. omega arith) (λ e. omega arith)

pub returns : goal.returns
returns c = body_end c.args.inside.now c.parts.at c.parts.invariant c.parts-test.false
