use Rattle.std.proofs.Common.{◌≡◌, ℕ, ◌<◌, ◌+◌, ◌^◌, get_or, sym, ap, ◌∙◌, subst, arith}
use Rattle.std.specs.Char.{len_utf8}
use Rattle.hs_base.specs.declared.pos.Pos.{Pos}
use Rattle.hs_lex.specs.declared.place.Place.{Place}
use Rattle.hs_lex.specs.Fronts.{IsPlace}
use Rattle.hs_lex.proofs.Cuts.{item_at}
use Rattle.hs_lex.proofs.Places.{line_fits, col_fits, byte_fits, place_feed, place_other}
use Rattle.hs_lex.proofs.place.Place.next.Goals.{then-is_line_feed, else-is_line_feed}
use Rattle.hs_lex.proofs.place.Place.next.Goals as goal

pub overflow_add-pos : goal.overflow_add-pos
overflow_add-pos c =
    let small : c.args.self.pos.line + 1 < 2 ^ 32 = line_fits c.args.chars.now c.args.self c.requires.place c.requires.more c.requires.small in
    omega arith

pub overflow_add-pos-else-is_line_feed : goal.overflow_add-pos-else-is_line_feed
overflow_add-pos-else-is_line_feed c =
    let small : c.args.self.pos.col + 1 < 2 ^ 32 = col_fits c.args.chars.now c.args.self c.requires.place c.requires.more c.requires.small in
    omega arith

pub overflow_add-result-2 : goal.overflow_add-result-2
overflow_add-result-2 c =
    let item : get_or c.args.chars.now c.args.self.at 0 ≡ c.index-chars-self.result = item_at c.args.chars.now c.args.self.at c.index-chars-self.result c.requires.more c.index-chars-self.is in
    let small : c.args.self.byte + len_utf8 c.index-chars-self.result < 2 ^ 32 =
    byte_fits c.args.chars.now c.args.self c.index-chars-self.result c.requires.place c.requires.more item c.requires.small in
    omega (arith, c.len_utf8.ensures.value)

pub returns-clause-place : goal.returns-clause-place
returns-clause-place c =
    let item : get_or c.args.chars.now c.args.self.at 0 ≡ c.index-chars-self.result = item_at c.args.chars.now c.args.self.at c.index-chars-self.result c.requires.more c.index-chars-self.is in
    let of : ℕ → Pos → Place = λ k p. record { at = c.args.self.at + 1; byte = c.args.self.byte + k; pos = p } in
    elim c.if-is_line_feed.branch [
      | then-is_line_feed w ↦
          subst (IsPlace c.args.chars.now) (ap (λ k. of k (record { line = c.args.self.pos.line + 1; col = 1 })) (sym c.len_utf8.ensures.value) ∙ ap (of c.len_utf8.result) (sym w.pos-is))
          (place_feed c.args.chars.now c.args.self c.index-chars-self.result c.requires.place c.requires.more item (sym c.is_line_feed.ensures ∙ w.if-is_line_feed.true))
      | else-is_line_feed w ↦
          subst (IsPlace c.args.chars.now) (ap (λ k. of k (record { line = c.args.self.pos.line; col = c.args.self.pos.col + 1 })) (sym c.len_utf8.ensures.value) ∙ ap (of c.len_utf8.result) (sym w.pos-is))
          (place_other c.args.chars.now c.args.self c.index-chars-self.result c.requires.place c.requires.more item (sym c.is_line_feed.ensures ∙ w.if-is_line_feed.false))
    ]
