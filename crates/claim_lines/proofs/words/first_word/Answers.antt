use Rattle.std.proofs.Common.{arith}
use Rattle.std.specs.Char.{is_ascii_lowercase}
use Rattle.std.proofs.lemmas.List.Sums.{prefix_len-le-length}
use Rattle.claim_lines.proofs.Spelled.{letters_pass, spells_letters, spells_wrong, spells_open, spells_text}
use Rattle.claim_lines.proofs.words.first_word.Goals as goal

pub front-requires : goal.front-requires
front-requires c = omega (arith, c.letters_len-len.ensures, prefix_len-le-length is_ascii_lowercase c.args.text.now)

pub text_of-requires : goal.text_of-requires
text_of-requires c = letters_pass c.args.text.now c.front.result.now c.letters_len-len.result c.letters_len-len.ensures c.front.ensures

pub returns-then-len-gt0 : goal.returns-then-len-gt0
returns-then-len-gt0 c =
    spells_letters c.args.text.now c.front.result.now c.in_ok-letters.letters c.letters_len-len.result c.letters_len-len.ensures c.front.ensures c.in_ok-letters.ensures c.if-len-gt0.true

pub returns-then-text-ne34 : goal.returns-then-text-ne34
returns-then-text-ne34 c =
    spells_wrong c.args.text.now c.letters_len-len.result c.index-text-0.result c.requires c.letters_len-len.ensures c.if-len-gt0.false c.index-text-0.is c.if-text-ne34.true

pub returns-in-Some : goal.returns-in-Some
returns-in-Some c =
    spells_text c.args.text.now c.past.result.now c.in-Some.meant c.in-Some.len c.index-text-0.result c.requires c.index-text-0.is c.if-text-ne34.false c.past.ensures
    (rw c.in-Some.is at c.in_ok-meant.ensures)

pub returns-in-None : goal.returns-in-None
returns-in-None c =
    spells_open c.args.text.now c.past.result.now c.letters_len-len.result c.index-text-0.result c.requires c.letters_len-len.ensures c.if-len-gt0.false c.index-text-0.is c.if-text-ne34.false c.past.ensures
    (rw c.in-None.is at c.in_ok-meant.ensures)
