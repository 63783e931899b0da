use Rattle.std.proofs.Common.{◌≡◌, ℕ, List, Option, ◌+◌, ◌-◌, length, take, drop, subst, sym, ap, ◌∙◌}
use Rattle.std.specs.Prelude.{not}
use Rattle.std.specs.List.{position}
use Rattle.std.specs.Option.{unwrap_or}
use Rattle.std.specs.Str.{encode_utf8_all}
use Rattle.rules_tokens.specs.Tokens.{continues_word, IsWord}
use Rattle.std.proofs.lemmas.List.{take-append-drop}
use Rattle.plain_laws.proofs.Lists.{slice_from}
use Rattle.hs_lex.proofs.Cuts.{cut_take}
use Rattle.hs_lex.proofs.Runs.{IsRun, run_while}
use Rattle.hs_lex.proofs.Pieces.{word_run, word_front}
use Rattle.hs_lex.proofs.words.word.Goals as goal

-- how far the word goes
tail_run : (rest : List ℕ) (found : Option ℕ) (len : ℕ) → found ≡ position (λ x. not (continues_word x)) (take (length rest - 1) (drop 1 rest)) → len ≡ unwrap_or found (length (take (length rest - 1) (drop 1 rest)))
    → IsRun continues_word (drop 1 rest) len
tail_run rest found len e f =
    let same = slice_from rest 1 in
    let ends : found ≡ position (λ x. not (continues_word x)) (drop 1 rest) = e ∙ ap (position (λ x. not (continues_word x))) same in
    let is : len ≡ unwrap_or (position (λ x. not (continues_word x)) (drop 1 rest)) (length (drop 1 rest)) =
    f ∙ (ap (λ z. unwrap_or z (length (take (length rest - 1) (drop 1 rest)))) ends ∙ ap (λ z. unwrap_or (position (λ x. not (continues_word x)) (drop 1 rest)) (length z)) same) in
    subst (IsRun continues_word (drop 1 rest)) (sym is) (run_while continues_word (drop 1 rest))

pub text_of-requires : goal.text_of-requires
text_of-requires c =
    (drop (1 + c.unwrap_or-len.result) c.args.rest.now, c.requires.same ∙ ap encode_utf8_all (sym (take-append-drop (1 + c.unwrap_or-len.result) c.args.rest.now)))

pub word_token-requires-clause-word : goal.word_token-requires-clause-word
word_token-requires-clause-word c =
    let front = word_run c.args.rest.now c.unwrap_or-len.result c.requires.begins (tail_run c.args.rest.now c.word_end.result c.unwrap_or-len.result c.word_end.ensures c.unwrap_or-len.ensures) in
    subst IsWord (sym (cut_take c.args.rest.now (1 + c.unwrap_or-len.result) front.chars front.after front.cut)) front.word

pub returns : goal.returns
returns c =
    let front = word_run c.args.rest.now c.unwrap_or-len.result c.requires.begins (tail_run c.args.rest.now c.word_end.result c.unwrap_or-len.result c.word_end.ensures c.unwrap_or-len.ensures) in
    word_front c.args.rest.now (1 + c.unwrap_or-len.result) c.in_ok-tok.tok front c.in_ok-tok.ensures
