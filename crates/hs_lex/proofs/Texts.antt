-- The bytes of the characters at the front of a text.
use Rattle.std.proofs.Common.{◌≡◌, ℕ, ◌+◌, ◌-◌, ◌<◌, ◌≤◌, true, List, [], ◌∷◌, ◌++◌, length, take, get_or, refl, sym, ap, ◌∙◌, subst, arith}
use Rattle.std.specs.Prelude.{slice_range}
use Rattle.std.specs.Char.{len_utf8}
use Rattle.std.specs.Str.{encode_utf8_all, IsUtf8, IsCharBoundary, all_scalars}
use Rattle.std.proofs.lemmas.List.{take_more, take_all}
use Rattle.std.proofs.lemmas.Bool.{and_parts}
use lib.Utf8.{scalar}
use Rattle.std.proofs.Math.Seq.{take-append_seam}
use Rattle.std.proofs.lemmas.Str.{encodes-append, encodes_same, IsCharBoundary-at_seam}
use Rattle.hs_lex.proofs.Places.{bytes_push, bytes_front, bytes_take}

pub bytes_next : (cs : List ℕ) (i c : ℕ) → i < length cs → get_or cs i 0 ≡ c → length (encode_utf8_all (take i cs)) + len_utf8 c ≡ length (encode_utf8_all (take (i + 1) cs))
bytes_next cs i c more e =
    let next : take (i + 1) cs ≡ take i cs ++ c ∷ [] = take_more cs i 0 more ∙ ap (λ z. take i cs ++ z ∷ []) e in
    sym (bytes_push (take i cs) c) ∙ ap (λ z. length (encode_utf8_all z)) (sym next)

pub bytes_room : (text cs after : List ℕ) (i : ℕ) → text ≡ encode_utf8_all (cs ++ after) → length (encode_utf8_all (take i cs)) ≤ length text
bytes_room text cs after i e = omega (arith, ap length e, bytes_front cs after, bytes_take i cs)

scalars_after : (xs ys : List ℕ) → all_scalars (xs ++ ys) ≡ true → all_scalars ys ≡ true
scalars_after [] ys e = e
scalars_after (x ∷ xs) ys e = scalars_after xs ys ((and_parts (scalar x) (all_scalars (xs ++ ys)) e).1)

pub after_utf8 : (text cs after : List ℕ) → IsUtf8 text → text ≡ encode_utf8_all (cs ++ after) → IsUtf8 (encode_utf8_all after)
after_utf8 text cs after u e =
    let same : u.0 ≡ cs ++ after = encodes_same u.0 (cs ++ after) (u.1.1 ∙ e) in
    (after, (scalars_after cs after (ap all_scalars (sym same) ∙ u.1.0), refl))

pub text_boundary : (text cs after : List ℕ) → IsUtf8 text → text ≡ encode_utf8_all (cs ++ after) → IsCharBoundary text (length (encode_utf8_all cs))
text_boundary text cs after u e = IsCharBoundary-at_seam text (encode_utf8_all cs) (encode_utf8_all after) (e ∙ encodes-append cs after) (after_utf8 text cs after u e)

pub front_boundary : (text cs after : List ℕ) (i len : ℕ) → IsUtf8 text → text ≡ encode_utf8_all (cs ++ after) → length cs ≤ i → len ≡ length (encode_utf8_all (take i cs)) → IsCharBoundary text len
front_boundary text cs after i len u e past is =
    subst (IsCharBoundary text) (sym (is ∙ ap (λ z. length (encode_utf8_all z)) (take_all i cs past))) (text_boundary text cs after u e)

pub front_text : (text cs after : List ℕ) (i len : ℕ) → text ≡ encode_utf8_all (cs ++ after) → length cs ≤ i → len ≡ length (encode_utf8_all (take i cs)) → take len text ≡ encode_utf8_all cs
front_text text cs after i len e past is =
    ap (λ k. take k text) (is ∙ ap (λ z. length (encode_utf8_all z)) (take_all i cs past))
    ∙ (ap (take (length (encode_utf8_all cs))) (e ∙ encodes-append cs after) ∙ take-append_seam (encode_utf8_all cs) (encode_utf8_all after))

-- `&text[..n]`
pub range_front : (text : List ℕ) (n : ℕ) → slice_range text 0 n ≡ take n text
range_front text n = let all : n - 0 ≡ n = omega arith in ap (λ k. take k text) all
