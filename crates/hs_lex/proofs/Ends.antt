-- The characters of bytes that are a text, and where bytes stop being one.
use Rattle.std.proofs.Common.{◌≡◌, ℕ, ◌+◌, ◌<◌, ◌≤◌, List, [], ◌∷◌, ◌++◌, length, take, drop, true, refl, sym, ap, ◌∙◌, subst, arith, append-nil, length-drop}
use Rattle.std.specs.Str.{encode_utf8_all, all_scalars, chars, IsUtf8, IsValidUpTo, StartsWithNoChar, IsCharBoundary}
use Rattle.std.specs.Char.{encode_utf8, IsScalar}
use Rattle.std.proofs.lemmas.Bool.{and_parts, and_from}
use Rattle.std.proofs.lemmas.List.{take-append-drop, take_all}
use Rattle.std.proofs.lemmas.Str.{encodes-append, encodes-chars, scalars-chars, length-encode, len_utf8_bounds}
use Rattle.std.proofs.Math.Seq.{drop-append_seam}
use lib.Utf8.{scalar}
use Rattle.hs_base.specs.declared.pos.Pos.{Pos}
use Rattle.rules_tokens.specs.Tokens.{IsTextOf, IsNoText, position_after}
use Rattle.hs_lex.specs.declared.place.Place.{Place}
use Rattle.hs_lex.specs.Fronts.{IsCut, IsPlace}
use Rattle.hs_lex.proofs.Streams.{drop_cut}
use Rattle.hs_lex.proofs.Texts.{text_boundary}

pub text_of_chars : (text cs : List ℕ) → IsUtf8 text → cs ≡ chars text → IsTextOf text cs
text_of_chars text cs u e = subst (IsTextOf text) (sym e) (scalars-chars text u, sym (encodes-chars text u))

pub text_small : (text cs : List ℕ) (n : ℕ) → IsTextOf text cs → length text < n → length (encode_utf8_all cs) < n
text_small text cs n same small = subst (λ z. length z < n) same.1 small

pub end_place : (text cs : List ℕ) (p : Place) → IsTextOf text cs → IsPlace cs p → length cs ≤ p.at → (ds : List ℕ) × IsTextOf text ds × (p.pos ≡ position_after ds)
end_place text cs p same a past = (cs, same, a.pos ∙ ap position_after (take_all p.at cs past))

-- ---- bytes that are no text

scalars-push : (cs : List ℕ) (c : ℕ) → all_scalars cs ≡ true → IsScalar c → all_scalars (cs ++ c ∷ []) ≡ true
scalars-push [] c all s = and_from (scalar c) true s refl
scalars-push (x ∷ xs) c all s =
    let both = and_parts (scalar x) (all_scalars xs) all in and_from (scalar x) (all_scalars (xs ++ c ∷ [])) both.0 (scalars-push xs c both.1 s)

-- behind the longest front that is a text no character begins
no_char : (bytes : List ℕ) (n : ℕ) (cs : List ℕ) → IsValidUpTo bytes n → IsTextOf (take n bytes) cs → StartsWithNoChar (drop n bytes)
no_char bytes n cs valid same c rest s e =
    let k : ℕ = length (encode_utf8 c) in
    let within : n ≤ length bytes = let short = valid.short in omega arith in
    let cut : IsCut (drop n bytes) k (encode_utf8 c) rest = record { whole = sym e; len = refl } in
    let longer : take (n + k) bytes ≡ take n bytes ++ encode_utf8 c = (drop_cut bytes n k (encode_utf8 c) rest within cut).0 in
    let spells : encode_utf8_all (cs ++ c ∷ []) ≡ take (n + k) bytes =
    encodes-append cs (c ∷ []) ∙ (ap (λ z. encode_utf8_all cs ++ z) (append-nil (encode_utf8 c)) ∙ (ap (λ z. z ++ encode_utf8 c) (sym same.1) ∙ sym longer)) in
    valid.longest (n + k) (omega (arith, length-encode c, (len_utf8_bounds c).0)) (cs ++ c ∷ [], (scalars-push cs c same.0 s, spells))

pub no_text_at : (bytes text : List ℕ) (n : ℕ) (at : Pos) → IsValidUpTo bytes n → text ≡ take n bytes → (cs : List ℕ) × IsTextOf text cs × (at ≡ position_after cs) → IsNoText bytes at
no_text_at bytes text n at valid front (cs, same, place) =
    let here : IsTextOf (take n bytes) cs = subst (λ z. IsTextOf z cs) front same in
    record {
      characters = cs;
      rest = drop n bytes;
      scalars = here.0;
      split = sym (take-append-drop n bytes) ∙ ap (λ z. z ++ drop n bytes) here.1;
      more = let short = valid.short in omega (arith, length-drop n bytes);
      none = no_char bytes n cs valid here;
      place = place;
    }

-- ---- a text cut at a place among its characters

pub place_boundary : (text cs : List ℕ) (p : Place) → IsUtf8 text → IsTextOf text cs → IsPlace cs p → IsCharBoundary text p.byte
place_boundary text cs p u same a =
    subst (IsCharBoundary text) (sym a.byte) (text_boundary text (take p.at cs) (drop p.at cs) u (same.1 ∙ ap encode_utf8_all (sym (take-append-drop p.at cs))))

pub place_rest : (text cs : List ℕ) (p : Place) → IsTextOf text cs → IsPlace cs p → drop p.byte text ≡ encode_utf8_all (drop p.at cs)
place_rest text cs p same a =
    let split : text ≡ encode_utf8_all (take p.at cs) ++ encode_utf8_all (drop p.at cs) = same.1 ∙ (ap encode_utf8_all (sym (take-append-drop p.at cs)) ∙ encodes-append (take p.at cs) (drop p.at cs)) in
    ap (λ k. drop k text) a.byte ∙ (ap (drop (length (encode_utf8_all (take p.at cs)))) split ∙ drop-append_seam (encode_utf8_all (take p.at cs)) (encode_utf8_all (drop p.at cs)))
