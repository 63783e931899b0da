-- A text literal, read part by part up to its closing quote, or to where it is none.
use Rattle.std.proofs.Common.{◌≡◌, ◌≢◌, ℕ, ◌+◌, ◌-◌, ◌<◌, ◌≤◌, List, [], ◌∷◌, ◌++◌, length, drop, true, ◌&&◌, ◌||◌, Option, Some, None, refl, sym, ap, ◌∙◌, subst, arith, inl, inr, append_assoc, append-nil, length-append}
use Rattle.std.specs.Prelude.{map, ◌==◌}
use Rattle.std.specs.List.{list_all}
use Rattle.std.specs.Char.{encode_utf8}
use Rattle.std.specs.Str.{encode_utf8_all}
use Rattle.std.proofs.lemmas.Str.{encodes-append}
use Rattle.std.proofs.lemmas.Bool.{and_parts, and_from, or_from, not_from_false, ne_eqb, false≢true}
use Rattle.std.proofs.lemmas.List.{map-append}
use Rattle.std.proofs.lemmas.List.Folds.{list_all-append}
use Rattle.rules_tokens.specs.Tokens.{quote, backslash, line_feed, LiteralPart, Plain, Escape, may_stand, parts_text, literal_text, meaning, escaped, StandFor}
use Rattle.claim_lines.specs.declared.literal.Inside.TheVariants.{Quote, Character}
use Rattle.claim_lines.specs.Words.{BeginsNoText}
use Rattle.claim_lines.specs.Fronts.{IsCut, IsStuck, IsNext, IsText}
use Rattle.claim_lines.proofs.Cuts.{cut_drop, cut_length}

-- ---- where a literal is none

plain_is_no : (c d : ℕ) → may_stand (Plain c) ≡ true → may_stand (Plain d) ≢ true → c ≡ d → ⊥
plain_is_no c d h k e = k (ap (λ z. may_stand (Plain z)) (sym e) ∙ h)

quote_is_no_backslash : quote ≡ backslash → ⊥
quote_is_no_backslash e = omega arith

-- each part means a character
abbrev AllMean : List LiteralPart → Type 0
AllMean [] = Unit {0}
AllMean (p ∷ ps) = ((c : ℕ) × (meaning p ≡ Some c)) × AllMean ps

all_mean : (ps : List LiteralPart) (meant : List ℕ) → StandFor ps meant → AllMean ps
all_mean [] meant e = tt
all_mean (p ∷ ps) [] e = let no : meaning p ∷ map meaning ps ≡ [] = e in absurd (cc no)
all_mean (p ∷ ps) (c ∷ cs) e = let both : meaning p ∷ map meaning ps ≡ Some c ∷ map Some cs = e in ((c, cc), all_mean ps cs (cc))

stuck_quote : (cs : List ℕ) → IsStuck (quote ∷ cs) → ⊥
stuck_quote cs (inl e) = omega arith
stuck_quote cs (inr (e, more)) = omega arith

stuck_plain : (d : ℕ) (cs : List ℕ) → may_stand (Plain d) ≡ true → IsStuck (d ∷ cs) → ⊥
stuck_plain d cs h (inl e) = plain_is_no d line_feed h false≢true e
stuck_plain d cs h (inr (e, more)) = plain_is_no d backslash h false≢true e

no_meaning : (c m : ℕ) → escaped c ≡ Some m → escaped c ≡ None → ⊥
no_meaning c m h k = let both : ◌≡◌ {A = Option ℕ} (Some m) None = sym h ∙ k in cc

stuck_escape : (d : ℕ) (cs : List ℕ) → (c : ℕ) × (escaped d ≡ Some c) → IsStuck (backslash ∷ d ∷ cs) → ⊥
stuck_escape d cs (c, h) (inl e) = omega arith
stuck_escape d cs (c, h) (inr (e, more)) = no_meaning d c h more

stuck_parts : (ps qs : List LiteralPart) (tail y : List ℕ) → list_all may_stand ps ≡ true → list_all may_stand qs ≡ true → AllMean qs → IsStuck tail
    → parts_text ps ++ tail ≡ parts_text qs ++ quote ∷ y → ⊥
stuck_parts [] [] tail y h k a s e = stuck_quote y (subst IsStuck e s)
stuck_parts [] (Plain d ∷ qs) tail y h k a s e = stuck_plain d (parts_text qs ++ quote ∷ y) ((and_parts _ _ k).0) (subst IsStuck e s)
stuck_parts [] (Escape d ∷ qs) tail y h k a s e = stuck_escape d (parts_text qs ++ quote ∷ y) a.0 (subst IsStuck e s)
stuck_parts (Plain c ∷ ps) [] tail y h k a s e = let same : c ≡ quote = cc in plain_is_no c quote ((and_parts _ _ h).0) false≢true same
stuck_parts (Escape c ∷ ps) [] tail y h k a s e = let same : quote ≡ backslash = cc in quote_is_no_backslash same
stuck_parts (Plain c ∷ ps) (Plain d ∷ qs) tail y h k a s e = stuck_parts ps qs tail y ((and_parts _ _ h).1) ((and_parts _ _ k).1) a.1 s (cc)
stuck_parts (Plain c ∷ ps) (Escape d ∷ qs) tail y h k a s e = let same : c ≡ backslash = cc in plain_is_no c backslash ((and_parts _ _ h).0) false≢true same
stuck_parts (Escape c ∷ ps) (Plain d ∷ qs) tail y h k a s e = let same : d ≡ backslash = cc in plain_is_no d backslash ((and_parts _ _ k).0) false≢true same
stuck_parts (Escape c ∷ ps) (Escape d ∷ qs) tail y h k a s e = stuck_parts ps qs tail y ((and_parts _ _ h).1) ((and_parts _ _ k).1) a.1 s (cc)

literal_shape : (ps : List LiteralPart) (x : List ℕ) → literal_text ps ++ x ≡ quote ∷ (parts_text ps ++ quote ∷ x)
literal_shape ps x = ap (λ z. quote ∷ z) (append_assoc (parts_text ps) (quote ∷ []) x)

no_text : (ps : List LiteralPart) (tail : List ℕ) → list_all may_stand ps ≡ true → IsStuck tail → BeginsNoText quote (parts_text ps ++ tail)
no_text ps tail h s front left bytes (qs, meant, stands, is, right, text) e =
    let whole : quote ∷ (parts_text qs ++ quote ∷ left) ≡ quote ∷ (parts_text ps ++ tail) = sym (literal_shape qs left) ∙ (ap (λ z. z ++ left) (sym is) ∙ e) in
    stuck_parts ps qs tail left h stands (all_mean qs meant right) s (cc)

-- ---- how far it is read

-- the characters up to `rest` are parts that stand for these bytes
pub record IsMeantTo (inside rest bytes : List ℕ) : Type 0 where
  pub parts : List LiteralPart
  pub meant : List ℕ
  pub stands : list_all may_stand parts ≡ true
  pub split : parts_text parts ++ rest ≡ inside
  pub right : StandFor parts meant
  pub text : bytes ≡ encode_utf8_all meant

pub meant_start : (inside bytes : List ℕ) → bytes ≡ [] → IsMeantTo inside inside bytes
meant_start inside bytes e = record { parts = []; meant = []; stands = refl; split = refl; right = refl; text = e }

parts_text-append : (ps qs : List LiteralPart) → parts_text (ps ++ qs) ≡ parts_text ps ++ parts_text qs
parts_text-append [] qs = refl
parts_text-append (Plain c ∷ ps) qs = ap (λ z. c ∷ z) (parts_text-append ps qs)
parts_text-append (Escape c ∷ ps) qs = ap (λ z. backslash ∷ c ∷ z) (parts_text-append ps qs)

stand_push : (ps : List LiteralPart) (p : LiteralPart) (cs : List ℕ) (c : ℕ) → StandFor ps cs → meaning p ≡ Some c → StandFor (ps ++ p ∷ []) (cs ++ c ∷ [])
stand_push ps p cs c h m =
    map-append meaning ps (p ∷ []) ∙ (ap (λ z. z ++ meaning p ∷ []) h ∙ (ap (λ z. map Some cs ++ z ∷ []) m ∙ sym (map-append Some cs (c ∷ []))))

bytes_push : (meant : List ℕ) (c : ℕ) (old new : List ℕ) → old ≡ encode_utf8_all meant → new ≡ old ++ encode_utf8 c → new ≡ encode_utf8_all (meant ++ c ∷ [])
bytes_push meant c old new e f =
    f ∙ (ap (λ z. z ++ encode_utf8 c) e ∙ (ap (λ z. encode_utf8_all meant ++ z) (sym (append-nil (encode_utf8 c))) ∙ sym (encodes-append meant (c ∷ []))))

next_cut : (rest more : List ℕ) (p : LiteralPart) (n : ℕ) → rest ≡ parts_text (p ∷ []) ++ more → length (parts_text (p ∷ [])) ≡ n → IsCut rest n (parts_text (p ∷ [])) more
next_cut rest more p n e l = record { whole = sym e; len = l }

pub meant_next : (inside rest bytes new : List ℕ) (c n : ℕ) → IsMeantTo inside rest bytes → IsNext rest (Character c n) → new ≡ bytes ++ encode_utf8 c → IsMeantTo inside (drop n rest) new
meant_next inside rest bytes new c n m (p, more, stands, split, means, len) e =
    let same : drop n rest ≡ more = cut_drop rest n (parts_text (p ∷ [])) more (next_cut rest more p n split len) in
    subst (λ z. IsMeantTo inside z new) (sym same) (record {
      parts = m.parts ++ p ∷ [];
      meant = m.meant ++ c ∷ [];
      stands = list_all-append may_stand m.parts (p ∷ []) ∙ and_from (list_all may_stand m.parts) (may_stand p && true) m.stands (and_from (may_stand p) true stands refl);
      split = ap (λ z. z ++ more) (parts_text-append m.parts (p ∷ [])) ∙ (append_assoc (parts_text m.parts) (parts_text (p ∷ [])) more ∙ (ap (λ z. parts_text m.parts ++ z) (sym split) ∙ m.split));
      right = stand_push m.parts p m.meant c m.right means;
      text = bytes_push m.meant c bytes new m.text e;
    })

some_text : (p : LiteralPart) → 0 < length (parts_text (p ∷ []))
some_text (Plain c) = omega arith
some_text (Escape c) = omega arith

pub next_within : (rest : List ℕ) (c n : ℕ) → IsNext rest (Character c n) → (0 < n) × (n ≤ length rest)
next_within rest c n (p, more, stands, split, means, len) =
    let whole = cut_length rest n (parts_text (p ∷ [])) more (next_cut rest more p n split len) in
    (omega (arith, some_text p, len), omega (arith, whole))

-- the parts so far and the closing quote
pub meant_closed : (inside rest bytes text : List ℕ) → IsMeantTo inside rest bytes → IsNext rest Quote → text ≡ bytes → IsText inside text (length inside - length rest + 1)
meant_closed inside rest bytes text m (more, e) same =
    let whole : length (parts_text m.parts) + length rest ≡ length inside = sym (length-append (parts_text m.parts) rest) ∙ ap length m.split in (
      parts_text m.parts ++ quote ∷ [],
      more,
      (m.parts, m.meant, m.stands, refl, m.right, same ∙ m.text),
      record {
        whole = append_assoc (parts_text m.parts) (quote ∷ []) more ∙ (ap (λ z. parts_text m.parts ++ z) (sym e) ∙ m.split);
        len = omega (arith, length-append (parts_text m.parts) (quote ∷ []), whole);
      },
    )

pub meant_within : (inside rest bytes : List ℕ) → IsMeantTo inside rest bytes → length rest ≤ length inside
meant_within inside rest bytes m =
    let whole : length (parts_text m.parts) + length rest ≡ length inside = sym (length-append (parts_text m.parts) rest) ∙ ap length m.split in
    omega arith

pub meant_none : (inside rest bytes : List ℕ) → IsMeantTo inside rest bytes → IsStuck rest → BeginsNoText quote inside
meant_none inside rest bytes m s = subst (BeginsNoText quote) m.split (no_text m.parts rest m.stands s)

-- ---- what stands next

plain_may : (c : ℕ) → c ≢ quote → c ≢ backslash → c ≢ line_feed → may_stand (Plain c) ≡ true
plain_may c q b l = not_from_false (((c == quote) || (c == backslash)) || (c == line_feed)) (or_from ((c == quote) || (c == backslash)) (c == line_feed) (or_from (c == quote) (c == backslash) (ne_eqb c quote q) (ne_eqb c backslash b)) (ne_eqb c line_feed l))

pub next_plain : (rest more : List ℕ) (c : ℕ) → rest ≡ c ∷ more → c ≢ quote → c ≢ backslash → c ≢ line_feed → IsNext rest (Character c 1)
next_plain rest more c e q b l = (Plain c, more, plain_may c q b l, e, refl, refl)

pub next_escape : (behind more : List ℕ) (c d : ℕ) → behind ≡ c ∷ more → escaped c ≡ Some d → IsNext (backslash ∷ behind) (Character d 2)
next_escape behind more c d e h =
    let differs : c ≢ line_feed = λ l. no_meaning c d h (ap escaped l) in
    (Escape c, more, not_from_false (c == line_feed) (ne_eqb c line_feed differs), ap (λ z. backslash ∷ z) e, h, refl)
