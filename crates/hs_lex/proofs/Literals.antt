-- The parts of a literal are told by its characters.
use Rattle.std.proofs.Common.{◌≡◌, ◌≢◌, ℕ, List, [], ◌∷◌, ◌++◌, true, false, refl, sym, ap, ◌∙◌, subst, arith, ◌⊎◌, inl, inr, append_assoc}
use Rattle.std.specs.List.{list_all}
use Rattle.std.proofs.lemmas.Bool.{and_parts, false≢true}
use Rattle.rules_tokens.specs.Tokens.{quote, backslash, line_feed, IsLiteral, literal_text, parts_text, LiteralPart, Plain, Escape, may_stand, IsOpen}

plain_is_no : (c d : ℕ) → may_stand (Plain c) ≡ true → may_stand (Plain d) ≡ false → c ≡ d → ⊥
plain_is_no c d h k e = false≢true (sym k ∙ (ap (λ z. may_stand (Plain z)) (sym e) ∙ h))

escape_is_no : (c d : ℕ) → may_stand (Escape c) ≡ true → may_stand (Escape d) ≡ false → c ≡ d → ⊥
escape_is_no c d h k e = false≢true (sym k ∙ (ap (λ z. may_stand (Escape z)) (sym e) ∙ h))

quote_is_no_backslash : quote ≡ backslash → ⊥
quote_is_no_backslash e = omega arith

-- the parts of a closed literal, and what follows it
pub parts_same : (ps qs : List LiteralPart) (x y : List ℕ) → list_all may_stand ps ≡ true → list_all may_stand qs ≡ true
    → parts_text ps ++ quote ∷ x ≡ parts_text qs ++ quote ∷ y → (ps ≡ qs) × (x ≡ y)
parts_same [] [] x y h k e = (refl, cc)
parts_same [] (Plain d ∷ qs) x y h k e = let same : d ≡ quote = cc in absurd (plain_is_no d quote ((and_parts _ _ k).0) refl same)
parts_same [] (Escape d ∷ qs) x y h k e = let same : quote ≡ backslash = cc in absurd (quote_is_no_backslash same)
parts_same (Plain c ∷ ps) [] x y h k e = let same : c ≡ quote = cc in absurd (plain_is_no c quote ((and_parts _ _ h).0) refl same)
parts_same (Escape c ∷ ps) [] x y h k e = let same : quote ≡ backslash = cc in absurd (quote_is_no_backslash same)
parts_same (Plain c ∷ ps) (Plain d ∷ qs) x y h k e =
    let same : c ≡ d = cc in
    let rest : (ps ≡ qs) × (x ≡ y) = parts_same ps qs x y ((and_parts _ _ h).1) ((and_parts _ _ k).1) (cc) in
    let parts : ps ≡ qs = rest.0 in
    (cc, rest.1)
parts_same (Plain c ∷ ps) (Escape d ∷ qs) x y h k e = let same : c ≡ backslash = cc in absurd (plain_is_no c backslash ((and_parts _ _ h).0) refl same)
parts_same (Escape c ∷ ps) (Plain d ∷ qs) x y h k e = let same : d ≡ backslash = cc in absurd (plain_is_no d backslash ((and_parts _ _ k).0) refl same)
parts_same (Escape c ∷ ps) (Escape d ∷ qs) x y h k e =
    let same : c ≡ d = cc in
    let rest : (ps ≡ qs) × (x ≡ y) = parts_same ps qs x y ((and_parts _ _ h).1) ((and_parts _ _ k).1) (cc) in
    let parts : ps ≡ qs = rest.0 in
    (cc, rest.1)

literal_shape : (ps : List LiteralPart) (x : List ℕ) → literal_text ps ++ x ≡ quote ∷ (parts_text ps ++ quote ∷ x)
literal_shape ps x = ap (λ z. quote ∷ z) (append_assoc (parts_text ps) (quote ∷ []) x)

pub literal_same : (ps qs : List LiteralPart) (x y : List ℕ) → list_all may_stand ps ≡ true → list_all may_stand qs ≡ true
    → literal_text ps ++ x ≡ literal_text qs ++ y → (ps ≡ qs) × (x ≡ y)
literal_same ps qs x y h k e =
    let whole : quote ∷ (parts_text ps ++ quote ∷ x) ≡ quote ∷ (parts_text qs ++ quote ∷ y) = sym (literal_shape ps x) ∙ (e ∙ literal_shape qs y) in
    parts_same ps qs x y h k (cc)

-- ---- a literal that is open

-- a backslash here has no character to take
abbrev pub EndsEscape : List ℕ → Type 0
EndsEscape [] = Unit {0}
EndsEscape (c ∷ cs) = c ≡ line_feed

-- neither a part nor the closing quote begins here
abbrev pub IsStuck : List ℕ → Type 0
IsStuck [] = Unit {0}
IsStuck (c ∷ cs) = (c ≡ line_feed) ⊎ ((c ≡ backslash) × EndsEscape cs)

stuck_quote : (cs : List ℕ) → IsStuck (quote ∷ cs) → ⊥
stuck_quote cs (inl e) = omega arith
stuck_quote cs (inr (e, more)) = omega arith

stuck_plain : (d : ℕ) (cs : List ℕ) → may_stand (Plain d) ≡ true → IsStuck (d ∷ cs) → ⊥
stuck_plain d cs h (inl e) = plain_is_no d line_feed h refl e
stuck_plain d cs h (inr (e, more)) = plain_is_no d backslash h refl e

stuck_escape : (d : ℕ) (cs : List ℕ) → may_stand (Escape d) ≡ true → IsStuck (backslash ∷ d ∷ cs) → ⊥
stuck_escape d cs h (inl e) = omega arith
stuck_escape d cs h (inr (e, more)) = escape_is_no d line_feed h refl more

pub stuck_parts : (ps qs : List LiteralPart) (tail y : List ℕ) → list_all may_stand ps ≡ true → list_all may_stand qs ≡ true → IsStuck tail
    → parts_text ps ++ tail ≡ parts_text qs ++ quote ∷ y → ⊥
stuck_parts [] [] tail y h k s e = stuck_quote y (subst IsStuck e s)
stuck_parts [] (Plain d ∷ qs) tail y h k s e = stuck_plain d (parts_text qs ++ quote ∷ y) ((and_parts _ _ k).0) (subst IsStuck e s)
stuck_parts [] (Escape d ∷ qs) tail y h k s e = stuck_escape d (parts_text qs ++ quote ∷ y) ((and_parts _ _ k).0) (subst IsStuck e s)
stuck_parts (Plain c ∷ ps) [] tail y h k s e = let same : c ≡ quote = cc in plain_is_no c quote ((and_parts _ _ h).0) refl same
stuck_parts (Escape c ∷ ps) [] tail y h k s e = let same : quote ≡ backslash = cc in quote_is_no_backslash same
stuck_parts (Plain c ∷ ps) (Plain d ∷ qs) tail y h k s e = stuck_parts ps qs tail y ((and_parts _ _ h).1) ((and_parts _ _ k).1) s (cc)
stuck_parts (Plain c ∷ ps) (Escape d ∷ qs) tail y h k s e = let same : c ≡ backslash = cc in plain_is_no c backslash ((and_parts _ _ h).0) refl same
stuck_parts (Escape c ∷ ps) (Plain d ∷ qs) tail y h k s e = let same : d ≡ backslash = cc in plain_is_no d backslash ((and_parts _ _ k).0) refl same
stuck_parts (Escape c ∷ ps) (Escape d ∷ qs) tail y h k s e = stuck_parts ps qs tail y ((and_parts _ _ h).1) ((and_parts _ _ k).1) s (cc)

-- a quote, parts, and then neither a part nor a quote: the literal is not closed on its line
pub open_from_stuck : (ps : List LiteralPart) (tail : List ℕ) → list_all may_stand ps ≡ true → IsStuck tail → IsOpen (quote ∷ (parts_text ps ++ tail))
open_from_stuck ps tail h s = (refl, none)
  where
    none : (front after : List ℕ) → IsLiteral front → front ++ after ≢ quote ∷ (parts_text ps ++ tail)
    none front after l e =
        let whole : quote ∷ (parts_text l.0 ++ quote ∷ after) ≡ quote ∷ (parts_text ps ++ tail) = sym (literal_shape l.0 after) ∙ (ap (λ z. z ++ after) (sym l.2) ∙ e) in
        stuck_parts ps l.0 tail after h l.1 s (cc)
