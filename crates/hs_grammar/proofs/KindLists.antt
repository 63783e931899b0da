-- Lists of kinds of tokens.
use Rattle.std.proofs.Common.{◌≡◌, ℕ, Bool, true, false, List, [], ◌∷◌, ◌++◌, refl, sym, ap, ◌∙◌, subst, eqb-true, eq-eqb, rules, ◌==◌}
use Rattle.rules_tokens.specs.declared.token.Token.{Token}
use Rattle.rules_grammar.specs.GrammarParts.{TokenKind, name, upper, int, text, word, symbol, kind_of}
use Rattle.hs_grammar.specs.Parser.{same_kind, either, both, negated, is_in, apart, begins}

pub both_true : (a b : Bool) → both a b ≡ true → (a ≡ true) × (b ≡ true)
both_true true b h = (refl, h)
both_true false b h = absurd (cc h)

pub negated_true : (a : Bool) → negated a ≡ true → a ≡ false
negated_true true h = absurd (cc h)
negated_true false h = refl

pub clash : {A : Type 0} (b : Bool) → b ≡ true → b ≡ false → A
clash b h k = let x : true ≡ false = sym h ∙ k in absurd (cc x)

pub either_false : (a b : Bool) → either a b ≡ false → (a ≡ false) × (b ≡ false)
either_false true b h = absurd (cc h)
either_false false b h = (refl, h)

pub either_right : (a b : Bool) → b ≡ true → either a b ≡ true
either_right true b h = refl
either_right false b h = h

pub same_is : (k l : TokenKind) → same_kind k l ≡ true → k ≡ l
same_is name name h = refl
same_is upper upper h = refl
same_is int int h = refl
same_is text text h = refl
same_is (word a) (word b) h = ap word (eqb-true a b h)
same_is (symbol a) (symbol b) h = ap symbol (eqb-true a b h)
same_is _ _ h = absurd (cc h)

eqb_same : (a : ℕ) → a == a ≡ true
eqb_same a = search (rules, eq-eqb)

same_refl : (k : TokenKind) → same_kind k k ≡ true
same_refl name = refl
same_refl upper = refl
same_refl int = refl
same_refl text = refl
same_refl (word a) = eqb_same a
same_refl (symbol a) = eqb_same a

pub same_of : (k l : TokenKind) → k ≡ l → same_kind k l ≡ true
same_of k l e = subst (λ z. same_kind k z ≡ true) e (same_refl k)

pub is_in_append : (k : TokenKind) (xs ys : List TokenKind) → is_in k (xs ++ ys) ≡ either (is_in k xs) (is_in k ys)
is_in_append k [] ys = refl
is_in_append k (x ∷ xs) ys = by (same_kind k x) (is_in_append k xs ys)
  where
    by : (b : Bool) → is_in k (xs ++ ys) ≡ either (is_in k xs) (is_in k ys) → either b (is_in k (xs ++ ys)) ≡ either (either b (is_in k xs)) (is_in k ys)
    by true ih = refl
    by false ih = ih

pub in_left : (k : TokenKind) (xs ys : List TokenKind) → is_in k xs ≡ true → is_in k (xs ++ ys) ≡ true
in_left k xs ys h = is_in_append k xs ys ∙ ap (λ b. either b (is_in k ys)) h

pub in_right : (k : TokenKind) (xs ys : List TokenKind) → is_in k ys ≡ true → is_in k (xs ++ ys) ≡ true
in_right k xs ys h = is_in_append k xs ys ∙ either_right (is_in k xs) (is_in k ys) h

apart_at : (k : TokenKind) (xs ys : List TokenKind) → apart xs ys ≡ true → is_in k ys ≡ true → is_in k xs ≡ false
apart_at k [] ys h i = refl
apart_at k (x ∷ xs) ys h i = by (same_kind k x) refl (λ a. apart_at k xs ys a i)
  where
    parts : (is_in x ys ≡ false) × (apart xs ys ≡ true)
    parts = let w = both_true (negated (is_in x ys)) (apart xs ys) h in (negated_true (is_in x ys) w.0, w.1)

    by : (b : Bool) → same_kind k x ≡ b → (apart xs ys ≡ true → is_in k xs ≡ false) → either b (is_in k xs) ≡ false
    by true e ih = clash (is_in x ys) (subst (λ z. is_in z ys ≡ true) (same_is k x e) i) parts.0
    by false e ih = ih parts.1

-- a token list that begins so does not begin otherwise
pub begins_apart : (xs ys : List TokenKind) (ts : List Token) → apart xs ys ≡ true → begins ys ts ≡ true → begins xs ts ≡ false
begins_apart xs ys [] a h = refl
begins_apart xs ys (t ∷ ts) a h = apart_at (kind_of t.tok) xs ys a h

pub begins_left : (xs ys : List TokenKind) (ts : List Token) → begins xs ts ≡ true → begins (xs ++ ys) ts ≡ true
begins_left xs ys [] h = absurd (cc h)
begins_left xs ys (t ∷ ts) h = in_left (kind_of t.tok) xs ys h

pub begins_right : (xs ys : List TokenKind) (ts : List Token) → begins ys ts ≡ true → begins (xs ++ ys) ts ≡ true
begins_right xs ys [] h = absurd (cc h)
begins_right xs ys (t ∷ ts) h = in_right (kind_of t.tok) xs ys h

pub not_begins : (xs ys : List TokenKind) (ts : List Token) → begins (xs ++ ys) ts ≡ false → (begins xs ts ≡ false) × (begins ys ts ≡ false)
not_begins xs ys [] h = (refl, refl)
not_begins xs ys (t ∷ ts) h = either_false (is_in (kind_of t.tok) xs) (is_in (kind_of t.tok) ys) (sym (is_in_append (kind_of t.tok) xs ys) ∙ h)

-- every kind of the first is in the second
abbrev pub contained : List TokenKind → List TokenKind → Bool
contained [] ys = true
contained (x ∷ xs) ys = both (is_in x ys) (contained xs ys)

not_in_contained : (k : TokenKind) (zs ys : List TokenKind) → contained zs ys ≡ true → is_in k ys ≡ false → is_in k zs ≡ false
not_in_contained k [] ys c h = refl
not_in_contained k (z ∷ zs) ys c h = by (same_kind k z) refl (both_true (is_in z ys) (contained zs ys) c) (λ d. not_in_contained k zs ys d h)
  where
    by : (b : Bool) → same_kind k z ≡ b → (is_in z ys ≡ true) × (contained zs ys ≡ true) → (contained zs ys ≡ true → is_in k zs ≡ false) → either b (is_in k zs) ≡ false
    by true e w ih = clash (is_in z ys) w.0 (subst (λ y. is_in y ys ≡ false) (same_is k z e) h)
    by false e w ih = ih w.1

pub not_begins_contained : (xs ys : List TokenKind) (ts : List Token) → contained xs ys ≡ true → begins ys ts ≡ false → begins xs ts ≡ false
not_begins_contained xs ys [] c h = refl
not_begins_contained xs ys (t ∷ ts) c h = not_in_contained (kind_of t.tok) xs ys c h
