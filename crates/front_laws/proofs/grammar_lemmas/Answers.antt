-- A list of tokens has one answer.
use Rattle.std.proofs.Common.{◌≡◌, ℕ, suc, ◌+◌, ◌<◌, List, [], ◌∷◌, ◌++◌, length, Option, Some, None, refl, sym, ap, ◌∙◌, subst, ◌⊎◌, inl, inr, arith, length-append, append_assoc, append-nil}
use Rattle.hs_base.specs.declared.tree.script.Script.{Script}
use Rattle.rules_tokens.specs.declared.token.Token.{Token}
use Rattle.rules_grammar.specs.Grammar.{script, Below, SpelledBy, SpellsWithin, Spells, IsViable, IsViableBelow, IsUnexpected, IsTooDeep}
use Rattle.rules_grammar.specs.GrammarForms.{Item, tokens_of}
use Rattle.hs_grammar.specs.Parser.{Why, unexpected, too_deep, Out, Done, Stop, bind, done, read, enter, at_end, whole, Means}
use Rattle.hs_grammar.proofs.Checks.{after, fine_script, plain_script}
use Rattle.hs_grammar.proofs.Complete.{tokens_length}
use Rattle.hs_grammar.proofs.Good.{tokens_append}
use Rattle.hs_grammar.proofs.Main.{one_script}
use Rattle.front_laws.specs.grammar.Answers.{SameAnswer}
use Rattle.front_laws.proofs.grammar_lemmas.Marks.{Marked, marked, top_marks}

-- ---- items and their marks
no_mark : (m : ℕ) (u : List Item) (t : Token) (v : List Item) → Below m (u ++ marked m t ∷ v) → ⊥
no_mark m [] t v h = omega (arith, h.0 m refl)
no_mark m (x ∷ u) t v h = no_mark m u t v h.1

-- the first item in m is one
first_mark : (m : ℕ) (u v : List Item) (s t : Token) (x y : List Item) → Below m u → Below m v → u ++ marked m s ∷ x ≡ v ++ marked m t ∷ y → (u ≡ v) × (s ≡ t)
first_mark m [] [] s t x y h k e = let i : marked m s ≡ marked m t = cc e in (refl, ap (λ z. z.token) i)
first_mark m [] (j ∷ v) s t x y h k e = let i : marked m s ≡ j = cc e in absurd (omega (arith, k.0 m (sym (ap (λ z. z.opener) i))))
first_mark m (j ∷ u) [] s t x y h k e = let i : j ≡ marked m t = cc e in absurd (omega (arith, h.0 m (ap (λ z. z.opener) i)))
first_mark m (j ∷ u) (l ∷ v) s t x y h k e =
    let i : j ≡ l = cc e in let r : u ++ marked m s ∷ x ≡ v ++ marked m t ∷ y = cc e in
    let w = first_mark m u v s t x y h.1 k.1 r in (ap (λ z. z ∷ u) i ∙ ap (λ z. l ∷ z) w.0, w.1)

-- an item in m is not among those below m
not_within : (m : ℕ) (f a u : List Item) (t : Token) (v : List Item) → f ++ a ≡ u ++ marked m t ∷ v → Below m f → length u < length f → ⊥
not_within m [] a u t v e h l = omega (arith, l)
not_within m (j ∷ f) a [] t v e h l = let i : j ≡ marked m t = cc e in omega (arith, h.0 m (ap (λ z. z.opener) i))
not_within m (j ∷ f) a (x ∷ u) t v e h l = let r : f ++ a ≡ u ++ marked m t ∷ v = cc e in not_within m f a u t v r h.1 (omega (arith, l))

-- two ways to cut a list
cuts : (xs ys zs ws : List Token) → xs ++ ys ≡ zs ++ ws → ((c : List Token) × (xs ≡ zs ++ c) × (c ++ ys ≡ ws)) ⊎ ((y : Token) × (d : List Token) × (zs ≡ xs ++ y ∷ d) × (ys ≡ y ∷ (d ++ ws)))
cuts xs ys [] ws e = inl (xs, refl, e)
cuts [] ys (z ∷ zs) ws e = inr (z, zs, refl, e)
cuts (x ∷ xs) ys (z ∷ zs) ws e = by (cuts xs ys zs ws (cc e))
  where
    i : x ≡ z
    i = cc e

    by : ((c : List Token) × (xs ≡ zs ++ c) × (c ++ ys ≡ ws)) ⊎ ((y : Token) × (d : List Token) × (zs ≡ xs ++ y ∷ d) × (ys ≡ y ∷ (d ++ ws))) → ((c : List Token) × (x ∷ xs ≡ (z ∷ zs) ++ c) × (c ++ ys ≡ ws)) ⊎ ((y : Token) × (d : List Token) × (z ∷ zs ≡ (x ∷ xs) ++ y ∷ d) × (ys ≡ y ∷ (d ++ ws)))
    by (inl c) = inl (c.0, ap (λ v. v ∷ xs) i ∙ ap (λ v. z ∷ v) c.1, c.2)
    by (inr d) = inr (d.0, d.1, ap (λ v. v ∷ zs) (sym i) ∙ ap (λ v. x ∷ v) d.2, d.3)

-- ---- too deep
abbrev Script' : ℕ → Script → List Item → Type 0
Script' m x items = Marked m (read (enter m) script) (after script) x items []

script_marks : (m n : ℕ) (x : Script) (items : List Item) → SpelledBy n x items → Script' m x items
script_marks m n x items h = top_marks m n script plain_script fine_script x items [] h

-- the parser stops at the opener that stands in too many, whatever follows it
pub stops_there : (m : ℕ) (front : List Token) (t : Token) → IsTooDeep m front t → (more : List Token) → whole m (front ++ t ∷ more) ≡ Stop too_deep (t ∷ more)
unfolding whole
stops_there m front t h more = by (script_marks m h.0 h.1 (h.2 ++ marked m t ∷ h.3) h.4)
  where
    by : Script' m h.1 (h.2 ++ marked m t ∷ h.3) → bind (read (enter m) script (front ++ t ∷ more)) at_end ≡ Stop too_deep (t ∷ more)
    by (inl c) = absurd (no_mark m h.2 t h.3 (subst (Below m) (sym (c.1 ∙ append-nil c.0)) c.2))
    by (inr d) =
        let w = first_mark m h.2 d.0 t d.1 h.3 d.2 h.6 d.5 d.3 in
        ap (λ o. bind o at_end) (ap (λ z. read (enter m) script (z ++ t ∷ more)) (sym h.5 ∙ ap tokens_of w.0) ∙ (ap (λ z. read (enter m) script (tokens_of d.0 ++ z ∷ more)) w.1 ∙ d.6 more))
        ∙ ap (λ z. Stop too_deep (z ∷ more)) (sym w.1)

-- tokens of a script that are below m are read
not_deep_within : (m : ℕ) (front : List Token) (t : Token) → IsTooDeep m front t → (c : List Token) → IsViableBelow m ((front ++ t ∷ []) ++ c) → ⊥
unfolding whole
not_deep_within m front t h c v = by (script_marks m v.0 v.1 (v.2 ++ v.3) v.4)
  where
    all : tokens_of (v.2 ++ v.3) ≡ front ++ t ∷ (c ++ tokens_of v.3)
    all = tokens_append v.2 v.3 ∙ (ap (λ z. z ++ tokens_of v.3) v.5 ∙ (append_assoc (front ++ t ∷ []) c (tokens_of v.3) ∙ append_assoc front (t ∷ []) (c ++ tokens_of v.3)))

    stops : bind (read (enter m) script (tokens_of (v.2 ++ v.3))) at_end ≡ Stop too_deep (t ∷ (c ++ tokens_of v.3))
    stops = ap (λ z. bind (read (enter m) script z) at_end) all ∙ stops_there m front t h (c ++ tokens_of v.3)

    by : Script' m v.1 (v.2 ++ v.3) → ⊥
    by (inl d) =
        let e : v.2 ++ v.3 ≡ d.0 = d.1 ∙ append-nil d.0 in
        let r : bind (read (enter m) script (tokens_of (v.2 ++ v.3))) at_end ≡ Done v.1 [] = ap (λ z. bind (read (enter m) script z) at_end) (ap tokens_of e ∙ sym (append-nil (tokens_of d.0))) ∙ ap (λ o. bind o at_end) (d.3 [] refl) in
        let z : Done v.1 [] ≡ Stop too_deep (t ∷ (c ++ tokens_of v.3)) = sym r ∙ stops in cc z
    by (inr d) =
        let r : bind (read (enter m) script (tokens_of (v.2 ++ v.3))) at_end ≡ Stop too_deep (d.1 ∷ tokens_of d.2) = ap (λ z. bind (read (enter m) script z) at_end) (ap tokens_of d.3 ∙ tokens_append d.0 (marked m d.1 ∷ d.2)) ∙ ap (λ o. bind o at_end) (d.6 (tokens_of d.2)) in
        let z : ◌≡◌ {A = Out Script} (Stop too_deep (d.1 ∷ tokens_of d.2)) (Stop too_deep (t ∷ (c ++ tokens_of v.3))) = sym r ∙ stops in
        let q : d.1 ∷ tokens_of d.2 ≡ t ∷ (c ++ tokens_of v.3) = cc z in
        not_within m v.2 v.3 d.0 d.1 d.2 d.3 v.6
        (omega (
          arith,
          ap length q,
          tokens_length d.2,
          tokens_length v.2,
          tokens_length v.3,
          length-append c (tokens_of v.3),
          ap length v.5,
          length-append (front ++ t ∷ []) c,
          length-append front (t ∷ []),
          ap length d.3,
          length-append v.2 v.3,
          length-append d.0 (marked m d.1 ∷ d.2),
        ))

-- what begins viable tokens is viable
viable_front : (n : ℕ) (x : Script) (items : List Item) → SpelledBy n x items → (ts more : List Token) → tokens_of items ≡ ts ++ more → IsViable ts
viable_front n x items h ts more e = (x, more, (n, (items, h, e)))

-- tokens that are not expected come behind no opener that is too deep, and not at it
pub exclude : (m : ℕ) (front : List Token) (t : Token) (more rest left : List Token) → IsTooDeep m front t → rest ++ left ≡ front ++ t ∷ more → IsUnexpected m rest left → ⊥
exclude m front t more rest left h e u = by (cuts rest left (front ++ t ∷ []) more (e ∙ sym (append_assoc front (t ∷ []) more)))
  where
    by : ((c : List Token) × (rest ≡ (front ++ t ∷ []) ++ c) × (c ++ left ≡ more)) ⊎ ((y : Token) × (d : List Token) × (front ++ t ∷ [] ≡ rest ++ y ∷ d) × (left ≡ y ∷ (d ++ more))) → ⊥
    by (inl c) = not_deep_within m front t h c.0 (subst (IsViableBelow m) c.1 u.0)
    by (inr d) =
        u.2 d.0 (d.1 ++ more) d.3
        (viable_front h.0 h.1 (h.2 ++ marked m t ∷ h.3) h.4 (rest ++ d.0 ∷ []) (d.1 ++ tokens_of h.3)
        (tokens_append h.2 (marked m t ∷ h.3) ∙ (ap (λ z. z ++ t ∷ tokens_of h.3) h.5 ∙ (sym (append_assoc front (t ∷ []) (tokens_of h.3)) ∙ (ap (λ z. z ++ tokens_of h.3) d.2 ∙ (append_assoc rest (d.0 ∷ d.1) (tokens_of h.3) ∙ sym (append_assoc rest (d.0 ∷ []) (d.1 ++ tokens_of h.3))))))))

-- two places at which tokens are not expected are one
one_place : (m : ℕ) (f b g c : List Token) → f ++ b ≡ g ++ c → IsUnexpected m f b → IsUnexpected m g c → b ≡ c
one_place m f b g c e u v = by (cuts f b g c e)
  where
    -- the longer one goes on from the shorter
    longer : (f g b c : List Token) (y : Token) (d : List Token) → IsUnexpected m f b → IsUnexpected m g c → g ≡ f ++ y ∷ d → b ≡ y ∷ (d ++ c) → ⊥
    longer f g b c y d u v q r =
        let w = v.0 in
        u.2 y (d ++ c) r
        (viable_front w.0 w.1 (w.2 ++ w.3) w.4 (f ++ y ∷ []) (d ++ tokens_of w.3)
        (tokens_append w.2 w.3 ∙ (ap (λ z. z ++ tokens_of w.3) (w.5 ∙ q) ∙ (append_assoc f (y ∷ d) (tokens_of w.3) ∙ sym (append_assoc f (y ∷ []) (d ++ tokens_of w.3))))))

    same : (c' : List Token) → f ≡ g ++ c' → c' ++ b ≡ c → b ≡ c
    same [] q r = r
    same (y ∷ d) q r = absurd (longer g f c b y d v u q (sym r))

    by : ((c' : List Token) × (f ≡ g ++ c') × (c' ++ b ≡ c)) ⊎ ((y : Token) × (d : List Token) × (g ≡ f ++ y ∷ d) × (b ≡ y ∷ (d ++ c))) → b ≡ c
    by (inl x) = same x.0 x.1 x.2
    by (inr x) = absurd (longer f g b c x.0 x.1 u v x.2 x.3)

-- the outcome at an opener that is too deep is the parser's
at_deep : (m : ℕ) (ts b : List Token) → Means m ts (Stop too_deep b) → whole m ts ≡ Stop too_deep b
at_deep m ts b h =
    let e : ts ≡ h.0 ++ h.1 ∷ h.2 = sym h.4 ∙ ap (λ z. h.0 ++ z) h.3 in
    ap (whole m) e ∙ (stops_there m h.0 h.1 h.5 h.2 ∙ ap (Stop too_deep) (sym h.3))

pub same_answer : (m : ℕ) (ts : List Token) (o p : Out Script) → Means m ts o → Means m ts p → SameAnswer o p
same_answer m ts (Done x r) (Done y s) h k = one_script x y ts (m, h) (m, k)
same_answer m ts (Done x r) (Stop unexpected c) h k = k.2.1 x (subst (Spells x) (sym k.1) (m, h))
same_answer m ts (Done x r) (Stop too_deep c) h k = k.6 x h
same_answer m ts (Stop unexpected b) (Done y s) h k = h.2.1 y (subst (Spells y) (sym h.1) (m, k))
same_answer m ts (Stop too_deep b) (Done y s) h k = h.6 y k
same_answer m ts (Stop unexpected b) (Stop unexpected c) h k = (refl, one_place m h.0 b k.0 c (h.1 ∙ sym k.1) h.2 k.2)
same_answer m ts (Stop unexpected b) (Stop too_deep c) h k = absurd (exclude m k.0 k.1 k.2 h.0 b k.5 (h.1 ∙ (sym k.4 ∙ ap (λ z. k.0 ++ z) k.3)) h.2)
same_answer m ts (Stop too_deep b) (Stop unexpected c) h k = absurd (exclude m h.0 h.1 h.2 k.0 c h.5 (k.1 ∙ (sym h.4 ∙ ap (λ z. h.0 ++ z) h.3)) k.2)
same_answer m ts (Stop too_deep b) (Stop too_deep c) h k =
    let e : ◌≡◌ {A = Out Script} (Stop too_deep b) (Stop too_deep c) = sym (at_deep m ts b h) ∙ at_deep m ts c k in (refl, cc e)
