-- Where a fault stands no piece can be read, and only one fault stands there.
use Rattle.std.proofs.Common.{◌≡◌, ℕ, ◌<◌, ◌≤◌, List, [], ◌∷◌, ◌++◌, true, refl, sym, ap, ◌∙◌, subst, arith, inl, inr}
use Rattle.std.specs.Prelude.{map}
use Rattle.std.proofs.lemmas.Bool.{false≢true}
use Rattle.rules_tokens.specs.declared.token.Tok.{Tok}
use Rattle.rules_tokens.specs.declared.token.Tok.TheVariants as tok
use Rattle.rules_tokens.specs.declared.symbol.TheConstants as symbol_number
use Rattle.rules_tokens.specs.Tokens.{quote, dash, is_blank, HasForm, Blank, Comment, Lexeme, Spells, BeginsNothing, HasWrongEscape, IsOpen, IsTooBig, Fault, BadChar, OpenText, BigNumber, IsFaulty, IsNumber, Escape, literal_text, parts_text, meaning, greatest_number, number_of}
use Rattle.hs_lex.proofs.Forms.{number, symbol, literal, form_at, form_at_literal, HasFormOf, form_first, form_not_empty}
use Rattle.hs_lex.proofs.Literals.{literal_same}
use Rattle.hs_lex.proofs.Spellings.{form_of_token, spelled_form, spelled_has_form, form_has, wrong_means_none, first_wrong_same}
use Rattle.hs_lex.proofs.Readings.{IsDead, blank_no_form, longest_same, at_dash}

quote_no_blank : (c : ℕ) → c ≡ quote → is_blank c ≡ true → ⊥
quote_no_blank c e b = let P : ℕ → Type 0 = λ n. is_blank n ≡ true in false≢true (subst P e b)

-- a token that begins with a quote is a text
quoted : (c : ℕ) (cs : List ℕ) (t : Tok) → c ≡ quote → Spells (c ∷ cs) t → form_of_token t ≡ literal
quoted c cs t e h = sym (form_first (form_of_token t) c cs (spelled_form (c ∷ cs) t h)) ∙ form_at_literal c e

-- ---- a character that begins no token

nothing_dead : (rest : List ℕ) → BeginsNothing rest → IsDead rest
nothing_dead [] n p x h e = absurd n
nothing_dead (c ∷ cs) n (Blank d) x h e = let same : d ≡ c = cc in false≢true (sym n.0 ∙ (ap is_blank (sym same) ∙ h))
nothing_dead (c ∷ cs) n (Comment b) x h e =
    let minus : HasForm (dash ∷ []) = inr (inr (inl (symbol_number.MINUS, refl))) in
    n.2 (dash ∷ []) (dash ∷ (b ++ x)) minus e
nothing_dead (c ∷ cs) n (Lexeme ds t) x h e = n.2 ds x (spelled_has_form ds t h.0) e

-- ---- a wrong escape

wrong_begins : (read rest : List ℕ) → HasWrongEscape read rest → (cs : List ℕ) × (rest ≡ quote ∷ cs)
wrong_begins read rest w = ((parts_text (w.good ++ Escape w.wrong ∷ w.more) ++ quote ∷ []) ++ w.after, w.literal)

text_is_right : (cs : List ℕ) (t : Tok) (x read rest : List ℕ) → form_of_token t ≡ literal → Spells cs t → cs ++ x ≡ rest → HasWrongEscape read rest → ⊥
text_is_right cs (tok.Text text) x read rest f (ps, meant, stands, spells, means, s) e w =
    let parts = w.good ++ Escape w.wrong ∷ w.more in
    let whole : literal_text ps ++ x ≡ literal_text parts ++ w.after = ap (λ z. z ++ x) (sym spells) ∙ (e ∙ w.literal) in
    let same : (ps ≡ parts) × (x ≡ w.after) = literal_same ps parts x w.after stands w.stands whole in
    wrong_means_none w.good w.more w.wrong meant w.none (ap (λ z. map meaning z) (sym same.0) ∙ means)
text_is_right cs t x read rest f h e w = absurd (cc)

wrong_dead : (read rest : List ℕ) → HasWrongEscape read rest → IsDead rest
wrong_dead read rest w (Blank d) x h e =
    let begins : (cs : List ℕ) × (rest ≡ quote ∷ cs) = wrong_begins read rest w in
    let all : d ∷ x ≡ quote ∷ begins.0 = e ∙ begins.1 in
    quote_no_blank d (cc) h
wrong_dead read rest w (Comment b) x h e =
    let begins : (cs : List ℕ) × (rest ≡ quote ∷ cs) = wrong_begins read rest w in
    let all : dash ∷ dash ∷ (b ++ x) ≡ quote ∷ begins.0 = e ∙ begins.1 in
    let same : dash ≡ quote = cc in
    omega arith
wrong_dead read rest w (Lexeme [] t) x h e = form_not_empty (form_of_token t) (spelled_form [] t h.0)
wrong_dead read rest w (Lexeme (d ∷ ds) t) x h e =
    let begins : (cs : List ℕ) × (rest ≡ quote ∷ cs) = wrong_begins read rest w in
    let all : d ∷ (ds ++ x) ≡ quote ∷ begins.0 = e ∙ begins.1 in
    text_is_right (d ∷ ds) t x read rest (quoted d ds t (cc) h.0) h.0 e w

-- ---- an open literal

open_dead : (rest : List ℕ) → IsOpen rest → IsDead rest
open_dead [] o p x h e = absurd o
open_dead (c ∷ cs) o (Blank d) x h e = let same : d ≡ c = cc in quote_no_blank d (same ∙ o.0) h
open_dead (c ∷ cs) o (Comment b) x h e = let same : dash ≡ c = cc in let wrong : dash ≡ quote = same ∙ o.0 in omega arith
open_dead (c ∷ cs) o (Lexeme [] t) x h e = form_not_empty (form_of_token t) (spelled_form [] t h.0)
open_dead (c ∷ cs) o (Lexeme (d ∷ ds) t) x h e =
    let same : d ≡ c = cc in
    let form : form_of_token t ≡ literal = quoted d ds t (same ∙ o.0) h.0 in
    o.1 (d ∷ ds) x (subst (λ z. HasFormOf z (d ∷ ds)) form (spelled_form (d ∷ ds) t h.0)) e

-- ---- a number that is too big

big_at : (rest digits after : List ℕ) → rest ≡ digits ++ after → IsNumber digits → (c : ℕ) × (cs : List ℕ) × (digits ≡ c ∷ cs) × (rest ≡ c ∷ (cs ++ after)) × (form_at c ≡ number)
big_at rest [] after e n = absurd n
big_at rest (c ∷ cs) after e n = (c, cs, refl, e, form_first number c cs n)

small_enough : (ds : List ℕ) (t : Tok) → form_of_token t ≡ number → Spells ds t → number_of ds ≤ greatest_number
small_enough ds (tok.Int value) f h = h.1
small_enough ds t f h = absurd (cc)

big_dead : (rest : List ℕ) → IsTooBig rest → IsDead rest
big_dead rest b (Blank d) x h e =
    let (c, cs, whole, begins, form) = big_at rest b.digits b.after b.split b.number in
    let same : d ≡ c = cc in
    blank_no_form number c cs (ap is_blank (sym same) ∙ h) (subst IsNumber whole b.number)
big_dead rest b (Comment body) x h e =
    let (c, cs, whole, begins, form) = big_at rest b.digits b.after b.split b.number in
    let same : dash ≡ c = cc in
    let wrong : symbol ≡ number = sym at_dash ∙ (ap form_at same ∙ form) in
    cc
big_dead rest b (Lexeme [] t) x h e = form_not_empty (form_of_token t) (spelled_form [] t h.0)
big_dead rest b (Lexeme (d ∷ ds) t) x h e =
    let (c, cs, whole, begins, form) = big_at rest b.digits b.after b.split b.number in
    let same : d ≡ c = cc in
    let form_too : form_of_token t ≡ number = sym (form_first (form_of_token t) d ds (spelled_form (d ∷ ds) t h.0)) ∙ (ap form_at same ∙ form) in
    let both : (d ∷ ds ≡ b.digits) × (x ≡ b.after) = longest_same (d ∷ ds) b.digits x b.after (spelled_has_form (d ∷ ds) t h.0) (form_has number b.digits b.number) h.1 b.longest (e ∙ b.split) in
    let small : number_of (d ∷ ds) ≤ greatest_number = small_enough (d ∷ ds) t form_too h.0 in
    let large : greatest_number < number_of (d ∷ ds) = subst (λ z. greatest_number < number_of z) (sym both.0) b.big in
    omega (arith, small, large)

pub fault_dead : (f : Fault) (read rest : List ℕ) → IsFaulty f read rest → IsDead rest
fault_dead BadChar read rest (inl h) = nothing_dead rest h.1
fault_dead BadChar read rest (inr h) = wrong_dead read rest h
fault_dead OpenText read rest h = open_dead rest h.1
fault_dead BigNumber read rest h = big_dead rest h.1

-- ---- only one fault stands at one place

nothing_wrong : (rest read : List ℕ) → BeginsNothing rest → HasWrongEscape read rest → ⊥
nothing_wrong [] read n w = n
nothing_wrong (c ∷ cs) read n w =
    let begins : (ds : List ℕ) × (c ∷ cs ≡ quote ∷ ds) = wrong_begins read (c ∷ cs) w in
    n.1 (cc begins.1)

nothing_open : (rest : List ℕ) → BeginsNothing rest → IsOpen rest → ⊥
nothing_open [] n o = n
nothing_open (c ∷ cs) n o = n.1 o.0

nothing_big : (rest : List ℕ) → BeginsNothing rest → IsTooBig rest → ⊥
nothing_big [] n b = n
nothing_big (c ∷ cs) n b = n.2 b.digits b.after (form_has number b.digits b.number) (sym b.split)

wrong_open : (rest read : List ℕ) → HasWrongEscape read rest → IsOpen rest → ⊥
wrong_open [] read w o = o
wrong_open (c ∷ cs) read w o =
    let parts = w.good ++ Escape w.wrong ∷ w.more in o.1 (literal_text parts) w.after (parts, w.stands, refl) (sym w.literal)

quote_big : (c : ℕ) (cs : List ℕ) → c ≡ quote → IsTooBig (c ∷ cs) → ⊥
quote_big c cs q b =
    let (d, ds, whole, begins, form) = big_at (c ∷ cs) b.digits b.after b.split b.number in
    let same : c ≡ d = cc in
    let wrong : literal ≡ number = sym (form_at_literal c q) ∙ (ap form_at same ∙ form) in
    cc

wrong_big : (rest read : List ℕ) → HasWrongEscape read rest → IsTooBig rest → ⊥
wrong_big rest read w b =
    let begins : (ds : List ℕ) × (rest ≡ quote ∷ ds) = wrong_begins read rest w in
    quote_big quote begins.0 refl (subst IsTooBig begins.1 b)

open_big : (rest : List ℕ) → IsOpen rest → IsTooBig rest → ⊥
open_big [] o b = o
open_big (c ∷ cs) o b = quote_big c cs o.0 b

wrong_same : (read behind rest : List ℕ) → HasWrongEscape read rest → HasWrongEscape behind rest → read ≡ behind
wrong_same read behind rest v w =
    let ps = v.good ++ Escape v.wrong ∷ v.more in
    let qs = w.good ++ Escape w.wrong ∷ w.more in
    let same : (ps ≡ qs) × (v.after ≡ w.after) = literal_same ps qs v.after w.after v.stands w.stands (sym v.literal ∙ w.literal) in
    let good : v.good ≡ w.good = first_wrong_same v.good w.good v.more w.more v.wrong w.wrong v.meant w.meant v.none w.none v.right w.right same.0 in
    v.place ∙ (ap (λ z. quote ∷ parts_text z) good ∙ sym w.place)

pub fault_same : (f g : Fault) (read behind rest : List ℕ) → IsFaulty f read rest → IsFaulty g behind rest → (f ≡ g) × (read ≡ behind)
fault_same BadChar BadChar read behind rest (inl h) (inl k) = (refl, h.0 ∙ sym k.0)
fault_same BadChar BadChar read behind rest (inl h) (inr k) = absurd (nothing_wrong rest behind h.1 k)
fault_same BadChar BadChar read behind rest (inr h) (inl k) = absurd (nothing_wrong rest read k.1 h)
fault_same BadChar BadChar read behind rest (inr h) (inr k) = (refl, wrong_same read behind rest h k)
fault_same BadChar OpenText read behind rest (inl h) k = absurd (nothing_open rest h.1 k.1)
fault_same BadChar OpenText read behind rest (inr h) k = absurd (wrong_open rest read h k.1)
fault_same BadChar BigNumber read behind rest (inl h) k = absurd (nothing_big rest h.1 k.1)
fault_same BadChar BigNumber read behind rest (inr h) k = absurd (wrong_big rest read h k.1)
fault_same OpenText BadChar read behind rest h (inl k) = absurd (nothing_open rest k.1 h.1)
fault_same OpenText BadChar read behind rest h (inr k) = absurd (wrong_open rest behind k h.1)
fault_same OpenText OpenText read behind rest h k = (refl, h.0 ∙ sym k.0)
fault_same OpenText BigNumber read behind rest h k = absurd (open_big rest h.1 k.1)
fault_same BigNumber BadChar read behind rest h (inl k) = absurd (nothing_big rest k.1 h.1)
fault_same BigNumber BadChar read behind rest h (inr k) = absurd (wrong_big rest behind k h.1)
fault_same BigNumber OpenText read behind rest h k = absurd (open_big rest k.1 h.1)
fault_same BigNumber BigNumber read behind rest h k = (refl, h.0 ∙ sym k.0)

pub end_not_faulty : (f : Fault) (read : List ℕ) → IsFaulty f read [] → ⊥
end_not_faulty BadChar read (inl h) = h.1
end_not_faulty BadChar read (inr h) = let begins : (ds : List ℕ) × ([] ≡ quote ∷ ds) = wrong_begins read [] h in cc begins.1
end_not_faulty OpenText read h = h.1
end_not_faulty BigNumber read h =
    let (d, ds, whole, begins, form) = big_at [] h.1.digits h.1.after h.1.split h.1.number in cc begins
