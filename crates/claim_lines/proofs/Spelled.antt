-- The word that a text begins with.
use Rattle.std.proofs.Common.{◌≡◌, ◌≢◌, ℕ, ◌+◌, ◌<◌, ◌≤◌, List, [], ◌∷◌, ◌++◌, length, take, drop, get_or, true, false, refl, sym, ap, ◌∙◌, subst, arith, ⊎_elim}
use Rattle.std.specs.List.{list_all, prefix_len}
use Rattle.std.specs.Char.{is_ascii_lowercase}
use Rattle.std.proofs.lemmas.Bool.{cases_Bool, cond-true}
use Rattle.rules_tokens.specs.Tokens.{quote, literal_text}
use Rattle.claim_lines.specs.declared.words.Word.TheVariants.{Letters, Text, Wrong}
use Rattle.claim_lines.specs.Words.{BeginsWithNoLetter, BeginsNoText}
use Rattle.claim_lines.specs.Fronts.{BeginsWord, IsFirstWord, IsText}
use Rattle.claim_lines.proofs.Cuts.{cut_take, Stops, prefix_is_run}

letters_front : (text front : List ℕ) (n : ℕ) → n ≡ prefix_len is_ascii_lowercase text → front ≡ take n text → front ≡ (prefix_is_run is_ascii_lowercase text).front
letters_front text front n e f =
    let run = prefix_is_run is_ascii_lowercase text in
    f ∙ (ap (λ k. take k text) e ∙ cut_take text (prefix_len is_ascii_lowercase text) run.front run.after run.cut)

pub letters_pass : (text front : List ℕ) (n : ℕ) → n ≡ prefix_len is_ascii_lowercase text → front ≡ take n text → list_all is_ascii_lowercase front ≡ true
letters_pass text front n e f =
    let run = prefix_is_run is_ascii_lowercase text in
    ap (list_all is_ascii_lowercase) (letters_front text front n e f) ∙ run.passes

no_letter : (after : List ℕ) → Stops is_ascii_lowercase after → BeginsWithNoLetter after
no_letter [] h = tt
no_letter (c ∷ cs) h = h

pub spells_letters : (text front letters : List ℕ) (n : ℕ) → n ≡ prefix_len is_ascii_lowercase text → front ≡ take n text → letters ≡ front → 0 < n → IsFirstWord text n (Letters letters)
spells_letters text front letters n e f g some =
    let run = prefix_is_run is_ascii_lowercase text in
    let len : length run.front ≡ n = run.cut.len ∙ sym e in (
      run.front,
      run.after,
      record { whole = run.cut.whole; len = len },
      (λ empty. absurd (omega (arith, ap length empty, len)), run.passes, g ∙ letters_front text front n e f, no_letter run.after run.stops),
      some,
    )

first_fails : (c : ℕ) (cs : List ℕ) (n : ℕ) → n ≡ prefix_len is_ascii_lowercase (c ∷ cs) → n ≤ 0 → is_ascii_lowercase c ≡ false
first_fails c cs n e none = ⊎_elim
    (λ (h : is_ascii_lowercase c ≡ true). absurd (let one : n ≡ 1 + prefix_len is_ascii_lowercase cs = e ∙ cond-true (is_ascii_lowercase c) (1 + prefix_len is_ascii_lowercase cs) 0 h in omega arith))
    (λ (h : is_ascii_lowercase c ≡ false). h)
    (cases_Bool (is_ascii_lowercase c))

begins_with_quote : (c : ℕ) (behind : List ℕ) → c ≢ quote → BeginsNoText c behind
begins_with_quote c behind differs front left bytes (ps, meant, stands, is, right, text) e =
    let whole : literal_text ps ++ left ≡ c ∷ behind = ap (λ z. z ++ left) (sym is) ∙ e in
    let head : c ≡ quote = cc in
    differs head

wrong_first : (c : ℕ) (cs : List ℕ) (n : ℕ) → BeginsWord (c ∷ cs) → n ≡ prefix_len is_ascii_lowercase (c ∷ cs) → n ≤ 0 → BeginsNoText c cs → IsFirstWord (c ∷ cs) 1 Wrong
wrong_first c cs n w e none text = (c ∷ [], cs, record { whole = refl; len = refl }, (c, refl, w, first_fails c cs n e none, text), omega arith)

-- no letter, and no quote
pub spells_wrong : (text : List ℕ) (n c : ℕ) → BeginsWord text → n ≡ prefix_len is_ascii_lowercase text → n ≤ 0 → c ≡ get_or text 0 c → c ≢ quote → IsFirstWord text 1 Wrong
spells_wrong [] n c w e none is differs = absurd w
spells_wrong (x ∷ xs) n c w e none is differs =
    let same : c ≡ x = is in
    wrong_first x xs n w e none (begins_with_quote x xs (λ h. differs (same ∙ h)))

-- a quote with which no text begins
pub spells_open : (text inside : List ℕ) (n c : ℕ) → BeginsWord text → n ≡ prefix_len is_ascii_lowercase text → n ≤ 0 → c ≡ get_or text 0 c → c ≡ quote → inside ≡ drop 1 text → BeginsNoText quote inside
    → IsFirstWord text 1 Wrong
spells_open [] inside n c w e none is q rest h = absurd w
spells_open (x ∷ xs) inside n c w e none is q rest h =
    let same : x ≡ quote = sym is ∙ q in
    let behind : inside ≡ xs = rest in
    wrong_first x xs n w e none (subst (λ z. BeginsNoText z xs) (sym same) (subst (BeginsNoText quote) behind h))

pub spells_text : (text inside bytes : List ℕ) (n c : ℕ) → BeginsWord text → c ≡ get_or text 0 c → c ≡ quote → inside ≡ drop 1 text → IsText inside bytes n → IsFirstWord text (n + 1) (Text bytes)
spells_text [] inside bytes n c w is q rest h = absurd w
spells_text (x ∷ xs) inside bytes n c w is q rest (cs, after, literal, cut) =
    let same : x ≡ quote = sym is ∙ q in
    let behind : inside ≡ xs = rest in (
      quote ∷ cs,
      after,
      record { whole = ap (λ z. quote ∷ z) (cut.whole ∙ behind) ∙ ap (λ z. z ∷ xs) (sym same); len = let l : length cs ≡ n = cut.len in omega arith },
      literal,
      omega arith,
    )
