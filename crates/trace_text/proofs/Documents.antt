-- A document is parted where its trace ends.
use Rattle.std.proofs.Common.{◌≡◌, ◌≢◌, ℕ, zero, suc, ◌+◌, ◌-◌, ◌<◌, ◌≤◌, ◌^◌, List, [], ◌∷◌, ◌++◌, length, take, drop, get_or, refl, sym, ap, ◌∙◌, subst, arith, append_assoc, length-append, ⊎_elim, inr}
use Rattle.std.specs.List.{flat_map, list_all, AllByRecursion}
use Rattle.std.specs.Fmt.{decimal}
use Rattle.std.specs.Str.Parse.{AllDigits}
use Rattle.std.proofs.lemmas.Fmt.{decimal_is_IsNumeral}
use Rattle.std.proofs.lemmas.Str.Parse.{digit_from_value}
use Rattle.std.specs.Prelude.{true, false, not, ◌==◌}
use Rattle.std.proofs.lemmas.Bool.{cases_lt, and_parts}
use Rattle.std.proofs.lemmas.Bool.Decides.{Decides-eqb}
use Rattle.std.proofs.lemmas.List.{append-nil, get_or-drop}
use Rattle.std.proofs.Math.Seq.{take-append_seam, drop-append_seam, drop-nil}
use Rattle.hs_rules.specs.declared.entry.Entry.{Entry}
use Rattle.hs_rules.specs.declared.entry.Entry.TheVariants.{Local, Op, Receive, Wake, Finish, Tick, Stranded}
use Rattle.trace_text.specs.spelling.Traces.{Fits, Spells, header, line_of, trace_of, script_line, document_of}
use Rattle.trace_text.specs.Reading.{DocumentsPart}

-- ---- no byte of a trace is the `s` that begins the line `script`

abbrev HasNoS : List ℕ → Type 0
HasNoS bs = AllByRecursion (λ b. b ≢ 115) bs

no_s-append : (xs ys : List ℕ) → HasNoS xs → HasNoS ys → HasNoS (xs ++ ys)
no_s-append [] ys p q = q
no_s-append (x ∷ xs) ys p q = (p.0, no_s-append xs ys p.1 q)

no_s-digits : (ds : List ℕ) → AllDigits 10 ds → HasNoS ds
no_s-digits [] d = tt
no_s-digits (c ∷ cs) d = (λ e. omega (arith, e, digit_from_value c d.0), no_s-digits cs d.1)

no_s-number : (n : ℕ) → n < 2 ^ 64 → HasNoS (decimal n)
no_s-number n small = no_s-digits (decimal n) (decimal_is_IsNumeral n small).0.1

not_s : (c : ℕ) → c < 115 → c ≢ 115
not_s c h e = omega arith

-- bytes that are known
no_s-known : (bs : List ℕ) → list_all (λ b. not (b == 115)) bs ≡ true → HasNoS bs
no_s-known [] h = tt
no_s-known (b ∷ bs) h =
    let both = and_parts (not (b == 115)) (list_all (λ c. not (c == 115)) bs) h in
    (λ e. let no : false ≡ true = sym (ap not ((Decides-eqb b 115).1 e)) ∙ both.0 in cc, no_s-known bs both.1)

one_number : (letter n : ℕ) → letter < 115 → n < 2 ^ 64 → HasNoS ((letter ∷ 32 ∷ []) ++ decimal n ++ 10 ∷ [])
one_number letter n low small =
    no_s-append ((letter ∷ 32 ∷ []) ++ decimal n) (10 ∷ []) (no_s-append (letter ∷ 32 ∷ []) (decimal n) (not_s letter low, (not_s 32 (omega arith), tt)) (no_s-number n small)) (no_s-known (10 ∷ []) refl)

no_s-line : (e : Entry) → Fits e → HasNoS (line_of e)
no_s-line (Local t k) fits =
    no_s-append ((76 ∷ 32 ∷ []) ++ decimal t ++ 32 ∷ [] ++ decimal k) (10 ∷ [])
    (no_s-append ((76 ∷ 32 ∷ []) ++ decimal t ++ 32 ∷ []) (decimal k)
    (no_s-append ((76 ∷ 32 ∷ []) ++ decimal t) (32 ∷ [])
    (no_s-append (76 ∷ 32 ∷ []) (decimal t) (no_s-known (76 ∷ 32 ∷ []) refl) (no_s-number t (omega (arith, fits.0))))
    (no_s-known (32 ∷ []) refl))
    (no_s-number k (omega (arith, fits.1))))
    (no_s-known (10 ∷ []) refl)
no_s-line (Op t) fits = one_number 79 t (omega arith) (omega (arith, fits))
no_s-line (Receive t) fits = one_number 82 t (omega arith) (omega (arith, fits))
no_s-line (Wake t) fits = one_number 87 t (omega arith) (omega (arith, fits))
no_s-line (Finish t) fits = one_number 70 t (omega arith) (omega (arith, fits))
no_s-line (Tick at) fits = one_number 84 at (omega arith) fits
no_s-line Stranded fits = no_s-known (83 ∷ 10 ∷ []) refl

no_s-lines : (es : List Entry) → AllByRecursion Fits es → HasNoS (flat_map line_of es)
no_s-lines [] p = tt
no_s-lines (e ∷ es) p = no_s-append (line_of e) (flat_map line_of es) (no_s-line e p.0) (no_s-lines es p.1)

no_s-header : HasNoS header
unfolding header
no_s-header = no_s-known header refl

no_s-at : (xs ys : List ℕ) (i : ℕ) → HasNoS xs → i < length xs → get_or (xs ++ ys) i 0 ≢ 115
no_s-at [] ys i p h = absurd (omega arith)
no_s-at (x ∷ xs) ys zero p h = p.0
no_s-at (x ∷ xs) ys (suc i) p h = no_s-at xs ys i p.1 (omega arith)

-- ---- a trace ends with a line feed

pub record EndsLine (bs : List ℕ) : Type 0 where
  pub front : List ℕ
  pub whole : bs ≡ front ++ 10 ∷ []

ends_line : (e : Entry) → EndsLine (line_of e)
ends_line (Local t k) = record { front = (76 ∷ 32 ∷ []) ++ decimal t ++ 32 ∷ [] ++ decimal k; whole = refl }
ends_line (Op t) = record { front = (79 ∷ 32 ∷ []) ++ decimal t; whole = refl }
ends_line (Receive t) = record { front = (82 ∷ 32 ∷ []) ++ decimal t; whole = refl }
ends_line (Wake t) = record { front = (87 ∷ 32 ∷ []) ++ decimal t; whole = refl }
ends_line (Finish t) = record { front = (70 ∷ 32 ∷ []) ++ decimal t; whole = refl }
ends_line (Tick at) = record { front = (84 ∷ 32 ∷ []) ++ decimal at; whole = refl }
ends_line Stranded = record { front = 83 ∷ []; whole = refl }

ends_behind : (xs ys : List ℕ) → EndsLine ys → EndsLine (xs ++ ys)
ends_behind xs ys e = record { front = xs ++ e.front; whole = ap (λ z. xs ++ z) e.whole ∙ sym (append_assoc xs e.front (10 ∷ [])) }

ends_lines : (xs : List ℕ) (es : List Entry) → EndsLine xs → EndsLine (xs ++ flat_map line_of es)
ends_lines xs [] e = subst EndsLine (sym (append-nil xs)) e
ends_lines xs (e ∷ es) h = subst EndsLine (append_assoc xs (line_of e) (flat_map line_of es)) (ends_lines (xs ++ line_of e) es (ends_behind xs (line_of e) (ends_line e)))

ends_header : EndsLine header
unfolding header
ends_header = record { front = take 12 header; whole = refl }

last_byte : (xs ys : List ℕ) → EndsLine xs → get_or (xs ++ ys) (length xs - 1) 0 ≡ 10
last_byte xs ys e =
    let size : length xs ≡ length e.front + 1 = ap length e.whole ∙ length-append e.front (10 ∷ []) in
    let same : xs ++ ys ≡ e.front ++ (10 ∷ ys) = ap (λ z. z ++ ys) e.whole ∙ append_assoc e.front (10 ∷ []) ys in
    let place : length xs - 1 ≡ length e.front + 0 = omega arith in
    ap (λ i. get_or (xs ++ ys) i 0) place ∙ (ap (λ z. get_or z (length e.front + 0) 0) same ∙ (sym (get_or-drop (length e.front) (e.front ++ (10 ∷ ys)) 0 0) ∙ ap (λ z. get_or z 0 0) (drop-append_seam e.front (10 ∷ ys))))

-- ---- the two parts

take_line : (script : List ℕ) → take 7 (script_line ++ script) ≡ script_line
unfolding script_line
take_line script = refl

drop_line : (script : List ℕ) → drop 7 (script_line ++ script) ≡ script
unfolding script_line
drop_line script = refl

first_of_line : get_or script_line 0 0 ≡ 115
unfolding script_line
first_of_line = refl

first_taken : (xs : List ℕ) → get_or (take 7 xs) 0 0 ≡ get_or xs 0 0
first_taken [] = refl
first_taken (x ∷ xs) = refl

drop_drop : (m n : ℕ) (xs : List ℕ) → drop (m + n) xs ≡ drop n (drop m xs)
drop_drop zero n xs = ap (λ k. drop k xs) (let e : 0 + n ≡ n = omega arith in e)
drop_drop (suc m) n [] = ap (λ k. drop k []) (let e : suc m + n ≡ suc (m + n) = omega arith in e) ∙ sym (drop-nil n)
drop_drop (suc m) n (x ∷ xs) = ap (λ k. drop k (x ∷ xs)) (let e : suc m + n ≡ suc (m + n) = omega arith in e) ∙ drop_drop m n xs

pub documents_part : DocumentsPart
documents_part es script fit =
    let trace : List ℕ = trace_of es in
    let behind : List ℕ = script_line ++ script in
    let whole : document_of es script ≡ trace ++ behind = append_assoc trace script_line script in
    let seam : drop (length trace) (document_of es script) ≡ behind = ap (drop (length trace)) whole ∙ drop-append_seam trace behind in
    let quiet : HasNoS trace = no_s-append header (flat_map line_of es) no_s-header (no_s-lines es fit) in
    record {
      line = record {
        begins = inr (ap (λ z. get_or z (length trace - 1) 0) whole ∙ last_byte trace behind (ends_lines header es ends_header));
        line = ap (take 7) seam ∙ take_line script;
      };
      first = λ at h.
          let letter : get_or (trace ++ behind) at 0 ≡ 115 =
          sym (ap (λ z. get_or z at 0) whole) ∙ (ap (λ i. get_or (document_of es script) i 0) (let e : at ≡ at + 0 = omega arith in e) ∙ (sym (get_or-drop at (document_of es script) 0 0) ∙ (sym (first_taken (drop at (document_of es script))) ∙ (ap (λ z. get_or z 0 0) h.line ∙ first_of_line)))) in
          ⊎_elim (λ (l : at < length trace). absurd (no_s-at trace behind at quiet l letter)) (λ (l : length trace ≤ at). l) (cases_lt at (length trace));
      before = ap (take (length trace)) whole ∙ take-append_seam trace behind;
      behind = drop_drop (length trace) 7 (document_of es script) ∙ (ap (drop 7) seam ∙ drop_line script);
    }

-- ---- the document, as it is put together

pub document_is : (es : List Entry) (trace bytes begin first whole : List ℕ) → whole ≡ first ++ bytes → first ≡ begin ++ script_line → begin ≡ trace → Spells trace es → whole ≡ document_of es bytes
document_is es trace bytes begin first whole last line same spelled =
    last ∙ ap (λ z. z ++ bytes) (line ∙ ap (λ z. z ++ script_line) (same ∙ spelled.spelled ∙ append-nil (trace_of es)))
