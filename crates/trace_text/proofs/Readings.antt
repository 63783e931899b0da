-- Texts read line by line.
use Rattle.std.proofs.Common.{◌≡◌, ℕ, zero, suc, ◌+◌, ◌<◌, ◌≤◌, List, [], ◌∷◌, ◌++◌, length, drop, take, refl, sym, ap, ◌∙◌, subst, arith, append_assoc, ⊎_elim}
use Rattle.std.specs.List.{flat_map, AllByRecursion}
use Rattle.std.specs.Prelude.{Result, Ok, Err, Some, IfOk, slice_get}
use Rattle.std.proofs.lemmas.List.Concat.{flat_map-append}
use Rattle.std.proofs.lemmas.Bool.{cases_lt}
use Rattle.std.proofs.lemmas.List.{append-nil, take_all}
use Rattle.hs_rules.specs.declared.entry.Entry.{Entry}
use Rattle.trace_text.specs.spelling.Traces.{Fits, header, line_of, trace_of, Spells}
use Rattle.trace_text.specs.Fields.{letter_of, numbers_then}
use Rattle.trace_text.specs.Reading.{GoesOn, OneReading, OneSpelling, ReadsOn}
use Rattle.trace_text.proofs.EntryLines.{line_parts, one_line}

-- behind one first line the bytes are the same
pub header_apart : (x y : List ℕ) → header ++ x ≡ header ++ y → x ≡ y
unfolding header
header_apart x y h = ap (drop 13) h

lines_apart : (es fs : List Entry) (x y : List ℕ) → AllByRecursion Fits es → AllByRecursion Fits fs → length es ≤ length fs → flat_map line_of es ++ x ≡ flat_map line_of fs ++ y → GoesOn es fs x y
lines_apart [] fs x y p q le h = record { others = fs; entries = refl; bytes = h }
lines_apart (e ∷ es) [] x y p q le h = absurd (omega arith)
lines_apart (e ∷ es) (f ∷ fs) x y p q le h =
    let same = one_line e f (flat_map line_of es ++ x) (flat_map line_of fs ++ y) p.0 q.0 (sym (append_assoc (line_of e) (flat_map line_of es) x) ∙ (h ∙ append_assoc (line_of f) (flat_map line_of fs) y)) in
    let more = lines_apart es fs x y p.1 q.1 (omega arith) same.1 in
    record { others = more.others; entries = ap (λ z. z ∷ fs) (sym same.0) ∙ ap (λ z. e ∷ z) more.entries; bytes = more.bytes }

pub one_reading : OneReading
one_reading text es fs rest after le r s =
    let same : header ++ (flat_map line_of es ++ rest) ≡ header ++ (flat_map line_of fs ++ after) =
    sym (append_assoc header (flat_map line_of es) rest) ∙ (sym r.spelled ∙ (s.spelled ∙ append_assoc header (flat_map line_of fs) after)) in
    lines_apart es fs rest after r.fit s.fit le (header_apart (flat_map line_of es ++ rest) (flat_map line_of fs ++ after) same)

-- no bytes are no lines
pub none_more : (gs : List Entry) (after : List ℕ) → [] ≡ flat_map line_of gs ++ after → gs ≡ []
none_more [] after h = refl
none_more (g ∷ gs) after h =
    let some : [] ≡ letter_of g ∷ numbers_then g (10 ∷ (flat_map line_of gs ++ after)) = h ∙ (append_assoc (line_of g) (flat_map line_of gs) after ∙ line_parts g (flat_map line_of gs ++ after)) in
    cc

ends_there : (text : List ℕ) (es fs : List Entry) → length es ≤ length fs → Spells text es → Spells text fs → fs ≡ es
ends_there text es fs le r s =
    let more = one_reading text es fs [] [] le r s in
    more.entries ∙ (ap (λ z. es ++ z) (none_more more.others [] more.bytes) ∙ append-nil es)

pub one_spelling : OneSpelling
one_spelling text es fs r s =
    ⊎_elim (λ (h : length es < length fs). sym (ends_there text es fs (omega arith) r s)) (λ (h : length fs ≤ length es). ends_there text fs es h s r) (cases_lt (length es) (length fs))

-- ---- one entry more

fit_last : (es : List Entry) (e : Entry) → AllByRecursion Fits es → Fits e → AllByRecursion Fits (es ++ e ∷ [])
fit_last [] e p q = (q, tt)
fit_last (f ∷ es) e p q = (p.0, fit_last es e p.1 q)

trace_last : (es : List Entry) (e : Entry) → trace_of (es ++ e ∷ []) ≡ trace_of es ++ line_of e
trace_last es e = ap (λ z. header ++ z) (flat_map-append line_of es (e ∷ []) ∙ ap (λ z. flat_map line_of es ++ z) (append-nil (line_of e))) ∙ sym (append_assoc header (flat_map line_of es) (line_of e))

pub reads_on : ReadsOn
reads_on text es e rest r fits = record {
  fit = fit_last es e r.fit fits;
  spelled = r.spelled ∙ (sym (append_assoc (trace_of es) (line_of e) rest) ∙ ap (λ z. z ++ rest) (sym (trace_last es e)));
}

take_one_more : (es : List Entry) (i : ℕ) (e : Entry) → slice_get es i ≡ Some e → take (i + 1) es ≡ take i es ++ e ∷ []
take_one_more [] i e h = cc
take_one_more (f ∷ es) zero e h = let same : f ≡ e = cc in ap (λ z. z ∷ []) same
take_one_more (f ∷ es) (suc i) e h = ap (λ k. take k (f ∷ es)) (let a : suc i + 1 ≡ suc (i + 1) = omega arith in a) ∙ ap (λ z. f ∷ z) (take_one_more es i e h)

-- the text is the trace of the first of these entries
pub record Written (es : List Entry) (i : ℕ) (text : List ℕ) : Type 0 where
  pub fit : AllByRecursion Fits (take i es)
  pub spelled : text ≡ trace_of (take i es)

pub written_none : (es : List Entry) (text : List ℕ) → text ≡ header → Written es 0 text
written_none es text h = record { fit = tt; spelled = h ∙ sym (append-nil header) }

pub written_more : (es : List Entry) (i : ℕ) (e : Entry) (text more : List ℕ) → slice_get es i ≡ Some e → Written es i text → Fits e → more ≡ text ++ line_of e → Written es (i + 1) more
written_more es i e text more at w fits h =
    let next = take_one_more es i e at in
    record {
      fit = (let P : List Entry → Type 0 = AllByRecursion Fits in subst P (sym next) (fit_last (take i es) e w.fit fits));
      spelled = h ∙ (ap (λ z. z ++ line_of e) w.spelled ∙ (sym (trace_last (take i es) e) ∙ ap trace_of (sym next)));
    }

written_all : (es : List Entry) (n : ℕ) (text : List ℕ) → length es ≤ n → Written es n text → Spells text es
written_all es n text le w =
    let all = take_all n es le in
    record {
      fit = (let P : List Entry → Type 0 = AllByRecursion Fits in subst P all w.fit);
      spelled = w.spelled ∙ (ap trace_of all ∙ sym (append-nil (trace_of es)));
    }

pub ok_spells : {E : Type 0} (r : Result (List ℕ) E) (text : List ℕ) (es : List Entry) (n : ℕ) → IfOk r (λ t. t ≡ text) → length es ≤ n → Written es n text → IfOk r (λ t. Spells t es)
ok_spells (Ok t) text es n h le w = let P : List ℕ → Type 0 = λ z. Spells z es in subst P (sym h) (written_all es n text le w)
ok_spells (Err e) text es n h le w = tt
