-- The first line that isn't as a trace has it.
use Rattle.std.proofs.Common.{◌≡◌, ℕ, ◌<◌, ◌≤◌, List, [], ◌∷◌, ◌++◌, length, sym, ap, ◌∙◌, subst, arith, append_assoc, length-append, ⊎_elim, inl, inr}
use Rattle.std.specs.List.{flat_map, AllByRecursion}
use Rattle.std.proofs.lemmas.Bool.{cases_lt}
use Rattle.hs_rules.specs.declared.entry.Entry.{Entry}
use Rattle.trace_text.specs.spelling.Traces.{Fits, header, line_of, Reads, HasNoHeader, GoesWrong, BeginsNoLine}
use Rattle.trace_text.specs.Reading.{FaultsComeLater, OneFault, TracesAreFaultless}
use Rattle.trace_text.proofs.Readings.{one_reading, none_more}

has_header : (text : List ℕ) (es : List Entry) (rest : List ℕ) → Reads text es rest → HasNoHeader text → ⊥
has_header text es rest r none = none (flat_map line_of es ++ rest) (r.spelled ∙ append_assoc header (flat_map line_of es) rest)

-- the entries behind others fit too
pub fit_behind : (es fs : List Entry) → AllByRecursion Fits (es ++ fs) → AllByRecursion Fits fs
fit_behind [] fs p = p
fit_behind (e ∷ es) fs p = fit_behind es fs p.1

-- bytes with no line at their begin aren't lines
no_more : (others : List Entry) (after rest : List ℕ) → AllByRecursion Fits others → BeginsNoLine after → after ≡ flat_map line_of others ++ rest → 0 < length others → ⊥
no_more [] after rest p wrong h some = omega arith
no_more (e ∷ es) after rest p wrong h some = wrong e (flat_map line_of es ++ rest) p.0 (h ∙ append_assoc (line_of e) (flat_map line_of es) rest)

wrong_later : (text : List ℕ) (es fs : List Entry) (rest after : List ℕ) → Reads text es rest → GoesWrong text fs after → length es ≤ length fs
wrong_later text es fs rest after r g =
    ⊎_elim (λ (h : length fs < length es).
    let more = one_reading text fs es after rest (omega arith) g.read r in
    let P : List Entry → Type 0 = AllByRecursion Fits in
    let fit : AllByRecursion Fits more.others = fit_behind fs more.others (subst P more.entries r.fit) in
    let longer : 0 < length more.others = omega (arith, ap length more.entries, length-append fs more.others) in
    absurd (no_more more.others after rest fit g.wrong more.bytes longer))
    (λ (h : length es ≤ length fs). h)
    (cases_lt (length fs) (length es))

pub faults_come_later : FaultsComeLater
faults_come_later text es rest n r (inl none) = absurd (has_header text es rest r none.0)
faults_come_later text es rest n r (inr (fs, after, g, e)) = omega (arith, wrong_later text es fs rest after r g, e)

pub one_fault : OneFault
one_fault text m n (inl a) (inl b) = a.1 ∙ sym b.1
one_fault text m n (inl a) (inr (fs, after, g, e)) = absurd (has_header text fs after g.read a.0)
one_fault text m n (inr (fs, after, g, e)) (inl b) = absurd (has_header text fs after g.read b.0)
one_fault text m n (inr (es, rest, g, d)) (inr (fs, after, h, e)) =
    omega (arith, d, e, wrong_later text es fs rest after g.read h, wrong_later text fs es after rest h.read g)

pub traces_are_faultless : TracesAreFaultless
traces_are_faultless text es n s (inl a) = has_header text es [] s a.0
traces_are_faultless text es n s (inr (fs, after, g, e)) =
    let more = one_reading text es fs [] after (wrong_later text es fs [] after s g) s g.read in
    let none = none_more more.others after more.bytes in
    g.more (sym (more.bytes ∙ ap (λ z. flat_map line_of z ++ after) none))
