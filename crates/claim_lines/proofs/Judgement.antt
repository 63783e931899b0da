-- The claims that were judged so far.
use Rattle.std.proofs.Common.{◌≡◌, ℕ, ◌+◌, ◌<◌, Bool, ◌||◌, false, cond, List, [], ◌∷◌, ◌++◌, length, get_or, take, refl, sym, ap, subst, ◌∙◌, append_assoc, append-nil}
use Rattle.std.proofs.Math.Seq.{take-length}
use Rattle.std.proofs.Math.Bool.{or-false}
use Rattle.std.specs.List.{list_any}
use Rattle.std.proofs.lemmas.List.{take_more}
use Rattle.std.proofs.lemmas.List.Folds.{list_any-append}
use Rattle.outcome_listing.specs.declared.explored.Explored.{Explored}
use Rattle.claim_lines.specs.declared.claim.Claim.{Claim}
use Rattle.claim_lines.specs.declared.verdict.Verdict.{Verdict}
use Rattle.claim_lines.specs.declared.verdict.Judged.{Judged}
use Rattle.claim_lines.specs.declared.verdict.Judged.TheVariants as judged
use Rattle.claim_lines.specs.Verdicts.{Judges, JudgeAll, fails, is_open, judged_of, verdict_line, verdict_lines}

-- these claims have verdicts, of which these two say whether some fails and whether some is open, and this is their text
pub record AreJudged (e : Explored) (claims : List Claim) (failing undecided : Bool) (text : List ℕ) : Type 0 where
  pub verdicts : List Verdict
  pub judged : JudgeAll e claims verdicts
  pub fail : failing ≡ list_any fails verdicts
  pub undecide : undecided ≡ list_any is_open verdicts
  pub written : text ≡ verdict_lines claims verdicts

pub none_judged : (e : Explored) (claims : List Claim) → AreJudged e (take 0 claims) false false []
none_judged e claims = record { verdicts = []; judged = tt; fail = refl; undecide = refl; written = refl }

any_more : (p : Verdict → Bool) (vs : List Verdict) (v : Verdict) (old : Bool) → old ≡ list_any p vs → (old || p v) ≡ list_any p (vs ++ v ∷ [])
any_more p vs v old e = ap (λ b. b || p v) e ∙ (ap (λ b. list_any p vs || b) (sym (or-false (p v))) ∙ sym (list_any-append p vs (v ∷ [])))

lines_more : (e : Explored) (cs : List Claim) (vs : List Verdict) (c : Claim) (v : Verdict) → JudgeAll e cs vs → verdict_lines cs vs ++ verdict_line c.line v ≡ verdict_lines (cs ++ c ∷ []) (vs ++ v ∷ [])
lines_more e [] [] c v h = sym (append-nil (verdict_line c.line v))
lines_more e [] (w ∷ vs) c v h = absurd h
lines_more e (d ∷ cs) [] c v h = absurd h
lines_more e (d ∷ cs) (w ∷ vs) c v h = append_assoc (verdict_line d.line w) (verdict_lines cs vs) (verdict_line c.line v) ∙ ap (λ z. verdict_line d.line w ++ z) (lines_more e cs vs c v h.1)

verdicts_more : (e : Explored) (cs : List Claim) (vs : List Verdict) (c : Claim) (v : Verdict) → JudgeAll e cs vs → Judges e c.says v → JudgeAll e (cs ++ c ∷ []) (vs ++ v ∷ [])
verdicts_more e [] [] c v h now = (now, tt)
verdicts_more e [] (w ∷ vs) c v h now = absurd h
verdicts_more e (d ∷ cs) [] c v h now = absurd h
verdicts_more e (d ∷ cs) (w ∷ vs) c v h now = (h.0, verdicts_more e cs vs c v h.1 now)

judged_then : (e : Explored) (cs : List Claim) (c : Claim) (v : Verdict) (failing undecided : Bool) (old new : List ℕ) → AreJudged e cs failing undecided old → Judges e c.says v → new ≡ old ++ verdict_line c.line v → AreJudged e (cs ++ c ∷ []) (failing || fails v) (undecided || is_open v) new
judged_then e cs c v failing undecided old new so h w = record {
  verdicts = so.verdicts ++ v ∷ [];
  judged = verdicts_more e cs so.verdicts c v so.judged h;
  fail = any_more fails so.verdicts v failing so.fail;
  undecide = any_more is_open so.verdicts v undecided so.undecide;
  written = w ∙ (ap (λ z. z ++ verdict_line c.line v) so.written ∙ lines_more e cs so.verdicts c v so.judged);
}

pub more_judged : (e : Explored) (claims : List Claim) (i : ℕ) (c : Claim) (v : Verdict) (failing undecided : Bool) (old new : List ℕ) → i < length claims → c ≡ get_or claims i c → AreJudged e (take i claims) failing undecided old → Judges e c.says v → new ≡ old ++ verdict_line c.line v → AreJudged e (take (i + 1) claims) (failing || fails v) (undecided || is_open v) new
more_judged e claims i c v failing undecided old new less is so h w =
    let grown : take i claims ++ c ∷ [] ≡ take (i + 1) claims = ap (λ z. take i claims ++ z ∷ []) is ∙ sym (take_more claims i c less) in
    subst (λ cs. AreJudged e cs (failing || fails v) (undecided || is_open v) new) grown (judged_then e (take i claims) c v failing undecided old new so h w)

pub all_judged : (e : Explored) (claims : List Claim) (failing undecided : Bool) (text : List ℕ) (r : Judged) → AreJudged e (take (length claims) claims) failing undecided text → r ≡ cond failing judged.Fail (cond undecided judged.Open judged.Hold) → (verdicts : List Verdict) × JudgeAll e claims verdicts × (r ≡ judged_of verdicts) × (text ≡ verdict_lines claims verdicts)
all_judged e claims failing undecided text r so is =
    let whole = subst (λ cs. AreJudged e cs failing undecided text) (take-length claims) so in
    (whole.verdicts, whole.judged, is ∙ (ap (λ b. cond b judged.Fail (cond undecided judged.Open judged.Hold)) whole.fail ∙ ap (λ b. cond (list_any fails whole.verdicts) judged.Fail (cond b judged.Open judged.Hold)) whole.undecide), whole.written)
