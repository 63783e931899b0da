-- The claims of the lines of a text, line by line.
use Rattle.std.proofs.Common.{◌≡◌, ℕ, ◌+◌, ◌<◌, ◌≤◌, List, [], ◌∷◌, ◌++◌, length, take, drop, true, not, refl, sym, ap, ◌∙◌, subst, arith, inl, inr, append_assoc, append-nil, length-append, length-drop}
use Rattle.std.specs.List.{prefix_len, slice_split, onto_first, list_all}
use Rattle.std.proofs.lemmas.List.Splits.{slice_split-cons_no, slice_split_first}
use Rattle.std.proofs.lemmas.Bool.{and_parts, not-true, cases_lt}
use Rattle.std.specs.Str.{IsUtf8, chars}
use Rattle.std.proofs.lemmas.Str.{length-le-encodes, encodes-chars}
use Rattle.rules_tokens.specs.Tokens.{is_line_feed}
use Rattle.claim_lines.specs.declared.claim.Claim.{Claim}
use Rattle.claim_lines.specs.declared.claim.Says.{Says}
use Rattle.claim_lines.specs.declared.claim.ClaimFault.{ClaimFault}
use Rattle.claim_lines.specs.declared.claim.ClaimFault.TheVariants.{Refused, NoMemory}
use Rattle.claim_lines.specs.Lines.{lines_of, IsNoClaim}
use Rattle.claim_lines.specs.Reading.{IsWritten, HaveClaims, HasClaims, IsFault}
use Rattle.claim_lines.specs.Fronts.{AddsLine, IsLineFault}
use Rattle.claim_lines.proofs.Cuts.{prefix_is_run, cut_length}

-- ---- lines

no_feed_split : (xs : List ℕ) → list_all (λ c. not (is_line_feed c)) xs ≡ true → slice_split is_line_feed xs ≡ xs ∷ []
no_feed_split [] h = refl
no_feed_split (x ∷ xs) h =
    let both = and_parts (not (is_line_feed x)) (list_all (λ c. not (is_line_feed c)) xs) h in
    slice_split-cons_no is_line_feed x xs (not-true (is_line_feed x) both.0) ∙ ap (onto_first x) (no_feed_split xs both.1)

-- the last line
pub last_line : (rest : List ℕ) → prefix_len (λ c. not (is_line_feed c)) rest ≡ length rest → lines_of rest ≡ rest ∷ []
last_line rest e =
    let run = prefix_is_run (λ c. not (is_line_feed c)) rest in
    let count = cut_length rest (prefix_len (λ c. not (is_line_feed c)) rest) run.front run.after run.cut in
    let none : run.after ≡ [] = nil run.after (omega arith) in
    let same : run.front ≡ rest = sym (append-nil run.front) ∙ (ap (λ z. run.front ++ z) (sym none) ∙ run.cut.whole) in
    no_feed_split rest (ap (list_all (λ c. not (is_line_feed c))) (sym same) ∙ run.passes)
  where
    nil : (xs : List ℕ) → length xs ≡ 0 → xs ≡ []
    nil [] h = refl
    nil (x ∷ xs) h = absurd (omega arith)

-- ---- claims

claims_none : (n : ℕ) (before : List (List ℕ)) (line : List ℕ) (claims : List Claim) → HaveClaims n before claims → IsNoClaim line → HaveClaims n (before ++ line ∷ []) claims
claims_none n [] line claims h none = inl (none, h)
claims_none n (l ∷ ls) line claims (inl (other, rest)) none = inl (other, claims_none (n + 1) ls line claims rest none)
claims_none n (l ∷ ls) line claims (inr (says, more, e, written, rest)) none = inr (says, more, e, written, claims_none (n + 1) ls line more rest none)

claims_add : (n : ℕ) (before : List (List ℕ)) (line : List ℕ) (claims : List Claim) (says : Says) (number : ℕ) → HaveClaims n before claims → IsWritten line says → number ≡ length before + n
    → HaveClaims n (before ++ line ∷ []) (claims ++ record { line = number; says = says } ∷ [])
claims_add n [] line claims says number h w e =
    let same : number ≡ n = omega arith in
    inr (says, [], ap (λ z. z ++ record { line = number; says = says } ∷ []) h ∙ ap (λ k. record { line = k; says = says } ∷ []) same, w, refl)
claims_add n (l ∷ ls) line claims says number (inl (other, rest)) w e = inl (other, claims_add (n + 1) ls line claims says number rest w (omega arith))
claims_add n (l ∷ ls) line claims says number (inr (first, more, is, written, rest)) w e =
    inr (first, more ++ record { line = number; says = says } ∷ [], ap (λ z. z ++ record { line = number; says = says } ∷ []) is, written, claims_add (n + 1) ls line more says number rest w (omega arith))

-- the lines before `rest` have these claims, and this is the number of its first one
pub record AreReadTo (text : List ℕ) (claims : List Claim) (number : ℕ) (rest : List ℕ) : Type 0 where
  pub before : List (List ℕ)
  pub split : lines_of text ≡ before ++ lines_of rest
  pub right : HaveClaims 1 before claims
  pub count : number ≡ length before + 1
  pub room : number + length rest ≤ length text + 1

pub lines_start : (text : List ℕ) (claims : List Claim) → claims ≡ [] → AreReadTo text claims 1 text
lines_start text claims e = record { before = []; split = refl; right = e; count = omega arith; room = omega arith }

more_claims : (before : List (List ℕ)) (line : List ℕ) (old new : List Claim) (number : ℕ) → HaveClaims 1 before old → number ≡ length before + 1 → AddsLine line number old new → HaveClaims 1 (before ++ line ∷ []) new
more_claims before line old new number h e (inl (none, same)) = subst (HaveClaims 1 (before ++ line ∷ [])) (sym same) (claims_none 1 before line old h none)
more_claims before line old new number h e (inr (says, w, same)) = subst (HaveClaims 1 (before ++ line ∷ [])) (sym same) (claims_add 1 before line old says number h w e)

abbrev pub line_end : List ℕ → ℕ
line_end rest = prefix_len (λ c. not (is_line_feed c)) rest

pub line_within : (rest : List ℕ) → line_end rest ≤ length rest
line_within rest =
    let run = prefix_is_run (λ c. not (is_line_feed c)) rest in
    omega (arith, cut_length rest (line_end rest) run.front run.after run.cut)

pub lines_next : (text rest : List ℕ) (old new : List Claim) (number : ℕ) → AreReadTo text old number rest → AddsLine (take (line_end rest) rest) number old new → line_end rest < length rest
    → AreReadTo text new (number + 1) (drop (line_end rest + 1) rest)
lines_next text rest old new number r adds more = record {
  before = r.before ++ take (line_end rest) rest ∷ [];
  split = r.split ∙ (ap (λ z. r.before ++ z) (slice_split_first is_line_feed rest 0 more) ∙ sym (append_assoc r.before (take (line_end rest) rest ∷ []) (lines_of (drop (line_end rest + 1) rest))));
  right = more_claims r.before (take (line_end rest) rest) old new number r.right r.count adds;
  count = let n : number ≡ length r.before + 1 = r.count in omega (arith, length-append r.before (take (line_end rest) rest ∷ []));
  room = let n : number + length rest ≤ length text + 1 = r.room in omega (arith, length-drop (line_end rest + 1) rest);
}

take_whole : (xs : List ℕ) → take (length xs) xs ≡ xs
take_whole [] = refl
take_whole (x ∷ xs) = ap (λ z. x ∷ z) (take_whole xs)

pub lines_all : (text rest : List ℕ) (old new : List Claim) (number : ℕ) → AreReadTo text old number rest → AddsLine (take (line_end rest) rest) number old new → line_end rest ≡ length rest → HasClaims text new
lines_all text rest old new number r adds e =
    let line : take (line_end rest) rest ≡ rest = ap (λ k. take k rest) e ∙ take_whole rest in
    let all : r.before ++ take (line_end rest) rest ∷ [] ≡ lines_of text = ap (λ z. r.before ++ z ∷ []) line ∙ (ap (λ z. r.before ++ z) (sym (last_line rest e)) ∙ sym r.split) in
    subst (λ z. HaveClaims 1 z new) all (more_claims r.before (take (line_end rest) rest) old new number r.right r.count adds)

-- the first line of what is left, and those behind it
first_line : (rest : List ℕ) → (behind : List (List ℕ)) × (lines_of rest ≡ take (line_end rest) rest ∷ behind)
first_line rest = elim (cases_lt (line_end rest) (length rest)) [
  | inl more ↦ (lines_of (drop (line_end rest + 1) rest), slice_split_first is_line_feed rest 0 more)
  | inr all ↦ (let same : line_end rest ≡ length rest = omega (arith, line_within rest) in ([], last_line rest same ∙ ap (λ z. z ∷ []) (sym (ap (λ k. take k rest) same ∙ take_whole rest))))
]

pub lines_refused : (text rest : List ℕ) (claims : List Claim) (number : ℕ) (fault : ClaimFault) → AreReadTo text claims number rest → IsLineFault (take (line_end rest) rest) number fault → IsFault text fault
lines_refused text rest claims number (Refused at) r (line, wrong) =
    let (behind, e) = first_line rest in
    record {
      before = r.before;
      line = take (line_end rest) rest;
      behind = behind;
      claims = claims;
      split = r.split ∙ ap (λ z. r.before ++ z) e;
      right = r.right;
      number = line ∙ r.count;
      wrong = wrong;
    }
lines_refused text rest claims number NoMemory r h = tt

-- ---- what the code tells

pub line_front : (rest front : List ℕ) (n : ℕ) → n ≡ line_end rest → front ≡ take n rest → front ≡ take (line_end rest) rest
line_front rest front n e f = f ∙ ap (λ k. take k rest) e

pub adds_at : (line front : List ℕ) (number : ℕ) (old new : List Claim) → front ≡ line → AddsLine front number old new → AddsLine line number old new
adds_at line front number old new e h = subst (λ z. AddsLine z number old new) e h

pub fault_at : (line front : List ℕ) (number : ℕ) (fault : ClaimFault) → front ≡ line → IsLineFault front number fault → IsLineFault line number fault
fault_at line front number fault e h = subst (λ z. IsLineFault z number fault) e h

pub few_chars : (text all : List ℕ) → IsUtf8 text → all ≡ chars text → length all ≤ length text
few_chars text all u e = omega (arith, length-le-encodes (chars text), ap length (encodes-chars text u), ap length e)
