-- A text cut at a place, and its longest front whose characters pass a test.
use Rattle.std.proofs.Common.{◌≡◌, ℕ, ◌+◌, List, [], ◌∷◌, ◌++◌, length, take, drop, Bool, true, false, refl, sym, ap, ◌∙◌, subst, arith, ⊎_elim, length-append}
use Rattle.std.specs.List.{list_all, prefix_len}
use Rattle.std.proofs.Math.Seq.{take-append_seam, drop-append_seam}
use Rattle.std.proofs.lemmas.Bool.{cases_Bool, cond-true, cond-false, and_from, and_parts, false≢true}
use Rattle.claim_lines.specs.Fronts.{IsCut}

pub cut_take : (text : List ℕ) (n : ℕ) (front after : List ℕ) → IsCut text n front after → take n text ≡ front
cut_take text n front after cut = ap (take n) (sym cut.whole) ∙ (ap (λ k. take k (front ++ after)) (sym cut.len) ∙ take-append_seam front after)

pub cut_drop : (text : List ℕ) (n : ℕ) (front after : List ℕ) → IsCut text n front after → drop n text ≡ after
cut_drop text n front after cut = ap (drop n) (sym cut.whole) ∙ (ap (λ k. drop k (front ++ after)) (sym cut.len) ∙ drop-append_seam front after)

pub cut_length : (text : List ℕ) (n : ℕ) (front after : List ℕ) → IsCut text n front after → n + length after ≡ length text
cut_length text n front after cut =
    let all : length front + length after ≡ length text = sym (length-append front after) ∙ ap length cut.whole in
    let len : length front ≡ n = cut.len in
    omega arith

-- the text is at its end, or its first character fails the test
abbrev pub Stops : (ℕ → Bool) → List ℕ → Type 0
Stops p [] = Unit {0}
Stops p (c ∷ cs) = p c ≡ false

-- the first n characters pass, and there the text stops
pub record IsRun (p : ℕ → Bool) (text : List ℕ) (n : ℕ) : Type 0 where
  pub front : List ℕ
  pub after : List ℕ
  pub cut : IsCut text n front after
  pub passes : list_all p front ≡ true
  pub stops : Stops p after

longer : (p : ℕ → Bool) (x : ℕ) (xs : List ℕ) (n : ℕ) → p x ≡ true → IsRun p xs n → IsRun p (x ∷ xs) (1 + n)
longer p x xs n e r = record {
  front = x ∷ r.front;
  after = r.after;
  cut = record { whole = ap (λ z. x ∷ z) r.cut.whole; len = let l : length r.front ≡ n = r.cut.len in omega arith };
  passes = and_from (p x) (list_all p r.front) e r.passes;
  stops = r.stops;
}

none : (p : ℕ → Bool) (x : ℕ) (xs : List ℕ) → p x ≡ false → IsRun p (x ∷ xs) 0
none p x xs e = record { front = []; after = x ∷ xs; cut = record { whole = refl; len = refl }; passes = refl; stops = e }

pub prefix_is_run : (p : ℕ → Bool) (xs : List ℕ) → IsRun p xs (prefix_len p xs)
prefix_is_run p [] = record { front = []; after = []; cut = record { whole = refl; len = refl }; passes = refl; stops = tt }
prefix_is_run p (x ∷ xs) =
    ⊎_elim (λ (e : p x ≡ true). subst (IsRun p (x ∷ xs)) (sym (cond-true (p x) (1 + prefix_len p xs) 0 e)) (longer p x xs (prefix_len p xs) e (prefix_is_run p xs)))
    (λ (e : p x ≡ false). subst (IsRun p (x ∷ xs)) (sym (cond-false (p x) (1 + prefix_len p xs) 0 e)) (none p x xs e))
    (cases_Bool (p x))

pub run_at : (p : ℕ → Bool) (text : List ℕ) (n : ℕ) → n ≡ prefix_len p text → IsRun p text n
run_at p text n e = subst (IsRun p text) (sym e) (prefix_is_run p text)

-- two such fronts of one text are the same
pub run_same : (p : ℕ → Bool) (a b x y : List ℕ) → list_all p a ≡ true → list_all p b ≡ true → Stops p x → Stops p y → a ++ x ≡ b ++ y → (a ≡ b) × (x ≡ y)
run_same p [] [] x y h k i j e = (refl, e)
run_same p [] (d ∷ b) x y h k i j e =
    let no : p d ≡ false = subst (Stops p) e i in absurd (false≢true (sym no ∙ (and_parts (p d) (list_all p b) k).0))
run_same p (c ∷ a) [] x y h k i j e =
    let no : p c ≡ false = subst (Stops p) (sym e) j in absurd (false≢true (sym no ∙ (and_parts (p c) (list_all p a) h).0))
run_same p (c ∷ a) (d ∷ b) x y h k i j e =
    let head : c ≡ d = cc in
    let rest : (a ≡ b) × (x ≡ y) = run_same p a b x y ((and_parts (p c) (list_all p a) h).1) ((and_parts (p d) (list_all p b) k).1) i j (cc) in
    let tail : a ≡ b = rest.0 in
    (cc, rest.1)
