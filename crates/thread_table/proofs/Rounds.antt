-- A round of the list of the ready: the threads that were looked at stand at its end.
use Rattle.std.proofs.Common.{◌≡◌, ℕ, zero, suc, ◌+◌, ◌==◌, List, [], ◌∷◌, ◌++◌, true, false, drop, ◌⊎◌, inl, inr, sym, ◌∙◌, subst, ⊎_elim}
use Rattle.std.proofs.lemmas.List.{drop-drop}
use Rattle.hs_laws.proofs.Lists.{cond_true, cond_false, equal_or}
use Rattle.thread_table.specs.Listing.{is_in}

in_tail : (u v : ℕ) (q : List ℕ) → is_in u q ≡ true → is_in u (v ∷ q) ≡ true
in_tail u v q h = ⊎_elim (λ e. cond_true (v == u) true (is_in u q) e.0) (λ e. cond_false (v == u) true (is_in u q) e.0 ∙ h) (equal_or v u)

in_dropped : (u k : ℕ) (q : List ℕ) → is_in u (drop k q) ≡ true → is_in u q ≡ true
in_dropped u zero q h = h
in_dropped u (suc k) [] h = h
in_dropped u (suc k) (v ∷ q) h = in_tail u v q (in_dropped u k q h)

in_either : (u : ℕ) (q r : List ℕ) → is_in u (q ++ r) ≡ true → (is_in u q ≡ true) ⊎ (is_in u r ≡ true)
in_either u [] r h = inr h
in_either u (v ∷ q) r h =
    ⊎_elim
    (λ e. inl (cond_true (v == u) true (is_in u q) e.0))
    (λ e. ⊎_elim (λ i. inl (in_tail u v q i)) (λ i. inr i) (in_either u q r (sym (cond_false (v == u) true (is_in u (q ++ r)) e.0) ∙ h)))
    (equal_or v u)

-- who stands behind the first k of q ++ r does so in q, or stands in r
in_behind : (u k : ℕ) (q r : List ℕ) → is_in u (drop k (q ++ r)) ≡ true → (is_in u (drop k q) ≡ true) ⊎ (is_in u r ≡ true)
in_behind u zero q r h = in_either u q r h
in_behind u (suc k) [] r h = inr (in_dropped u (suc k) r h)
in_behind u (suc k) (v ∷ q) r h = in_behind u k q r h

in_one : (u t : ℕ) → is_in u (t ∷ []) ≡ true → u ≡ t
in_one u t h = ⊎_elim (λ e. sym e.1) (λ e. absurd (let k = sym (cond_false (t == u) true false e.0) ∙ h in cc k)) (equal_or t u)

-- P is true of each number behind the first k of the list
abbrev pub Looked : (ℕ → Type 0) → ℕ → List ℕ → Type 0
Looked P k q = (u : ℕ) → is_in u (drop k q) ≡ true → P u

-- the first was looked at, and r put at the end
pub looked_on : (P : ℕ → Type 0) (k : ℕ) (q q' r : List ℕ) → q' ≡ drop 1 q ++ r → ((u : ℕ) → is_in u r ≡ true → P u) → Looked P (1 + k) q → Looked P k q'
looked_on P k q q' r e new old u h =
    ⊎_elim
    (λ i. old u (subst (λ (l : List ℕ). is_in u l ≡ true) (drop-drop k 1 q) i))
    (new u)
    (in_behind u k (drop 1 q) r (subst (λ (l : List ℕ). is_in u (drop k l) ≡ true) e h))

-- what is true of the one that was put there
pub looked_one : (P : ℕ → Type 0) (t : ℕ) → P t → (u : ℕ) → is_in u (t ∷ []) ≡ true → P u
looked_one P t h u i = subst P (sym (in_one u t i)) h

pub looked_none : (P : ℕ → Type 0) (u : ℕ) → is_in u [] ≡ true → P u
looked_none P u i = absurd (cc i)
