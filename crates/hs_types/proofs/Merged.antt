-- The first broken rule of a list, noted alone, leaves what noting the whole list leaves.
use Rattle.std.proofs.Common.{◌≡◌, ℕ, ◌<◌, ◌||◌, ◌⊎◌, List, [], ◌∷◌, Bool, true, false, cond, Option, Some, None, refl, sym, ap, ◌∙◌, arith, inl, inr, ltb}
use Rattle.std.proofs.lemmas.Bool.{ltb-true, ltb-false, lt-ltb, le-ltb}
use Rattle.rules_typing.specs.Typing.{Fault}
use Rattle.rules_typing.specs.TypingFaults.{place, rank}
use Rattle.typing_judge.specs.Least.{lower, before, lesser, least}
use Rattle.typing_judge.proofs.Least.{lower_true, lower_false, none_some}

lower_less : (m n : ℕ) (b : Bool) → m < n → lower m n b ≡ true
lower_less m n b h = ap (λ t. t || cond (ltb n m) false b) (lt-ltb m n h)

lower_more : (m n : ℕ) (b : Bool) → n < m → lower m n b ≡ false
lower_more m n b h = ap (λ t. t || cond (ltb n m) false b) (le-ltb m n (omega arith)) ∙ ap (λ t. cond t false b) (lt-ltb n m h)

lower_same : (m n : ℕ) (b : Bool) → m ≡ n → lower m n b ≡ b
lower_same m n b h = ap (λ t. t || cond (ltb n m) false b) (le-ltb m n (omega arith)) ∙ ap (λ t. cond t false b) (le-ltb n m (omega arith))

less_by : (m n k : ℕ) (b c d : Bool) → (b ≡ true → c ≡ true → d ≡ true) → (m < n) ⊎ ((m ≡ n) × (b ≡ true)) → (n < k) ⊎ ((n ≡ k) × (c ≡ true)) → lower m k d ≡ true
less_by m n k b c d f (inl p) (inl q) = lower_less m k d (omega arith)
less_by m n k b c d f (inl p) (inr q) = let e : n ≡ k = q.0 in lower_less m k d (omega arith)
less_by m n k b c d f (inr p) (inl q) = let e : m ≡ n = p.0 in lower_less m k d (omega arith)
less_by m n k b c d f (inr p) (inr q) = lower_same m k d (p.0 ∙ q.0) ∙ f p.1 q.1

more_by : (m n k : ℕ) (b c d : Bool) → (b ≡ false → c ≡ false → d ≡ false) → (n < m) ⊎ ((n ≡ m) × (b ≡ false)) → (k < n) ⊎ ((k ≡ n) × (c ≡ false)) → lower m k d ≡ false
more_by m n k b c d f (inl p) (inl q) = lower_more m k d (omega arith)
more_by m n k b c d f (inl p) (inr q) = let e : k ≡ n = q.0 in lower_more m k d (omega arith)
more_by m n k b c d f (inr p) (inl q) = let e : n ≡ m = p.0 in lower_more m k d (omega arith)
more_by m n k b c d f (inr p) (inr q) = lower_same m k d (sym p.0 ∙ sym q.0) ∙ f p.1 q.1

lower_trans : (m n k : ℕ) (b c d : Bool) → (b ≡ true → c ≡ true → d ≡ true) → lower m n b ≡ true → lower n k c ≡ true → lower m k d ≡ true
lower_trans m n k b c d f p q = less_by m n k b c d f (lower_true m n b p) (lower_true n k c q)

lower_back : (m n k : ℕ) (b c d : Bool) → (b ≡ false → c ≡ false → d ≡ false) → lower m n b ≡ false → lower n k c ≡ false → lower m k d ≡ false
lower_back m n k b c d f p q = more_by m n k b c d f (lower_false m n b p) (lower_false n k c q)

ltb_trans : (m n k : ℕ) → ltb m n ≡ true → ltb n k ≡ true → ltb m k ≡ true
ltb_trans m n k p q = lt-ltb m k (omega (arith, ltb-true m n p, ltb-true n k q))

ltb_back : (m n k : ℕ) → ltb m n ≡ false → ltb n k ≡ false → ltb m k ≡ false
ltb_back m n k p q = le-ltb m k (omega (arith, ltb-false m n p, ltb-false n k q))

before_trans : (f g h : Fault) → before f g ≡ true → before g h ≡ true → before f h ≡ true
before_trans f g h = lower_trans (place f).line (place g).line (place h).line _ _ _ (lower_trans (place f).col (place g).col (place h).col _ _ _ (ltb_trans (rank f) (rank g) (rank h)))

before_back : (f g h : Fault) → before f g ≡ false → before g h ≡ false → before f h ≡ false
before_back f g h = lower_back (place f).line (place g).line (place h).line _ _ _ (lower_back (place f).col (place g).col (place h).col _ _ _ (ltb_back (rank f) (rank g) (rank h)))

assoc_by : (g x f : Fault) (a b : Bool) → before x g ≡ a → before f x ≡ b → cond (before f (cond a x g)) f (cond a x g) ≡ cond (before (cond b f x) g) (cond b f x) g
assoc_by g x f true true p q = ap (λ t. cond t f x) q ∙ sym (ap (λ t. cond t f g) (before_trans f x g q p))
assoc_by g x f true false p q = ap (λ t. cond t f x) q ∙ sym (ap (λ t. cond t x g) p)
assoc_by g x f false true p q = refl
assoc_by g x f false false p q = ap (λ t. cond t f g) (before_back f x g q p) ∙ sym (ap (λ t. cond t x g) p)

lesser_assoc : (g x f : Fault) → lesser (Some (lesser (Some g) x)) f ≡ lesser (Some g) (lesser (Some x) f)
lesser_assoc g x f = assoc_by g x f (before x g) (before f x) refl refl

merged_from : (fs : List Fault) (g x f : Fault) → least (Some x) fs ≡ Some f → least (Some (lesser (Some g) x)) fs ≡ Some (lesser (Some g) f)
merged_from [] g x f h = let e : x ≡ f = cc in ap (λ z. Some (lesser (Some g) z)) e
merged_from (y ∷ fs) g x f h = ap (λ z. least (Some z) fs) (lesser_assoc g x y) ∙ merged_from fs g (lesser (Some x) y) f h

pub merged : (fs : List Fault) (o : Option Fault) (f : Fault) → least None fs ≡ Some f → least o fs ≡ least o (f ∷ [])
merged [] o f h = cc
merged (x ∷ fs) None f h = h
merged (x ∷ fs) (Some g) f h = merged_from fs g x f h

pub none_noted : (fs : List Fault) → least None fs ≡ None → fs ≡ []
none_noted [] h = refl
none_noted (x ∷ fs) h = absurd (none_some fs x h)
