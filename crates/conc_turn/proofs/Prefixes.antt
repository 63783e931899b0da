-- Beginnings of one list.
use Rattle.std.proofs.Common.{◌≡◌, ◌≤◌, Bool, true, false, leb, List, [], ◌∷◌, ◌++◌, length, if◌then◌else◌, refl, ap, sym, ◌∙◌, arith, append_assoc}
use mathlib.Core.List.{IsPrefix}
use Rattle.hs_rules.specs.declared.entry.Entry.{Entry}
use Rattle.conc_turn.specs.TurnRule.{longer}

pub prefix_self : {A : Type 0} (xs : List A) → IsPrefix xs xs
prefix_self [] = ([], refl)
prefix_self (x ∷ xs) = (let r = prefix_self xs in r.0, ap (λ ys. x ∷ ys) (prefix_self xs).1)

pub prefix_none : {A : Type 0} (xs : List A) → IsPrefix [] xs
prefix_none xs = (xs, refl)

pub prefix_trans : {A : Type 0} (xs ys zs : List A) → IsPrefix xs ys → IsPrefix ys zs → IsPrefix xs zs
prefix_trans xs ys zs p q = (p.0 ++ q.0, sym (append_assoc xs p.0 q.0) ∙ (ap (λ w. w ++ q.0) p.1 ∙ q.1))

pub prefix_shorter : {A : Type 0} (xs ys zs : List A) → IsPrefix xs zs → IsPrefix ys zs → length xs ≤ length ys → IsPrefix xs ys
prefix_shorter [] ys zs p q le = (ys, refl)
prefix_shorter (x ∷ xs) [] zs p q le = absurd (omega arith)
prefix_shorter (x ∷ xs) (y ∷ ys) [] p q le = absurd (cc (p.1))
prefix_shorter (x ∷ xs) (y ∷ ys) (z ∷ zs) p q le =
    let heads : x ≡ y = cc (p.1, q.1) in
    let rest = prefix_shorter xs ys zs (p.0, cc (p.1)) (q.0, cc (q.1)) (omega arith) in
    (rest.0, cc (heads, rest.1))

-- the longer of two beginnings of one list is one, and both begin it
abbrev Longest : List Entry → List Entry → List Entry → List Entry → Type 0
Longest xs ys zs l = IsPrefix l zs × IsPrefix xs l × IsPrefix ys l

longest_at : (xs ys zs : List Entry) → IsPrefix xs zs → IsPrefix ys zs → (b : Bool) → leb (length xs) (length ys) ≡ b → Longest xs ys zs (if b then ys else xs)
longest_at xs ys zs p q true is = (q, prefix_shorter xs ys zs p q (grind (arith, is)), prefix_self ys)
longest_at xs ys zs p q false is = (p, prefix_self xs, prefix_shorter ys xs zs q p (grind (arith, is)))

pub longest : (xs ys zs : List Entry) → IsPrefix xs zs → IsPrefix ys zs → IsPrefix (longer xs ys) zs × IsPrefix xs (longer xs ys) × IsPrefix ys (longer xs ys)
longest xs ys zs p q = longest_at xs ys zs p q (leb (length xs) (length ys)) refl
