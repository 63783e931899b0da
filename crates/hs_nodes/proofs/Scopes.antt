-- Names of scopes.
use Rattle.std.proofs.Common.{◌≡◌, ℕ, ◌+◌, ◌-◌, ◌<◌, List, [], ◌∷◌, ◌++◌, length, take, get_or, Bool, true, false, cond, Option, Some, None, refl, ap, ◌∙◌, sym, arith, suc, append_assoc, length-append}
use Rattle.std.proofs.Math.Seq.{take-suc}
use Rattle.rules_expansion.specs.Names.{Name, same_name}
use Rattle.hs_base.specs.declared.tree.expr.Expr.{Expr}
use Rattle.rules_expansion.specs.trees.Trees.{exs_of}
use Rattle.rules_code.specs.Slots.{Scope, slot_of, count}
use Rattle.hs_nodes.specs.declared.names.ScopedName.{ScopedName}
use Rattle.hs_nodes.specs.Names.{name_of, scope_after, scope_of}

onto-push : (xs : List ScopedName) (x : ScopedName) (s : Scope) → scope_after s (xs ++ x ∷ []) ≡ name_of x ∷ scope_after s xs
onto-push [] x s = refl
onto-push (y ∷ xs) x s = onto-push xs x (name_of y ∷ s)

pub scope-push : (xs : List ScopedName) (x : ScopedName) → scope_of (xs ++ x ∷ []) ≡ name_of x ∷ scope_of xs
scope-push xs x = onto-push xs x []

onto-length : (xs : List ScopedName) (s : Scope) → length (scope_after s xs) ≡ length xs + length s
onto-length [] s = omega arith
onto-length (x ∷ xs) s = let h = onto-length xs (name_of x ∷ s) in omega (arith, h)

pub scope-length : (xs : List ScopedName) → length (scope_of xs) ≡ length xs
scope-length xs = let h = onto-length xs [] in omega (arith, h)

pub name_off : (xs ys : List ScopedName) (x y : ScopedName) → xs ++ x ∷ [] ≡ ys ++ y ∷ [] → xs ≡ ys
name_off [] [] x y h = refl
name_off [] (b ∷ []) x y h = cc
name_off [] (b ∷ c ∷ ys) x y h = cc
name_off (a ∷ []) [] x y h = cc
name_off (a ∷ c ∷ xs) [] x y h = cc
name_off (a ∷ xs) (b ∷ ys) x y h = let e : a ≡ b = cc in let r : xs ++ x ∷ [] ≡ ys ++ y ∷ [] = cc in ap (λ z. z ∷ xs) e ∙ ap (λ z. b ∷ z) (name_off xs ys x y r)

-- the slot of a name in one entry more
pub slot-step : (xs : List ScopedName) (i j : ℕ) (y : ScopedName) (x : Name) → j ≡ i + 1 → i < length xs → y ≡ get_or xs i y
    → slot_of (scope_of (take j xs)) x ≡ cond (same_name x (name_of y)) (Some (length (scope_of (take i xs)))) (slot_of (scope_of (take i xs)) x)
slot-step xs i j y x h lt is =
    let k : take j xs ≡ take i xs ++ y ∷ [] = ap (λ n. take n xs) (let z : j ≡ suc i = omega arith in z) ∙ (take-suc xs i y lt ∙ ap (λ z. take i xs ++ z ∷ []) (sym is)) in
    ap (λ z. slot_of (scope_of z) x) k ∙ ap (λ z. slot_of z x) (scope-push (take i xs) y)

pub count_exs : (es : List Expr) → count (exs_of es) ≡ length es
count_exs [] = refl
count_exs (e ∷ es) = let h = count_exs es in omega (arith, h)

pub ruleset emit_rules = (scope-push, append_assoc, length-append, count_exs)
