-- Scopes as lists of entries.
use Rattle.std.proofs.Common.{◌≡◌, ℕ, ◌+◌, ◌-◌, ◌<◌, ◌≤◌, List, [], ◌∷◌, ◌++◌, length, take, drop, get_or, Option, Some, None, Bool, true, false, cond, refl, ap, ◌∙◌, sym, arith, suc, length-drop}
use Rattle.std.proofs.lemmas.List.{drop-drop, take-append-drop}
use Rattle.std.proofs.Math.Seq.{take-suc}
use Rattle.std.specs.Option.{option_or}
use Rattle.std.specs.Str.{bytes_eq}
use Rattle.rules_typing.specs.Typing.{Sort, TypedName, look}
use Rattle.typing_table.specs.declared.table.TypeNode.{TypeNode}
use Rattle.typing_parts.specs.Views.{bound_of, sort_of, onto, scope_of, last_named, opt_sort}
use Rattle.typing_parts.specs.declared.entry.Entry.{Entry}
use Rattle.typing_parts.specs.declared.entry.Sorted.{Sorted}

onto-push : (ms : List TypeNode) (es : List Entry) (e : Entry) (s : List TypedName) → onto ms (es ++ e ∷ []) s ≡ bound_of ms e ∷ onto ms es s
onto-push ms [] e s = refl
onto-push ms (x ∷ es) e s = onto-push ms es e (bound_of ms x ∷ s)

pub scope_of-push : (ms : List TypeNode) (es : List Entry) (e : Entry)
    → scope_of ms (es ++ e ∷ []) ≡ bound_of ms e ∷ scope_of ms es
scope_of-push ms es e = onto-push ms es e []

onto-length : (ms : List TypeNode) (es : List Entry) (s : List TypedName) → length (onto ms es s) ≡ length es + length s
onto-length ms [] s = omega arith
onto-length ms (x ∷ es) s = let h : length (onto ms es (bound_of ms x ∷ s)) ≡ length es + length (bound_of ms x ∷ s) = onto-length ms es (bound_of ms x ∷ s) in omega (arith, h)

pub scope_of-length : (ms : List TypeNode) (es : List Entry) → length (scope_of ms es) ≡ length es
scope_of-length ms es = let h = onto-length ms es [] in omega (arith, h)

onto-append : (ms : List TypeNode) (es fs : List Entry) (s : List TypedName) → onto ms (es ++ fs) s ≡ onto ms fs (onto ms es s)
onto-append ms [] fs s = refl
onto-append ms (x ∷ es) fs s = onto-append ms es fs (bound_of ms x ∷ s)

drop_onto : (ms : List TypeNode) (es : List Entry) (s : List TypedName) → drop (length es) (onto ms es s) ≡ s
drop_onto ms [] s = refl
drop_onto ms (x ∷ es) s =
    let z = onto ms es (bound_of ms x ∷ s) in
    ap (λ n. drop n z) (let e : suc (length es) ≡ length es + 1 = omega arith in e) ∙ (sym (drop-drop 1 (length es) z) ∙ ap (drop 1) (drop_onto ms es (bound_of ms x ∷ s)))

-- the names that came first are those that are left when the last ones are taken off
pub scope_of-take : (ms : List TypeNode) (k : ℕ) (es : List Entry) → k ≤ length es → scope_of ms (take k es) ≡ drop (length es - k) (scope_of ms es)
scope_of-take ms k es h =
    let s = scope_of ms (take k es) in
    sym (drop_onto ms (drop k es) s)
    ∙ (ap (λ n. drop n (onto ms (drop k es) s)) (length-drop k es)
    ∙ ap (drop (length es - k)) (sym (onto-append ms (take k es) (drop k es) []) ∙ ap (scope_of ms) (take-append-drop k es)))

-- without the last one
pub scope_of-pop : (ms : List TypeNode) (es : List Entry) → scope_of ms (take (length es - 1) es) ≡ drop 1 (scope_of ms es)
scope_of-pop ms [] = refl
scope_of-pop ms (x ∷ es) =
    let xs = x ∷ es in
    scope_of-take ms (length xs - 1) xs (omega arith) ∙ ap (λ n. drop n (scope_of ms xs)) (let e : length xs - (length xs - 1) ≡ 1 = omega arith in e)

kept_sort : (o : Option Sorted) (b : Bool) (z : Sorted) (r : Option Sorted) → cond b (Some z) (option_or o r) ≡ option_or (cond b (Some z) o) r
kept_sort o true z r = refl
kept_sort o false z r = refl

pub last_named-push : (es : List Entry) (e : Entry) (x : List ℕ) → last_named (es ++ e ∷ []) x ≡ cond (bytes_eq e.text x) (Some e.sort) (last_named es x)
last_named-push [] e x = refl
last_named-push (y ∷ es) e x =
    let r = cond (bytes_eq y.text x) (Some y.sort) None in
    ap (λ o. option_or o r) (last_named-push es e x) ∙ sym (kept_sort (last_named es x) (bytes_eq e.text x) e.sort r)

sort_by : (ms : List TypeNode) (o : Option Sorted) (b : Bool) (z : Sorted) (r : Option Sort) → option_or (opt_sort ms o) (cond b (Some (sort_of ms z)) r) ≡ option_or (opt_sort ms (option_or o (cond b (Some z) None))) r
sort_by ms None true z r = refl
sort_by ms None false z r = refl
sort_by ms (Some y) b z r = refl

look-onto : (ms : List TypeNode) (es : List Entry) (s : List TypedName) (x : List ℕ) → look (onto ms es s) x ≡ option_or (opt_sort ms (last_named es x)) (look s x)
look-onto ms [] s x = refl
look-onto ms (e ∷ es) s x = look-onto ms es (bound_of ms e ∷ s) x ∙ sort_by ms (last_named es x) (bytes_eq e.text x) e.sort (look s x)

or_none : {A : Type 0} (o : Option A) → option_or o None ≡ o
or_none None = refl
or_none (Some a) = refl

-- what a name is, by the entries
pub look-scope : (ms : List TypeNode) (es : List Entry) (x : List ℕ) → look (scope_of ms es) x ≡ opt_sort ms (last_named es x)
look-scope ms es x = look-onto ms es [] x ∙ or_none (opt_sort ms (last_named es x))

pub ruleset table_rules = (scope_of-push, scope_of-length, scope_of-pop, look-scope)

pub last_named-step : (es : List Entry) (i j : ℕ) (e : Entry) (x : List ℕ) → j ≡ i + 1 → i < length es → e ≡ get_or es i e
    → last_named (take j es) x ≡ cond (bytes_eq e.text x) (Some e.sort) (last_named (take i es) x)
last_named-step es i j e x h lt is =
    let k : take j es ≡ take i es ++ e ∷ [] = ap (λ n. take n es) (let z : j ≡ suc i = omega arith in z) ∙ (take-suc es i e lt ∙ ap (λ z. take i es ++ z ∷ []) (sym is)) in
    ap (λ z. last_named z x) k ∙ last_named-push (take i es) e x
