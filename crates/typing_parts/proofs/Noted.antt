-- Faults that are noted one after another, and types that are gathered.
use Rattle.std.proofs.Common.{◌≡◌, ℕ, ◌+◌, suc, List, true, false, cond, [], ◌∷◌, ◌++◌, length, drop, get_or, ◌<◌, Option, Some, None, refl, ap, ◌∙◌, sym, append_assoc, arith}
use Rattle.std.proofs.lemmas.List.{append-nil}
use Rattle.std.proofs.Math.Seq.{drop-cons}
use Rattle.rules_expansion.specs.trees.Trees.{T, exs_of, ex_of}
use Rattle.rules_typing.specs.Typing.{Fault, count, Need, refusal, Ctx, TypedName}
use Rattle.typing_judge.specs.Judging.{joined, Found, Founds, judge, judges, bad, needing, met}
use Rattle.typing_judge.specs.Least.{least, lesser}
use Rattle.hs_base.specs.declared.tree.expr.Expr.{Expr}
use Rattle.rules_expansion.proofs.trees_lemmas.Equations.{ex_rules, ty_rules, arms_rules}
use Rattle.typing_table.specs.declared.table.TypeNode.{TypeNode}
use Rattle.typing_table.specs.declared.ty.TypeTerm.{TypeTerm}
use Rattle.typing_table.specs.Meaning.{type_in}
use Rattle.typing_table.proofs.Equations.{type_rules}
use Rattle.typing_parts.specs.Views.{tys_of, opt_ty, opt_tys, place_types}
use Rattle.typing_parts.specs.Judged.{pushed, unmet, all_met}
use Rattle.hs_base.specs.declared.pos.Pos.{Pos}

pub least-append : (o : Option Fault) (fs gs : List Fault) → least o (fs ++ gs) ≡ least (least o fs) gs
least-append o [] gs = refl
least-append o (f ∷ fs) gs = least-append (Some (lesser o f)) fs gs

pub tys_of-push : (ms : List TypeNode) (ts : List TypeTerm) (t : TypeTerm) → tys_of ms (ts ++ t ∷ []) ≡ tys_of ms ts ++ type_in ms t ∷ []
tys_of-push ms [] t = refl
tys_of-push ms (x ∷ ts) t = ap (λ z. type_in ms x ∷ z) (tys_of-push ms ts t)

-- one more type that was gathered
pub opt_tys-pushed : (ms : List TypeNode) (o : Option (List TypeTerm)) (t : Option TypeTerm) → opt_tys ms (pushed o t) ≡ pushed (opt_tys ms o) (opt_ty ms t)
opt_tys-pushed ms None t = refl
opt_tys-pushed ms (Some ts) None = refl
opt_tys-pushed ms (Some ts) (Some t) = ap Some (tys_of-push ms ts t)

pub place_types-length : (ms : List TypeNode) (is : List ℕ) → length (place_types ms is) ≡ length is
place_types-length ms [] = refl
place_types-length ms (x ∷ is) = ap (λ n. suc n) (place_types-length ms is)

pub count-exs : (es : List Expr) → count (exs_of es) ≡ length es
count-exs [] = refl
count-exs (x ∷ es) = let h = count-exs es in omega (arith, h)

abbrev pub all_joined : Option (List T) → Option (List T) → Option (List T)
all_joined None r = None
all_joined (Some ts) None = None
all_joined (Some ts) (Some us) = Some (ts ++ us)

pub joined-pushed : (o : Option (List T)) (t : Option T) (r : Option (List T)) → all_joined (pushed o t) r ≡ all_joined o (joined t r)
joined-pushed None t r = refl
joined-pushed (Some ts) None r = refl
joined-pushed (Some ts) (Some t) None = refl
joined-pushed (Some ts) (Some t) (Some us) = ap Some (append_assoc ts (t ∷ []) us)

pub joined-none : (o : Option (List T)) → all_joined o (Some []) ≡ o
joined-none None = refl
joined-none (Some ts) = ap Some (append-nil ts)

pub needing-met : (p : Pos) (ns : List Need) (x : Found) → all_met ns ≡ true → needing p ns x ≡ x
needing-met p [] x h = refl
needing-met p (n ∷ ns) x h = elim (met n) as (λ b. cond b (all_met ns) false ≡ true → cond b (needing p ns x) (bad (refusal p n)) ≡ x) [
  | true ↦ λ k. needing-met p ns x k
  | false ↦ λ k. cc
] h

pub unmet-met : (p : Pos) (ns : List Need) → all_met ns ≡ true → unmet p ns ≡ []
unmet-met p [] h = refl
unmet-met p (n ∷ ns) h = elim (met n) as (λ b. cond b (all_met ns) false ≡ true → cond b (unmet p ns) (refusal p n ∷ []) ≡ []) [
  | true ↦ λ k. unmet-met p ns k
  | false ↦ λ k. cc
] h

pub needing-unmet : (p : Pos) (ns : List Need) (x : Found) → all_met ns ≡ false → needing p ns x ≡ record { faults = unmet p ns; type = None }
needing-unmet p [] x h = cc
needing-unmet p (n ∷ ns) x h = elim (met n) as (λ b. cond b (all_met ns) false ≡ false → cond b (needing p ns x) (bad (refusal p n)) ≡ record { faults = cond b (unmet p ns) (refusal p n ∷ []); type = None }) [
  | true ↦ λ k. needing-unmet p ns x k
  | false ↦ λ k. refl
] h

pub ruleset need_rules = (needing-met, unmet-met, needing-unmet, place_types-length)

pub ruleset step_rules = (least-append, count-exs, joined-pushed, joined-none)

pub ruleset noted_rules = (least-append, ex_rules, arms_rules, type_rules, opt_tys-pushed, count-exs, joined-pushed, joined-none)

-- one more part of a list
pub judged_step : (c : Ctx) (s : List TypedName) (o m n : Option Fault) (es : List Expr) (e : Expr) (i : ℕ) (ts us : Option (List T)) (t : Option T) (whole : Founds)
    → i < length es → e ≡ get_or es i e
    → all_joined ts (judges c s (exs_of (drop i es))).types ≡ whole.types
    → least m (judges c s (exs_of (drop i es))).faults ≡ least o whole.faults
    → t ≡ (judge c s (ex_of e)).type → n ≡ least m (judge c s (ex_of e)).faults → us ≡ pushed ts t
    → (all_joined us (judges c s (exs_of (drop (i + 1) es))).types ≡ whole.types) × (least n (judges c s (exs_of (drop (i + 1) es))).faults ≡ least o whole.faults)
judged_step c s o m n es e i ts us t whole lt is types faults et en eu =
    let k : drop i es ≡ e ∷ drop (i + 1) es = drop-cons es i e lt ∙ (ap (λ z. z ∷ drop (suc i) es) (sym is) ∙ ap (λ j. e ∷ drop j es) (let z : suc i ≡ i + 1 = omega arith in z)) in
    let r = judges c s (exs_of (drop (i + 1) es)) in
    let kt : all_joined ts (joined (judge c s (ex_of e)).type r.types) ≡ whole.types = ap (λ z. all_joined ts (judges c s (exs_of z)).types) (sym k) ∙ types in
    let kf : least m ((judge c s (ex_of e)).faults ++ r.faults) ≡ least o whole.faults = ap (λ z. least m (judges c s (exs_of z)).faults) (sym k) ∙ faults in (
      ap (λ z. all_joined z r.types) (eu ∙ ap (pushed ts) et) ∙ (joined-pushed ts (judge c s (ex_of e)).type r.types ∙ kt),
      ap (λ z. least z r.faults) en ∙ (sym (least-append m (judge c s (ex_of e)).faults r.faults) ∙ kf),
    )
