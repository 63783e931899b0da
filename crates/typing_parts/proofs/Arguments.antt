-- Needs of arguments and elements one after another, and names that have no meaning.
use Rattle.std.proofs.Common.{◌≡◌, ℕ, ◌+◌, suc, List, Bool, true, false, cond, [], ◌∷◌, length, drop, get_or, ◌<◌, ◌≤◌, Option, Some, None, map, ap, ◌∙◌, sym, refl, arith}
use Rattle.std.proofs.lemmas.List.{drop_all}
use Rattle.std.proofs.Math.Seq.{drop-cons}
use Rattle.rules_expansion.specs.trees.Trees.{T, list}
use Rattle.rules_typing.specs.Typing.{Fault, Need, refusal, Meant, wrong, is, is_each, row_items}
use Rattle.typing_judge.specs.Judging.{called, met, made, own, with_all}
use Rattle.typing_judge.specs.Least.{least}
use Rattle.hs_base.specs.declared.pos.Pos.{Pos}
use Rattle.typing_table.specs.declared.table.TypeNode.{TypeNode}
use Rattle.typing_table.specs.declared.ty.TypeTerm.{TypeTerm}
use Rattle.typing_table.specs.declared.ty.TypeTerm.TheVariants as t
use Rattle.typing_table.specs.Meaning.{type_in}
use Rattle.typing_table.proofs.Equations.{type-List, type-Known}
use Rattle.typing_parts.specs.Views.{place_types, tys_of, opt_ty, opt_tys}
use Rattle.typing_parts.specs.Judged.{unmet, all_met, names, kept, Judged, Needed, AllNeeded}
use Rattle.typing_parts.proofs.Noted.{needing-met, unmet-met}
use Rattle.typing_parts.specs.declared.checker.Checker.{Checker}

-- ---- arguments

-- the needs of one more argument
pub each_more : (ms : List TypeNode) (ps : List ℕ) (us : List TypeTerm) (i : ℕ) (u : TypeTerm) → i < length ps → i < length us → u ≡ get_or us i u
    → is_each (place_types ms (drop i ps)) (tys_of ms (drop i us)) ≡ is (type_in ms (t.Known (get_or ps i 0))) (type_in ms u) ∷ is_each (place_types ms (drop (i + 1) ps)) (tys_of ms (drop (i + 1) us))
each_more ms ps us i u lp lu at =
    let j : suc i ≡ i + 1 = omega arith in
    let x = get_or ps i 0 in
    let rest = is_each (place_types ms (drop (i + 1) ps)) (tys_of ms (drop (i + 1) us)) in
    let a : drop i ps ≡ x ∷ drop (i + 1) ps = drop-cons ps i 0 lp ∙ ap (λ k. x ∷ drop k ps) j in
    let b : drop i us ≡ u ∷ drop (i + 1) us = drop-cons us i u lu ∙ (ap (λ z. z ∷ drop (suc i) us) (sym at) ∙ ap (λ k. u ∷ drop k us) j) in
    ap (λ z. is_each (place_types ms z) (tys_of ms (drop i us))) a ∙ (ap (λ z. is_each (place_types ms (x ∷ drop (i + 1) ps)) (tys_of ms z)) b
    ∙ sym (ap (λ z. is z (type_in ms u) ∷ rest) (type-Known ms x)))

each_none : (ts : List T) → is_each ts [] ≡ []
each_none [] = refl
each_none (t ∷ ts) = refl

-- no needs where no argument is left
pub each_end : (ms : List TypeNode) (ts : List T) (us : List TypeTerm) (i : ℕ) → length us ≤ i → is_each ts (tys_of ms (drop i us)) ≡ []
each_end ms ts us i h = ap (λ z. is_each ts (tys_of ms z)) (drop_all i us h) ∙ each_none ts

-- a need that isn't met is the last that is looked at
pub all_stop : (ms : List TypeNode) (o m n : Checker) (b : Bool) (p : Pos) (x : Need) (rest whole : List Need) → b ≡ false → Needed ms m n b p x
    → names ms m ≡ names ms o → all_met (x ∷ rest) ≡ all_met whole → least (kept ms m) (unmet p (x ∷ rest)) ≡ least (kept ms o) (unmet p whole)
    → AllNeeded ms o n false p whole
all_stop ms o m n b p x rest whole e d s a f =
    let h : met x ≡ false = sym d.is ∙ e in record {
      scope = d.scope ∙ s;
      holds = sym (ap (λ z. cond z (all_met rest) false) h) ∙ a;
      faults = d.faults ∙ (ap (λ z. least (kept ms m) (cond z [] (refusal p x ∷ []))) h ∙ (sym (ap (λ z. least (kept ms m) (cond z (unmet p rest) (refusal p x ∷ []))) h) ∙ f));
    }

-- after a need that is met those that follow are looked at
pub all_go : (ms : List TypeNode) (o m n : Checker) (b : Bool) (p : Pos) (x : Need) (rest whole : List Need) → b ≡ true → Needed ms m n b p x
    → all_met (x ∷ rest) ≡ all_met whole → least (kept ms m) (unmet p (x ∷ rest)) ≡ least (kept ms o) (unmet p whole)
    → (all_met rest ≡ all_met whole) × (least (kept ms n) (unmet p rest) ≡ least (kept ms o) (unmet p whole))
all_go ms o m n b p x rest whole e d a f =
    let h : met x ≡ true = sym d.is ∙ e in (
      sym (ap (λ z. cond z (all_met rest) false) h) ∙ a,
      ap (λ k. least k (unmet p rest)) (d.faults ∙ ap (λ z. least (kept ms m) (cond z [] (refusal p x ∷ []))) h) ∙ (sym (ap (λ z. least (kept ms m) (cond z (unmet p rest) (refusal p x ∷ []))) h) ∙ f),
    )

-- ---- elements of a list

-- elements of one type are a list of it
pub judged_items : (ms : List TypeNode) (o m n : Checker) (b : Bool) (p : Pos) (s : Option (List TypeTerm)) (us : List TypeTerm) (a : TypeTerm) (rest : List TypeTerm) (l : TypeTerm) (r : Option TypeTerm)
    → s ≡ Some us → us ≡ a ∷ rest → b ≡ true → AllNeeded ms o m b p (map (is (type_in ms a)) (tys_of ms rest)) → l ≡ t.List a
    → Judged ms m n (opt_ty ms r) (made p true (type_in ms l)) → Judged ms o n (opt_ty ms r) (with_all (opt_tys ms s) (λ ts. own p (row_items ts)))
judged_items ms o m n b p s us a rest l r es eu eb q el d =
    let ns = map (is (type_in ms a)) (tys_of ms rest) in
    let h : all_met ns ≡ true = sym q.holds ∙ eb in
    let whole = with_all (opt_tys ms s) (λ ts. own p (row_items ts)) in
    let e : made p true (type_in ms l) ≡ whole = ap (λ z. made p true (type_in ms z)) el ∙ (ap (made p true) (type-List ms a)
    ∙ sym (ap (λ z. with_all (opt_tys ms z) (λ ts. own p (row_items ts))) (es ∙ ap Some eu) ∙ needing-met p ns (made p true (list (type_in ms a))) h)) in
    let k : kept ms m ≡ kept ms o = q.faults ∙ ap (least (kept ms o)) (unmet-met p ns h) in record {
      scope = d.scope ∙ q.scope;
      type = d.type ∙ ap (λ z. z.type) e;
      faults = d.faults ∙ (ap (λ z. least z (made p true (type_in ms l)).faults) k ∙ ap (λ z. least (kept ms o) z.faults) e);
    }

-- ---- names

-- a name that has no meaning here
pub judged_wrong : (ms : List TypeNode) (o n : Checker) (p : Pos) (m : Meant) (f : Fault) (us : Option (List T)) → m ≡ wrong f → names ms n ≡ names ms o → kept ms n ≡ least (kept ms o) (f ∷ [])
    → Judged ms o n None (called p m us)
judged_wrong ms o n p m f us e s k = record {
  scope = s;
  type = sym (ap (λ z. (called p z us).type) e);
  faults = k ∙ sym (ap (λ z. least (kept ms o) (called p z us).faults) e);
}
