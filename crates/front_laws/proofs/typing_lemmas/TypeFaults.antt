-- What the checker answers stands for one broken rule: the answer is fixed by the rule.
use Rattle.std.proofs.Common.{◌≡◌, ◌≢◌, List, Some, refl, sym, ap, ◌∙◌, subst, ◌⊎◌, inl, inr, true, false}
use Rattle.std.proofs.lemmas.Option.{same_Some}
use Rattle.hs_base.specs.declared.tree.script.Script.{Script}
use Rattle.hs_base.specs.declared.tree.ty.Ty.{Ty}
use Rattle.hs_base.specs.declared.tree.ty.Ty.TheVariants as t
use Rattle.hs_base.specs.declared.tree.ty.Ty.TheOpen.{Ty-F}
use Rattle.hs_base.specs.declared.tree.ty.Ty.TheViews.{roll-Ty}
use Rattle.hs_base.specs.declared.tree.ty.Ty.TheFolds.{map-Ty, ind-Ty}
use Rattle.rules_expansion.specs.trees.Trees.{T, unit, int, bool, text, thread, exn, pair, maybe, either, list, cell, async, ty_of}
use Rattle.rules_expansion.proofs.trees_lemmas.Equations.{ty-Unit, ty-Int, ty-Bool, ty-Text, ty-Thread, ty-Exn, ty-Maybe, ty-List, ty-Cell, ty-Async, ty-Pair, ty-Either}
use Rattle.rules_tokens.specs.declared.token.Token.{Token}
use Rattle.rules_grammar.specs.Grammar.{Spells}
use Rattle.rules_typing.specs.Typing as rule
use Rattle.rules_typing.specs.Typing.{Fault, Wanted, exactly, of_form, twice, unknown, kind, forward, arity, mismatch, scope, wide, large}
use Rattle.rules_typing.specs.TypingScripts.{Accepted, LacksMain, IsFirstBroken}
use Rattle.typing_parts.specs.declared.fault.Form.{Form}
use Rattle.typing_parts.specs.declared.fault.Form.TheVariants as f
use Rattle.typing_parts.specs.declared.fault.Want.{Want}
use Rattle.typing_parts.specs.declared.fault.Want.TheVariants as w
use Rattle.typing_parts.specs.declared.fault.TypeFault.{TypeFault}
use Rattle.typing_parts.specs.declared.fault.TypeFault.TheVariants as x
use Rattle.typing_parts.specs.Views.{form_of, wanted_of}
use Rattle.hs_types.specs.declared.answer.Answer.{Answer}
use Rattle.hs_types.specs.declared.answer.Answer.TheVariants as a
use Rattle.hs_types.specs.Answers.{IsAnswer}
use Rattle.hs_types.specs.Faults.{Refused, told}
use Rattle.front_laws.specs.typing.Positions.{AreInOrder}
use Rattle.front_laws.proofs.typing_lemmas.Broken.{one_first}

-- ---- from what the rules see back to what is answered
ty_back : T → Ty
ty_back unit = t.Unit
ty_back int = t.Int
ty_back bool = t.Bool
ty_back text = t.Text
ty_back thread = t.Thread
ty_back exn = t.Exn
ty_back (pair c d) = t.Pair (ty_back c) (ty_back d)
ty_back (maybe c) = t.Maybe (ty_back c)
ty_back (either c d) = t.Either (ty_back c) (ty_back d)
ty_back (list c) = t.List (ty_back c)
ty_back (cell c) = t.Cell (ty_back c)
ty_back (async c) = t.Async (ty_back c)

abbrev Comes : Ty → Type 0
Comes c = ty_back (ty_of c) ≡ c

-- one layer of a type, over parts that come back
layer : (y : Ty-F ((c : Ty) × Comes c)) → Comes (roll-Ty (map-Ty ((c : Ty) × Comes c) Ty (λ c. c.0) y))
unfolding ty_back
layer Ty-F.Unit = subst Comes (sym t.rolls-Unit) (ap ty_back ty-Unit)
layer Ty-F.Int = subst Comes (sym t.rolls-Int) (ap ty_back ty-Int)
layer Ty-F.Bool = subst Comes (sym t.rolls-Bool) (ap ty_back ty-Bool)
layer Ty-F.Text = subst Comes (sym t.rolls-Text) (ap ty_back ty-Text)
layer Ty-F.Thread = subst Comes (sym t.rolls-Thread) (ap ty_back ty-Thread)
layer Ty-F.Exn = subst Comes (sym t.rolls-Exn) (ap ty_back ty-Exn)
layer (Ty-F.Pair c d) = subst Comes (sym (t.rolls-Pair c.0 d.0)) (ap ty_back (ty-Pair c.0 d.0) ∙ (ap (λ z. t.Pair z (ty_back (ty_of d.0))) c.1 ∙ ap (λ z. t.Pair c.0 z) d.1))
layer (Ty-F.Maybe c) = subst Comes (sym (t.rolls-Maybe c.0)) (ap ty_back (ty-Maybe c.0) ∙ ap t.Maybe c.1)
layer (Ty-F.Either c d) = subst Comes (sym (t.rolls-Either c.0 d.0)) (ap ty_back (ty-Either c.0 d.0) ∙ (ap (λ z. t.Either z (ty_back (ty_of d.0))) c.1 ∙ ap (λ z. t.Either c.0 z) d.1))
layer (Ty-F.List c) = subst Comes (sym (t.rolls-List c.0)) (ap ty_back (ty-List c.0) ∙ ap t.List c.1)
layer (Ty-F.Cell c) = subst Comes (sym (t.rolls-Cell c.0)) (ap ty_back (ty-Cell c.0) ∙ ap t.Cell c.1)
layer (Ty-F.Async c) = subst Comes (sym (t.rolls-Async c.0)) (ap ty_back (ty-Async c.0) ∙ ap t.Async c.1)

ty_comes : (c : Ty) → Comes c
ty_comes = ind-Ty Comes (λ z y is. subst (λ v. Comes (roll-Ty v)) is (layer y))

abbrev form_back : rule.Form → Form
form_back rule.a_maybe = f.Maybe
form_back rule.an_either = f.Either
form_back rule.a_list = f.List
form_back rule.a_pair = f.Pair
form_back rule.a_cell = f.Cell
form_back rule.an_async = f.Async
form_back rule.equal = f.Equal
form_back rule.order = f.Order
form_back rule.shown = f.Show

form_comes : (c : Form) → form_back (form_of c) ≡ c
form_comes f.Maybe = refl
form_comes f.Either = refl
form_comes f.List = refl
form_comes f.Pair = refl
form_comes f.Cell = refl
form_comes f.Async = refl
form_comes f.Equal = refl
form_comes f.Order = refl
form_comes f.Show = refl

abbrev want_back : Wanted → Want
want_back (exactly c) = w.Exactly (ty_back c)
want_back (of_form c) = w.Form (form_back c)

want_comes : (c : Want) → want_back (wanted_of c) ≡ c
want_comes (w.Exactly c) = ap w.Exactly (ty_comes c)
want_comes (w.Form c) = ap w.Form (form_comes c)

abbrev refusal_back : Fault → TypeFault
refusal_back (twice p) = x.Twice p
refusal_back (unknown p) = x.Unknown p
refusal_back (kind p) = x.Kind p
refusal_back (forward p) = x.Forward p
refusal_back (arity p m n) = x.Arity p m n
refusal_back (mismatch p m c) = x.Mismatch p (want_back m) (ty_back c)
refusal_back (scope p) = x.Scope p
refusal_back (wide p) = x.Wide p
refusal_back (large p) = x.Large p

-- ---- answers
true_false : true ≡ false → ⊥
true_false e = cc

-- the answer that names a broken rule is fixed by it
told_comes : (c : TypeFault) (y : Fault) → told c ≡ Some y → c ≡ refusal_back y
told_comes (x.Twice p) y e = ap refusal_back (same_Some (twice p) y e)
told_comes (x.Unknown p) y e = ap refusal_back (same_Some (unknown p) y e)
told_comes (x.Kind p) y e = ap refusal_back (same_Some (kind p) y e)
told_comes (x.Forward p) y e = ap refusal_back (same_Some (forward p) y e)
told_comes (x.Arity p m n) y e = ap refusal_back (same_Some (arity p m n) y e)
told_comes (x.Mismatch p m c) y e =
    sym (ap (λ z. x.Mismatch p z (ty_back (ty_of c))) (want_comes m) ∙ ap (λ z. x.Mismatch p m z) (ty_comes c)) ∙ ap refusal_back (same_Some (mismatch p (wanted_of m) (ty_of c)) y e)
told_comes (x.Scope p) y e = ap refusal_back (same_Some (scope p) y e)
told_comes (x.Wide p) y e = ap refusal_back (same_Some (wide p) y e)
told_comes (x.Large p) y e = ap refusal_back (same_Some (large p) y e)
told_comes x.NoMain y e = cc
told_comes x.NoMemory y e = cc

pub same_answer : (ts : List Token) (s : Script) (c d : Answer) → AreInOrder ts → Spells s ts → IsAnswer c s → IsAnswer d s → c ≡ d
same_answer ts s a.Sound a.Sound o h i k = refl
same_answer ts s a.Sound a.NoMain o h i k = absurd (true_false (sym i.1 ∙ k.1))
same_answer ts s a.Sound (a.Broken y) o h i k = absurd (i.0 k.0 k.2.0)
same_answer ts s a.NoMain a.Sound o h i k = absurd (true_false (sym k.1 ∙ i.1))
same_answer ts s a.NoMain a.NoMain o h i k = refl
same_answer ts s a.NoMain (a.Broken y) o h i k = absurd (i.0 k.0 k.2.0)
same_answer ts s (a.Broken y) a.Sound o h i k = absurd (k.0 i.0 i.2.0)
same_answer ts s (a.Broken y) a.NoMain o h i k = absurd (k.0 i.0 i.2.0)
same_answer ts s (a.Broken y) (a.Broken z) o h i k =
    ap a.Broken (told_comes y i.0 i.1 ∙ (ap refusal_back (one_first ts s i.0 k.0 o h i.2 k.2) ∙ sym (told_comes z k.0 k.1)))

-- ---- refusals: for want of a `main`, for a broken rule, or for want of memory
abbrev Reason : TypeFault → Script → Type 0
Reason c s = ((c ≡ x.NoMain) × LacksMain s) ⊎ ((y : Fault) × (c ≡ refusal_back y) × IsFirstBroken s y)

reason : (c : TypeFault) (s : Script) → c ≢ x.NoMemory → Refused c s → Reason c s
reason (x.Twice p) s n h = inr (twice p, refl, h)
reason (x.Unknown p) s n h = inr (unknown p, refl, h)
reason (x.Kind p) s n h = inr (kind p, refl, h)
reason (x.Forward p) s n h = inr (forward p, refl, h)
reason (x.Arity p l m) s n h = inr (arity p l m, refl, h)
reason (x.Mismatch p m c) s n h = inr (mismatch p (wanted_of m) (ty_of c), sym (ap (λ z. x.Mismatch p z (ty_back (ty_of c))) (want_comes m) ∙ ap (λ z. x.Mismatch p m z) (ty_comes c)), h)
reason (x.Scope p) s n h = inr (scope p, refl, h)
reason (x.Wide p) s n h = inr (wide p, refl, h)
reason (x.Large p) s n h = inr (large p, refl, h)
reason x.NoMain s n h = inl (refl, h)
reason x.NoMemory s n h = absurd (n refl)

pub same_refusal : (ts : List Token) (s : Script) (c d : TypeFault) → AreInOrder ts → Spells s ts → c ≢ x.NoMemory → d ≢ x.NoMemory → Refused c s → Refused d s → c ≡ d
same_refusal ts s c d o h m n i k = by (reason c s m i) (reason d s n k)
  where
    by : Reason c s → Reason d s → c ≡ d
    by (inl y) (inl z) = y.0 ∙ sym z.0
    by (inl y) (inr z) = absurd (y.1.0 z.0 z.2.0)
    by (inr y) (inl z) = absurd (z.1.0 y.0 y.2.0)
    by (inr y) (inr z) = y.1 ∙ (ap refusal_back (one_first ts s y.0 z.0 o h y.2 z.2) ∙ sym z.1)

pub not_refused : (s : Script) (c : TypeFault) → Accepted s → Refused c s → c ≢ x.NoMemory → ⊥
not_refused s c h i n = by (reason c s n i)
  where
    by : Reason c s → ⊥
    by (inl y) = true_false (sym h.1 ∙ y.1.1)
    by (inr y) = h.0 y.0 y.2.0
