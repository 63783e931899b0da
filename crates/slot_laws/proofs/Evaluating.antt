-- What the next local rule of an action with slots evaluates is an expression of the script, in a scope that its values fit.
use Rattle.std.proofs.Common.{◌≡◌, ℕ, zero, suc, List, [], ◌∷◌, Bool, true, false, cond, map, Option, Some, None, refl, sym, ap, ◌∙◌, subst, slice_get}
use Rattle.plain_laws.proofs.Lists.{get_mapped}
use Rattle.hs_base.specs.declared.mask.Mask.TheVariants.{Unmasked}
use Rattle.hs_base.specs.declared.tree.script.Script.{Script}
use Rattle.rules_expansion.specs.trees.Trees.{T, Exs, none, more}
use Rattle.rules_expansion.specs.trees.Programs.{Fn, script_of}
use Rattle.rules_expansion.specs.Core.{CoreEx, OfScript, Core, Bind, Call, Perform, ActionFunction}
use Rattle.rules_expansion.specs.Expansion.{actions_of}
use Rattle.rules_meaning.specs.Values.{V, Env}
use Rattle.rules_meaning.specs.CoreMeaning.{code_of}
use Rattle.rules_sorts.specs.Sorts.{Sort, a_value, SortedName}
use Rattle.rules_sorts.specs.TypedMeaning.{WellAll}
use Rattle.rules_typing.specs.Typing as typing
use Rattle.rules_typing.specs.TypingScripts.{Accepted}
use Rattle.rules_code.specs.declared.act.Act.{Act}
use Rattle.rules_code.specs.declared.act.Act.TheVariants as act
use Rattle.rules_code.specs.declared.act.ActId.{ActId}
use Rattle.rules_code.specs.declared.code.CodeBody.{CodeBody}
use Rattle.rules_code.specs.declared.node.ExprId.{ExprId}
use Rattle.rules_code.specs.Slots.{Sx, Scope, Root, roots_of, slotted_all, tree_in, trees_in, tree_at, trees}
use Rattle.rules_code.specs.CodeTrees.{Sa, a_bind, a_then, is_unread, slotted_core, slotted_core_ex, slotted_core_exs, act_decode, act_tree_at, code_trees}
use Rattle.hs_rules.specs.Terms as named
use Rattle.hs_rules.specs.Terms.{Do}
use Rattle.hs_rules.specs.LocalRules as name
use Rattle.hs_rules.specs.State.{Thread, State}
use Rattle.hs_soundness.specs.CoreSorts.{written_in, CoreHas, names_of}
use Rattle.hs_soundness.proofs.Growing.{fits_any}
use Rattle.hs_progress.specs.CoreTyping.{CoreAllHave, no_more, one_more, Does, does_return, does_throw, does_let, does_if, does_maybe, does_either, does_list, does_pair, does_call, does_perform}
use Rattle.hs_progress.specs.TypedStates.{ctx_of, Store, has}
use Rattle.hs_progress.specs.Evaluated.{of_script, evaluated, HaveSorts}
use Rattle.hs_progress.proofs.Heads.{heads_kept}
use Rattle.slot_laws.specs.SlotRules as slot
use Rattle.slot_laws.specs.SlotRules.{SlotPart, doing, SlotFrame, SlotTerm, at}
use Rattle.slot_laws.specs.Standing.{cells_of, Reads, PartStands, do_stands, Stands}
use Rattle.slot_laws.specs.Stacks.{StacksStand}
use Rattle.slot_laws.specs.Expressions.{each_of, slots_evaluated, nodes_evaluated, Evaluable}
use Rattle.slot_laws.proofs.ActNodes.{act_is}
use Rattle.slot_laws.proofs.Simulation.{same_rules, moved}

-- ---- each has a sort

module _ (c : typing.Ctx) (g : List SortedName) where
  all_have : {es : List CoreEx} {ks : List Sort} → CoreAllHave c g es ks → HaveSorts c g es
  all_have no_more = tt
  all_have (one_more {k} h hs) = ((k, h), all_have hs)

  args_have : (es : Exs) (ts : List T) → WellAll es → typing.HaveTypes c (written_in g) es ts → HaveSorts c g (of_script es)
  args_have none ts w h = tt
  args_have (more e es) ts w h = ((a_value h.0, (h.0, w.0, h.2, refl)), args_have es h.1 w.1 h.3)

does_have : (c : typing.Ctx) {g : List SortedName} {a : Core} {k : Sort} → Does c g a k → HaveSorts c g (evaluated a)
does_have c (does_return {k} h) = ((k, h), tt)
does_have c (does_throw h) = ((_, h), tt)
does_have c (does_let {j} p h d) = ((j, h), tt)
does_have c (does_if h d w) = ((_, h), tt)
does_have c (does_maybe p h d w) = ((_, h), tt)
does_have c (does_either p q h d w) = ((_, h), tt)
does_have c (does_list p q h d w) = ((_, h), tt)
does_have c (does_pair p q h d) = ((_, h), tt)
does_have c {g} (does_call {es} sig e w l h) = args_have c g es sig.params l h
does_have c {g} (does_perform p h) = all_have c g h
does_have c _ = tt

sort_of : (c : typing.Ctx) (g : List SortedName) (es : List CoreEx) → HaveSorts c g es → (n : ℕ) (e : CoreEx) → slice_get es n ≡ Some e → (k : Sort) × CoreHas c g e k
sort_of c g [] h n e p = absurd (let z : None ≡ Some e = p in cc z)
sort_of c g (d ∷ es) h zero e p = let z : d ≡ e = cc p in subst (λ x. (k : Sort) × CoreHas c g x k) z h.0
sort_of c g (d ∷ es) h (suc n) e p = sort_of c g es h.1 n e p

-- ---- slots and names evaluate the same

module _ (rs : List Root) (fs : List ActionFunction) (s : Scope) where
  args_same : (es : Exs) → each_of (slotted_all rs s es) ≡ map (slotted_core_ex rs s) (of_script es)
  args_same none = refl
  args_same (more e es) = ap (λ z. slotted_core_ex rs s (OfScript e) ∷ z) (args_same es)

  all_same : (es : List CoreEx) → each_of (slotted_core_exs rs s es) ≡ map (slotted_core_ex rs s) es
  all_same [] = refl
  all_same (e ∷ es) = ap (λ z. slotted_core_ex rs s e ∷ z) (all_same es)

  bind_same : (t : Bool) (a b c d : Sa) → slots_evaluated (cond t (a_then a b) (a_bind c d)) ≡ []
  bind_same true a b c d = refl
  bind_same false a b c d = refl

  evaluates_same : (a : Core) → slots_evaluated (slotted_core rs fs s a) ≡ map (slotted_core_ex rs s) (evaluated a)
  evaluates_same (Bind x a b) = bind_same (is_unread x) (slotted_core rs fs s a) (slotted_core rs fs s b) (slotted_core rs fs s a) (slotted_core rs fs (x ∷ s) b)
  evaluates_same (Call f es) = args_same es
  evaluates_same (Perform p es) = all_same es
  evaluates_same _ = refl

mapped_at : {A B : Type 0} (f : A → B) (xs : List A) (n : ℕ) (y : B) → slice_get (map f xs) n ≡ Some y → (x : A) × (slice_get xs n ≡ Some x) × (y ≡ f x)
mapped_at f [] n y e = absurd (let z : ◌≡◌ {A = Option _} None (Some y) = e in cc z)
mapped_at f (x ∷ xs) zero y e = (x, refl, (let z : f x ≡ y = cc e in sym z))
mapped_at f (x ∷ xs) (suc n) y e = mapped_at f xs n y e

-- ---- what stands may be evaluated

read_evaluable : (store : Option Store) (ds : List Fn) {tree : Sa} {vs : List V} {a : Core} {env : Env} {k : Sort} → Reads (cells_of store) ds tree vs a env k → (n : ℕ) (e : Sx) → slice_get (slots_evaluated tree) n ≡ Some e → Evaluable ds (Do a env) n e vs
read_evaluable store ds {tree} {vs} {a} {env} r n e p =
    let q : slice_get (map (slotted_core_ex (roots_of ds) (names_of r.scope)) (evaluated a)) n ≡ Some e =
    sym (ap (λ z. slice_get z n) (ap slots_evaluated r.is ∙ evaluates_same (roots_of ds) (actions_of ds) (names_of r.scope) a)) ∙ p in
    let m = mapped_at (slotted_core_ex (roots_of ds) (names_of r.scope)) (evaluated a) n e q in
    let s = sort_of (ctx_of ds r.here) r.scope (evaluated a) (does_have (ctx_of ds r.here) r.does) n m.0 m.1 in
    record {
      action = a;
      names = env;
      part = refl;
      expression = m.0;
      among = m.1;
      here = r.here;
      scope = r.scope;
      sort = s.0;
      stands = m.2;
      has = s.1;
      fits = fits_any (cells_of store) r.scope env vs r.fits;
    }

part_evaluable : (store : Option Store) (ds : List Fn) {q : named.Part} {k : Sort} (tree : Sa) (vs : List V) → PartStands (cells_of store) ds (doing tree vs) q k → (n : ℕ) (e : Sx) → slice_get (slots_evaluated tree) n ≡ Some e → Evaluable ds q n e vs
part_evaluable store ds tree vs (do_stands r) n e p = read_evaluable store ds r n e p

pub stands_evaluable : (store : Option Store) (ds : List Fn) (tree : Sa) (vs : List V) (ss : List SlotFrame) (t : named.Term) → Stands (cells_of store) ds (at (doing tree vs) ss) t → (n : ℕ) (e : Sx) → slice_get (slots_evaluated tree) n ≡ Some e → Evaluable ds t.part n e vs
stands_evaluable store ds tree vs ss t h n e p = part_evaluable store ds tree vs h.part n e p

-- at every moment of a thread's local rules, from a state for which stacks stand
pub reached_evaluable : (s : Script) → Accepted s → (stacks : ℕ → SlotTerm) (u : State) → StacksStand (script_of s) stacks u → (t k : ℕ) (th : Thread) → slice_get u.threads t ≡ Some th → (tree : Sa) (vs : List V) (ss : List SlotFrame)
    → slot.locals (code_trees (script_of s)) Unmasked k (stacks t) ≡ Some (at (doing tree vs) ss)
    → (x : named.Term) × (name.locals (code_of (script_of s)) k th.term ≡ Some x) × ((n : ℕ) (e : Sx) → slice_get (slots_evaluated tree) n ≡ Some e → Evaluable (script_of s) x.part n e vs)
reached_evaluable s accepted stacks u w t k th is tree vs ss l =
    let h = w.stands t th is in
    let m = moved (has w.store) s accepted (heads_kept s accepted) (slot.locals (code_trees (script_of s)) Unmasked k (stacks t)) (name.locals (code_of (script_of s)) k th.term) (at (doing tree vs) ss) l
    (same_rules (has w.store) s accepted (heads_kept s accepted) k (stacks t) th.term (record { sort = w.store.sorts t; part = h.0; frames = h.1 })) in
    (m.0, m.1, stands_evaluable (Some w.store) (script_of s) tree vs ss m.0 m.2)

-- ---- nodes of a code

trees_same : (ts : List Sx) (es : List ExprId) → each_of (trees_in ts es) ≡ map (tree_in ts) es
trees_same ts [] = refl
trees_same ts (e ∷ es) = ap (λ z. tree_in ts e ∷ z) (trees_same ts es)

decoded_same : (ts : List Sx) (us : List Sa) (k : Act) → slots_evaluated (act_decode ts us k) ≡ map (tree_in ts) (nodes_evaluated k)
decoded_same ts us (act.Call f es) = trees_same ts es
decoded_same ts us (act.Perform p es) = trees_same ts es
decoded_same ts us _ = refl

pub nodes_same : (b : CodeBody) (i : ActId) (k : Act) → slice_get b.acts i.0 ≡ Some k → slots_evaluated (act_tree_at b.nodes b.acts i) ≡ map (tree_at b.nodes) (nodes_evaluated k)
nodes_same b i k h = ap slots_evaluated (act_is b.nodes b.acts i k h) ∙ decoded_same (trees b.nodes) _ k

pub node_at : (b : CodeBody) (i : ActId) (k : Act) → slice_get b.acts i.0 ≡ Some k → (n : ℕ) (e : ExprId) → slice_get (nodes_evaluated k) n ≡ Some e → slice_get (slots_evaluated (act_tree_at b.nodes b.acts i)) n ≡ Some (tree_at b.nodes e)
node_at b i k h n e p = ap (λ z. slice_get z n) (nodes_same b i k h) ∙ get_mapped (tree_at b.nodes) (nodes_evaluated k) n e p

pub node_evaluable : (store : Option Store) (b : CodeBody) (i : ActId) (k : Act) → slice_get b.acts i.0 ≡ Some k → (vs : List V) (ss : List SlotFrame) (t : named.Term) → Stands (cells_of store) (script_of b.of.value) (at (doing (act_tree_at b.nodes b.acts i) vs) ss) t
    → (n : ℕ) (e : ExprId) → slice_get (nodes_evaluated k) n ≡ Some e → Evaluable (script_of b.of.value) t.part n (tree_at b.nodes e) vs
node_evaluable store b i k h vs ss t w n e p = stands_evaluable store (script_of b.of.value) (act_tree_at b.nodes b.acts i) vs ss t w n (tree_at b.nodes e) (node_at b i k h n e p)

pub node_reached : (b : CodeBody) → Accepted b.of.value → (stacks : ℕ → SlotTerm) (u : State) → StacksStand (script_of b.of.value) stacks u → (t r : ℕ) (th : Thread) → slice_get u.threads t ≡ Some th → (i : ActId) (k : Act) → slice_get b.acts i.0 ≡ Some k → (vs : List V) (ss : List SlotFrame)
    → slot.locals (code_trees (script_of b.of.value)) Unmasked r (stacks t) ≡ Some (at (doing (act_tree_at b.nodes b.acts i) vs) ss)
    → (x : named.Term) × (name.locals (code_of (script_of b.of.value)) r th.term ≡ Some x) × ((n : ℕ) (e : ExprId) → slice_get (nodes_evaluated k) n ≡ Some e → Evaluable (script_of b.of.value) x.part n (tree_at b.nodes e) vs)
node_reached b accepted stacks u w t r th is i k h vs ss l =
    let m = reached_evaluable b.of.value accepted stacks u w t r th is (act_tree_at b.nodes b.acts i) vs ss l in
    (m.0, m.1, λ n e p. m.2 n (tree_at b.nodes e) (node_at b i k h n e p))
