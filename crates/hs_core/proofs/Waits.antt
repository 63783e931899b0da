-- Numbers that wait, and the steps that take them off.
use Rattle.std.proofs.Common.{◌≡◌, ℕ, ◌+◌, ◌<◌, ◌≤◌, List, [], ◌∷◌, ◌++◌, length, get_or, drop, zero, suc, refl, ap, ◌∙◌, sym, subst, arith, length-append}
use Rattle.std.specs.Prelude.{Result, OnOk}
use Rattle.std.proofs.Math.Seq.{drop-cons}
use Rattle.hs_base.specs.declared.tree.forms.EmptyForm.TheVariants as n
use Rattle.rules_code.specs.declared.node.Node.{Node}
use Rattle.rules_code.specs.declared.node.ExprId.{ExprId}
use Rattle.rules_code.specs.declared.act.Act.{Act}
use Rattle.rules_code.specs.declared.act.ActId.{ActId}
use Rattle.rules_expansion.specs.declared.template.Step.{Step}
use Rattle.rules_expansion.specs.declared.template.Binder.{Binder}
use Rattle.rules_expansion.specs.declared.template.Derived.{Derived}
use Rattle.rules_expansion.specs.Expansion.{derived}
use Rattle.rules_expansion.specs.Templates.{Filling, named, template, steps}
use Rattle.rules_code.specs.Slots.{Sx, s_empty, Scope, slot_of, tree_in, trees}
use Rattle.rules_code.specs.CodeTrees.{Sa, a_bad, a_restore, slot_or_end, act_in, act_decode, act_trees, act_tree_at}
use Rattle.rules_code.proofs.ActTrees.{act_trees-length}
use Rattle.hs_nodes.specs.declared.names.ScopedName.{ScopedName}
use Rattle.hs_nodes.specs.Names.{name_of, scope_of}
use Rattle.hs_nodes.proofs.Scopes.{scope-push}
use Rattle.hs_core.specs.declared.defs.Defs.{Defs}
use Rattle.hs_core.specs.declared.emitter.ActEmitter.{ActEmitter}
use Rattle.hs_core.specs.declared.making.Making.{Making}
use Rattle.hs_core.specs.Defining.{Knows, roots, functions}
use Rattle.hs_core.specs.Emits.{Grows, DoneIn, StandsIn, Emits, EmitsEx, Nothing_given}
use Rattle.hs_core.specs.Opening.{core_tree}
use Rattle.hs_core.specs.Making.{Trees, above, behind, last_operand, last_act, of_none, of_operand, of_operands, of_act, of_acts, of_operand_act, of_operand_acts, pushing, leaving, restoring, after, run, nothing_waits}
use Rattle.hs_core.specs.Waiting.{put_on, OperandsWait, ActsWait, ReadsAs, OperandOff, ActOff, Put, Named, Waits, Stepped, Moves}
use Rattle.hs_core.proofs.ActArena.{grows_same, grows_on, stands_on, done_on, knows_on}
use Rattle.hs_core.proofs.Steps.{Goes, goes_on, goes_push, kept_ex, pushed, stays, read_at, at_scope}
use Rattle.hs_core.proofs.Made.{makes}

-- ---- lists that end alike

pub same_front : {A : Type 0} (xs ys : List A) (x y : A) → xs ++ x ∷ [] ≡ ys ++ y ∷ [] → (xs ≡ ys) × (x ≡ y)
same_front [] [] x y h = (refl, cc)
same_front [] (b ∷ []) x y h = (cc, cc)
same_front [] (b ∷ d ∷ ys) x y h = (cc, cc)
same_front (a ∷ []) [] x y h = (cc, cc)
same_front (a ∷ d ∷ xs) [] x y h = (cc, cc)
same_front (a ∷ xs) (b ∷ ys) x y h =
    let e : a ≡ b = cc in
    let r : xs ++ x ∷ [] ≡ ys ++ y ∷ [] = cc in
    let z = same_front xs ys x y r in
    (ap (λ z. z ∷ xs) e ∙ ap (λ z. b ∷ z) z.0, z.1)

pub no_snoc : {A : Type 0} (xs : List A) (x : A) → xs ++ x ∷ [] ≡ [] → ⊥
no_snoc xs x h = let l = length-append xs (x ∷ []) in let n : length (xs ++ x ∷ []) ≡ 0 = ap length h in omega (arith, l, n)

-- ---- what waits, waits on

pub operands_on : (a b : ActEmitter) (ids : List ExprId) (ts : List Sx) → Grows Node a.emitter.nodes b.emitter.nodes → OperandsWait a ids ts → OperandsWait b ids ts
operands_on a b ids [] g h = h
operands_on a b ids (t ∷ ts) g h = (h.0, h.1, h.2, stands_on g h.3, operands_on a b h.0 ts g h.4)

pub acts_on : (a b : ActEmitter) (ids : List ActId) (us : List Sa) → Grows Node a.emitter.nodes b.emitter.nodes → Grows Act a.acts b.acts → ActsWait a ids us → ActsWait b ids us
acts_on a b ids [] g w h = h
acts_on a b ids (u ∷ us) g w h = (h.0, h.1, h.2, done_on g w h.3, acts_on a b h.0 us g w h.4)

-- ---- one is taken off

pub operand_popped : (e : ActEmitter) (ids rest : List ExprId) (id : ExprId) (ts : List Sx) → ids ≡ rest ++ id ∷ [] → OperandOff e e ids rest id ts
operand_popped e ids rest id [] q = record { nodes = grows_same refl; acts = refl; scope = refl; is = λ h. absurd (no_snoc rest id (sym q ∙ h)) }
operand_popped e ids rest id (t ∷ ts) q = record {
  nodes = grows_same refl;
  acts = refl;
  scope = refl;
  is = (λ h. let z = same_front h.0 rest h.1 id (sym h.2 ∙ q) in (subst (λ j. StandsIn e j t) z.1 h.3, subst (λ js. OperandsWait e js ts) z.0 h.4));
}

pub operand_missing : {a b : ActEmitter} {id : ExprId} (ids : List ExprId) (ts : List Sx) → ids ≡ [] → EmitsEx Nothing_given a b id (λ s. s_empty n.Nothing) → OperandOff a b ids [] id ts
operand_missing ids [] q e = record { nodes = e.nodes; acts = e.acts; scope = e.scope; is = λ h. (e.is tt, refl) }
operand_missing ids (t ∷ ts) q e = record { nodes = e.nodes; acts = e.acts; scope = e.scope; is = λ h. absurd (no_snoc h.0 h.1 (sym h.2 ∙ q)) }

pub act_popped : (e : ActEmitter) (ids rest : List ActId) (id : ActId) (us : List Sa) → ids ≡ rest ++ id ∷ [] → ActOff e ids rest id us
act_popped e ids rest id [] q = record { is = (λ h. absurd (no_snoc rest id (sym q ∙ h))); done = (λ u more q h. absurd cc) }
act_popped e ids rest id (u ∷ us) q =
    let found : ActsWait e ids (u ∷ us) → DoneIn e id u × ActsWait e rest us = (λ h. let z = same_front h.0 rest h.1 id (sym h.2 ∙ q) in (subst (λ j. DoneIn e j u) z.1 h.3, subst (λ js. ActsWait e js us) z.0 h.4)) in
    record {
      is = (λ h. let z = found h in (z.0.is, z.1));
      done = (λ v more r h. subst (λ z. DoneIn e id z) (let y : u ≡ v = cc in y) (found h).0);
    }

past : (us : List Sa) (n : ℕ) → n ≡ length us → get_or us n a_bad ≡ a_bad
past [] zero h = refl
past [] (suc n) h = refl
past (u ∷ us) zero h = absurd (omega (arith, h))
past (u ∷ us) (suc n) h = past us n (omega (arith, h))

-- what no node stands for
beyond : (e : ActEmitter) (id : ActId) → id.0 ≡ length e.acts → ReadsAs e id a_bad
beyond e id q more = let l = act_trees-length (e.emitter.nodes ++ more) e.acts in past (act_trees (e.emitter.nodes ++ more) e.acts) id.0 (omega (arith, l, q))

pub act_missing : (e : ActEmitter) (ids : List ActId) (id : ActId) (us : List Sa) → ids ≡ [] → id.0 ≡ length e.acts → ActOff e ids [] id us
act_missing e ids id [] q l = record { is = (λ h. (beyond e id l, refl)); done = (λ u more r h. let z : ◌≡◌ {A = List Sa} [] (u ∷ more) = r in cc) }
act_missing e ids id (u ∷ us) q l = record { is = (λ h. absurd (no_snoc h.0 h.1 (sym h.2 ∙ q))); done = (λ v more r h. absurd (no_snoc h.0 h.1 (sym h.2 ∙ q))) }

-- ---- whole actions

abbrev Reading : ActEmitter → Act → Sa → Type 0
Reading e k u = (more : List Node) → act_decode (trees (e.emitter.nodes ++ more)) (act_trees (e.emitter.nodes ++ more) e.acts) k ≡ u

abbrev with_parts : Making → List ExprId → List ActId → Making
with_parts m ops ids = record { base = m.base; operands = ops; acts = ids }

-- an action's node is put on, after its parts were taken off
puts : {a b n : ActEmitter} {m l : Making} {k : Act} (d : Defs) (g : Goes a b) (ops : List ExprId) (ids : List ActId) (xs : List Sx) (u : Sa) (us : List Sa) → Put b n (with_parts m ops ids) l k → (t : Trees)
    → (OperandsWait a m.operands t.operands → ActsWait a m.acts t.acts → Reading b k u × OperandsWait b ops xs × ActsWait b ids us)
    → (start : List ScopedName) → Named a m start t → Stepped d start a n m l t (record { names = t.names; operands = xs; acts = u ∷ us })
puts {b = o} {n = e} d g ops ids xs u us p t f start h =
    let w = goes_push p.pushed in
    record {
      nodes = grows_on g.nodes w.nodes;
      acts = grows_on g.acts w.acts;
      named = record { scope = w.scope ∙ (g.scope ∙ h.scope); base = p.base ∙ h.base };
      is = (λ q. let z = f q.operands q.acts in
          record {
            known = knows_on (grows_on g.nodes w.nodes) q.known;
            operands = subst (λ js. OperandsWait e js xs) (sym p.operands) (operands_on o e ops xs w.nodes z.1);
            acts = (ids, p.id, p.acts, pushed p.pushed z.0, acts_on o e ids us w.nodes w.acts z.2);
          });
    }

goes_off : {a b : ActEmitter} {ids rest : List ExprId} {id : ExprId} {ts : List Sx} → OperandOff a b ids rest id ts → Goes a b
goes_off o = record { nodes = o.nodes; acts = grows_same o.acts; scope = o.scope }

pub moves_none : {a n : ActEmitter} {m l : Making} {k : Act} (d : Defs) (u : Sa) → ((ts : List Sx) (us : List Sa) → act_decode ts us k ≡ u) → Put a n m l k → Moves d a n m l (λ s. of_none u)
moves_none {m = v} d u dec p = λ start t h. puts d stays v.operands v.acts t.operands u t.acts p t (λ x y. ((λ more. dec _ _), x, y)) start h

pub moves_operand : {a b n : ActEmitter} {m l : Making} {k : Act} {ops : List ExprId} {x : ExprId} (d : Defs) (mt : Sx → Sa) → ((ts : List Sx) (us : List Sa) → act_decode ts us k ≡ mt (tree_in ts x))
    → ((ts : List Sx) → OperandOff a b m.operands ops x ts) → Put b n (with_parts m ops m.acts) l k → Moves d a n m l (λ s. of_operand mt)
moves_operand {a = q} {b = e} {m = v} {ops = js} d mt dec off p =
    λ start t h. let o = off t.operands in
    puts d (goes_off o) js v.acts (behind t.operands) (mt (last_operand t.operands)) t.acts p t
    (λ x y. let z = o.is x in ((λ more. dec _ _ ∙ ap mt (read_at e z.0 more)), z.1, acts_on q e v.acts t.acts o.nodes (grows_same o.acts) y)) start h

pub moves_operands : {a b e n : ActEmitter} {m l : Making} {k : Act} {ops rest : List ExprId} {x y : ExprId} (d : Defs) (mt : Sx → Sx → Sa) → ((ts : List Sx) (us : List Sa) → act_decode ts us k ≡ mt (tree_in ts x) (tree_in ts y))
    → ((ts : List Sx) → OperandOff a b m.operands ops y ts) → ((ts : List Sx) → OperandOff b e ops rest x ts) → Put e n (with_parts m rest m.acts) l k → Moves d a n m l (λ s. of_operands mt)
moves_operands {a = k'} {e = q} {m = v} {rest = js} {x = i} {y = j} d mt dec first second p =
    λ start t h. let o = first t.operands in
    let r = second (behind t.operands) in
    let g = goes_on (goes_off o) (goes_off r) in
    puts d g js v.acts (behind (behind t.operands)) (mt (last_operand (behind t.operands)) (last_operand t.operands)) t.acts p t
    (λ a b. let z = o.is a in
    let w = r.is z.1 in
    ((λ more. dec _ _ ∙ (ap (λ f. mt f (tree_in (trees (q.emitter.nodes ++ more)) j)) (read_at q w.0 more) ∙ ap (mt (last_operand (behind t.operands))) (read_at q (kept_ex (goes_off r) z.0) more))), w.1, acts_on k' q v.acts t.acts g.nodes g.acts b)) start h

pub moves_act : {a n : ActEmitter} {m l : Making} {k : Act} {ids : List ActId} {i : ActId} (d : Defs) (mt : Sa → Sa) → ((ts : List Sx) (us : List Sa) → act_decode ts us k ≡ mt (act_in us i))
    → ((us : List Sa) → ActOff a m.acts ids i us) → Put a n (with_parts m m.operands ids) l k → Moves d a n m l (λ s. of_act mt)
moves_act {m = v} {ids = js} d mt dec off p =
    λ start t h. puts d stays v.operands js t.operands (mt (last_act t.acts)) (behind t.acts) p t
    (λ x y. let z = (off t.acts).is y in ((λ more. dec _ _ ∙ ap mt (z.0 more)), x, z.1)) start h

two_read : (a : ActEmitter) (i j : ActId) {u v : Sa} (mt : Sa → Sa → Sa) → ReadsAs a i u → ReadsAs a j v → (more : List Node)
    → mt (act_tree_at (a.emitter.nodes ++ more) a.acts i) (act_tree_at (a.emitter.nodes ++ more) a.acts j) ≡ mt u v
two_read e i y {u = r} mt f g more = ap (λ z. mt z (act_tree_at (e.emitter.nodes ++ more) e.acts y)) (f more) ∙ ap (mt r) (g more)

pub moves_acts : {a n : ActEmitter} {m l : Making} {k : Act} {ids rest : List ActId} {i j : ActId} (d : Defs) (mt : Sa → Sa → Sa) → ((ts : List Sx) (us : List Sa) → act_decode ts us k ≡ mt (act_in us i) (act_in us j))
    → ((us : List Sa) → ActOff a m.acts ids j us) → ((us : List Sa) → ActOff a ids rest i us) → Put a n (with_parts m m.operands rest) l k → Moves d a n m l (λ s. of_acts mt)
moves_acts {a = q} {m = v} {rest = js} {i = i'} {j = j'} d mt dec first second p =
    λ start t h. puts d stays v.operands js t.operands (mt (last_act (behind t.acts)) (last_act t.acts)) (behind (behind t.acts)) p t
    (λ x y. let z = (first t.acts).is y in
    let w = (second (behind t.acts)).is z.1 in
    ((λ more. dec _ _ ∙ two_read q i' j' mt w.0 z.0 more), x, w.1)) start h

pub moves_operand_act : {a b n : ActEmitter} {m l : Making} {k : Act} {ops : List ExprId} {ids : List ActId} {x : ExprId} {i : ActId} (d : Defs) (mt : Sx → Sa → Sa) → ((ts : List Sx) (us : List Sa) → act_decode ts us k ≡ mt (tree_in ts x) (act_in us i))
    → ((ts : List Sx) → OperandOff a b m.operands ops x ts) → ((us : List Sa) → ActOff b m.acts ids i us) → Put b n (with_parts m ops ids) l k → Moves d a n m l (λ s. of_operand_act mt)
moves_operand_act {a = q} {b = e} {m = v} {ops = js} {ids = is} {i = y'} d mt dec first second p =
    λ start t h. let o = first t.operands in
    puts d (goes_off o) js is (behind t.operands) (mt (last_operand t.operands) (last_act t.acts)) (behind t.acts) p t
    (λ x y. let z = o.is x in
    let w = (second t.acts).is (acts_on q e v.acts t.acts o.nodes (grows_same o.acts) y) in
    ((λ more. dec _ _ ∙ (ap (λ f. mt f (act_tree_at (e.emitter.nodes ++ more) e.acts y')) (read_at e z.0 more) ∙ ap (mt (last_operand t.operands)) (w.0 more))), z.1, w.1)) start h

pub moves_operand_acts : {a b n : ActEmitter} {m l : Making} {k : Act} {ops : List ExprId} {ids rest : List ActId} {x : ExprId} {i j : ActId} (d : Defs) (mt : Sx → Sa → Sa → Sa) → ((ts : List Sx) (us : List Sa) → act_decode ts us k ≡ mt (tree_in ts x) (act_in us i) (act_in us j))
    → ((ts : List Sx) → OperandOff a b m.operands ops x ts) → ((us : List Sa) → ActOff b m.acts ids j us) → ((us : List Sa) → ActOff b ids rest i us) → Put b n (with_parts m ops rest) l k → Moves d a n m l (λ s. of_operand_acts mt)
moves_operand_acts {a = q} {b = e} {m = v} {ops = js} {rest = is} {i = i'} {j = j'} d mt dec first second third p =
    λ start t h. let o = first t.operands in
    puts d (goes_off o) js is (behind t.operands) (mt (last_operand t.operands) (last_act (behind t.acts)) (last_act t.acts)) (behind (behind t.acts)) p t
    (λ x y. let z = o.is x in
    let w = (second t.acts).is (acts_on q e v.acts t.acts o.nodes (grows_same o.acts) y) in
    let r = (third (behind t.acts)).is w.1 in
    ((λ more. dec _ _ ∙ (ap (λ f. mt f (act_tree_at (e.emitter.nodes ++ more) e.acts i') (act_tree_at (e.emitter.nodes ++ more) e.acts j')) (read_at e z.0 more) ∙ two_read e i' j' (mt (last_operand t.operands)) r.0 w.0 more)), z.1, r.1)) start h

-- ---- names

pub above_is : (ns start : List ScopedName) → scope_of (put_on start ns) ≡ above ns (scope_of start)
above_is [] start = refl
above_is (x ∷ ns) start = scope-push (put_on start ns) x ∙ ap (λ z. name_of x ∷ z) (above_is ns start)

-- the scope of an emitter, by the names above that of the form
scope_is : {a : ActEmitter} {m : Making} {start : List ScopedName} {t : Trees} → Named a m start t → scope_of a.emitter.scope ≡ above t.names (scope_of start)
scope_is {start = s} {t = v} h = ap scope_of h.scope ∙ above_is v.names s

put_length : (start ns : List ScopedName) → length (put_on start ns) ≡ length start + length ns
put_length start [] = omega arith
put_length start (x ∷ ns) = let h = put_length start ns in let l = length-append (put_on start ns) (x ∷ []) in omega (arith, h, l)

left_scope : (start scope new ns : List ScopedName) → length start < length scope → scope ≡ put_on start ns → ((xs : List ScopedName) (x : ScopedName) → scope ≡ xs ++ x ∷ [] → new ≡ xs) → new ≡ put_on start (behind ns)
left_scope start scope new [] l e f = let z : length scope ≡ length start = ap length e in absurd (omega (arith, l, z))
left_scope start scope new (x ∷ ns) l e f = f (put_on start ns) x e

kept_scope : (start scope ns : List ScopedName) → length scope ≤ length start → scope ≡ put_on start ns → scope ≡ put_on start (behind ns)
kept_scope start scope [] l e = e
kept_scope start scope (x ∷ ns) l e = let z : length scope ≡ length (put_on start (x ∷ ns)) = ap length e in let p = put_length start (x ∷ ns) in absurd (omega (arith, l, z, p))

-- no node is added
moves_scope : {a : ActEmitter} {m : Making} {scope : List ScopedName} {start : List ScopedName} (d : Defs) (t : Trees) (ns : List ScopedName) → Named a m start t → scope ≡ put_on start ns
    → Stepped d start a (at_scope a scope) m m t (record { names = ns; operands = t.operands; acts = t.acts })
moves_scope {a = o} {m = v} {scope = z} d t ns h e = record {
  nodes = grows_same refl;
  acts = grows_same refl;
  named = record { scope = e; base = h.base };
  is = (λ q. record { known = q.known; operands = operands_on o (at_scope o z) v.operands t.operands (grows_same refl) q.operands; acts = acts_on o (at_scope o z) v.acts t.acts (grows_same refl) (grows_same refl) q.acts });
}

pub moves_off : {a : ActEmitter} {m : Making} {scope : List ScopedName} (d : Defs) → m.base < length a.emitter.scope → ((xs : List ScopedName) (x : ScopedName) → a.emitter.scope ≡ xs ++ x ∷ [] → scope ≡ xs) → Moves d a (at_scope a scope) m m (λ s. leaving)
moves_off {a = o} {scope = w} d l f = λ start t h. let b = h.base in moves_scope d t (behind t.names) h (left_scope start o.emitter.scope w t.names (omega (arith, l, b)) h.scope f)

pub moves_stay : {a : ActEmitter} {m : Making} (d : Defs) → length a.emitter.scope ≤ m.base → Moves d a a m m (λ s. leaving)
moves_stay {a = o} d l = λ start t h. let b = h.base in moves_scope d t (behind t.names) h (kept_scope start o.emitter.scope t.names (omega (arith, l, b)) h.scope)

pub moves_restore : {a n : ActEmitter} {m l : Making} (d : Defs) (y : List ℕ) (x : Binder) (k : ℕ) → k ≡ slot_or_end (slot_of (scope_of a.emitter.scope) (named y x)) (scope_of a.emitter.scope)
    → Moves d a n m l (λ s. of_act (a_restore k)) → Moves d a n m l (λ s. restoring s y x)
moves_restore {a = o} {n = e} {m = v} {l = w} d y x k is g =
    λ start t h. subst (λ z. Stepped d start o e v w t (of_act (a_restore z) t)) (is ∙ ap (λ z. slot_or_end (slot_of z (named y x)) z) (scope_is h)) (g start t h)

-- ---- expressions and blocks

pub moves_push : {a b : ActEmitter} {m : Making} {ops : List ExprId} {id : ExprId} (d : Defs) (u : Scope → Sx) → EmitsEx (Knows a.emitter.nodes d) a b id u → ops ≡ m.operands ++ id ∷ []
    → Moves d a b m (with_parts m ops m.acts) (λ s t. pushing (u (above t.names s)) t)
moves_push {a = o} {b = n} {m = v} {id = i} d u e is =
    λ start t h. record {
      nodes = e.nodes;
      acts = grows_same e.acts;
      named = record { scope = e.scope ∙ h.scope; base = h.base };
      is = (λ q. record {
        known = knows_on e.nodes q.known;
        operands = (v.operands, i, is, subst (λ z. StandsIn n i (u z)) (scope_is h) (e.is q.known), operands_on o n v.operands t.operands e.nodes q.operands);
        acts = acts_on o n v.acts t.acts e.nodes (grows_same e.acts) q.acts;
      });
    }

pub moves_block : {a b : ActEmitter} {m : Making} {ids : List ActId} {id : ActId} (d : Defs) (u : Scope → Sa) → Emits (Knows a.emitter.nodes d) a b id u → ids ≡ m.acts ++ id ∷ []
    → Moves d a b m (with_parts m m.operands ids) (λ s t. of_none (u (above t.names s)) t)
moves_block {a = o} {b = n} {m = v} {id = i} d u e is =
    λ start t h. record {
      nodes = e.nodes;
      acts = e.acts;
      named = record { scope = e.scope ∙ h.scope; base = h.base };
      is = (λ q. record {
        known = knows_on e.nodes q.known;
        operands = operands_on o n v.operands t.operands e.nodes q.operands;
        acts = (v.acts, i, is, subst (λ z. DoneIn n i (u z)) (scope_is h) (e.is q.known), acts_on o n v.acts t.acts e.nodes e.acts q.acts);
      });
    }

-- ---- one step

pub as_moves : {a n : ActEmitter} {m l : Making} (d : Defs) (f : Filling) (x y : Step) → x ≡ y → Moves d a n m l (λ s. after (roots d) (functions d) s f y) → Moves d a n m l (λ s. after (roots d) (functions d) s f x)
as_moves {a = o} {n = e} {m = v} {l = w} d f x y is h = subst (λ z. Moves d o e v w (λ s. after (roots d) (functions d) s f z)) (sym is) h

pub as_step : {A E : Type 0} (r : Result A E) (a n : ActEmitter) (m l : Making) (d : Defs) (f : Filling) (x y : Step) → x ≡ y → OnOk r (Moves d a n m l (λ s. after (roots d) (functions d) s f y)) → OnOk r (Moves d a n m l (λ s. after (roots d) (functions d) s f x))
as_step r a n m l d f x y is h = subst (λ z. OnOk r (Moves d a n m l (λ s. after (roots d) (functions d) s f z))) (sym is) h

-- ---- all steps

pub drop_past : {A : Type 0} (xs : List A) (n : ℕ) → length xs ≤ n → drop n xs ≡ []
drop_past [] zero l = refl
drop_past [] (suc n) l = refl
drop_past (x ∷ xs) zero l = absurd (omega arith)
drop_past (x ∷ xs) (suc n) l = drop_past xs n (omega arith)

-- how far the steps of a template are gone through
pub record Gone (d : Defs) (f : Filling) (form : Derived) (first now : ActEmitter) (m : Making) (left : List Step) : Type 0 where
  pub trees : Trees
  pub nodes : Grows Node first.emitter.nodes now.emitter.nodes
  pub acts : Grows Act first.acts now.acts
  pub named : Named now m first.emitter.scope trees
  pub is : Knows first.emitter.nodes d → Waits d now m trees
  pub rest : run (roots d) (functions d) (scope_of first.emitter.scope) f left trees ≡ run (roots d) (functions d) (scope_of first.emitter.scope) f (steps form) nothing_waits

pub gone_none : {a : ActEmitter} {m : Making} {left : List Step} (d : Defs) (f : Filling) (form : Derived) → m.base ≡ length a.emitter.scope → m.operands ≡ [] → m.acts ≡ [] → left ≡ steps form → Gone d f form a a m left
gone_none {a = o} d f form b e g l = record {
  trees = nothing_waits;
  nodes = grows_same refl;
  acts = grows_same refl;
  named = record { scope = refl; base = b };
  is = (λ k. record { known = k; operands = e; acts = g });
  rest = ap (λ z. run (roots d) (functions d) (scope_of o.emitter.scope) f z nothing_waits) l;
}

gone_step : {a b n : ActEmitter} {m l : Making} {left rest : List Step} (d : Defs) (f : Filling) (form : Derived) (x : Step) → left ≡ x ∷ rest → Gone d f form a b m left
    → Moves d b n m l (λ s. after (roots d) (functions d) s f x) → Gone d f form a n l rest
gone_step {a = o} d f form x e h g =
    let s = o.emitter.scope in
    let z = g s h.trees h.named in
    record {
      trees = after (roots d) (functions d) (scope_of s) f x h.trees;
      nodes = grows_on h.nodes z.nodes;
      acts = grows_on h.acts z.acts;
      named = z.named;
      is = (λ k. z.is (h.is k));
      rest = ap (λ y. run (roots d) (functions d) (scope_of s) f y h.trees) (sym e) ∙ h.rest;
    }

pub gone_at : {a b n : ActEmitter} {m l : Making} (d : Defs) (f : Filling) (form : Derived) (all : List Step) (i : ℕ) (x : Step) → all ≡ steps form → i < length all → Gone d f form a b m (drop i (steps form))
    → Moves d b n m l (λ s. after (roots d) (functions d) s f (get_or all i x)) → Gone d f form a n l (drop (i + 1) (steps form))
gone_at d f form all i x e lt h g =
    let k : length all ≡ length (steps form) = ap length e in
    let y : i + 1 ≡ suc i = omega arith in
    gone_step d f form (get_or all i x) (drop-cons (steps form) i x (omega (arith, lt, k)) ∙ (ap (λ z. get_or z i x ∷ drop (suc i) (steps form)) (sym e) ∙ ap (λ j. get_or all i x ∷ drop j (steps form)) (sym y))) h g

pub gone_as : {d : Defs} {f : Filling} {form : Derived} {a b n : ActEmitter} {m l : Making} {left : List Step} → b ≡ n → m ≡ l → Gone d f form a n l left → Gone d f form a b m left
gone_as {d = d'} {f = f'} {form = o} {a = a'} {b = b'} {l = l'} {left = xs} e g h = subst (λ z. Gone d' f' o a' b' z xs) (sym g) (subst (λ z. Gone d' f' o a' z l' xs) (sym e) h)

pub gone_all : {a b : ActEmitter} {m : Making} {ids : List ActId} {id : ActId} {left : List Step} (d : Defs) (f : Filling) (form : Derived) → left ≡ [] → Gone d f form a b m left → ((us : List Sa) → ActOff b m.acts ids id us)
    → Emits (Knows a.emitter.nodes d) a b id (λ s. core_tree d s (derived form f))
gone_all {a = o} d f form e h off =
    let s = o.emitter.scope in
    let tree = core_tree d (scope_of s) (derived form f) in
    let is : h.trees ≡ record { names = []; operands = []; acts = tree ∷ [] } = sym (ap (λ y. run (roots d) (functions d) (scope_of s) f y h.trees) e) ∙ (h.rest ∙ makes (roots d) (functions d) (scope_of s) f (template form) [] [] [] []) in
    record {
      nodes = h.nodes;
      acts = h.acts;
      scope = h.named.scope ∙ ap (λ z. put_on s z.names) is;
      is = (λ k. (off h.trees.acts).done tree [] (ap (λ z. z.acts) is) (h.is k).acts);
    }
