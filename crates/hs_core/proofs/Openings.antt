-- Statements whose blocks go on, one after another.
use Rattle.std.specs.Prelude.{slice_get}
use Rattle.std.proofs.Common.{Some, None, ◌≡◌, ℕ, List, [], ◌∷◌, ◌++◌, map, length, get_or, take, drop, zero, suc, ◌+◌, ◌<◌, ◌≤◌, arith, length-append, refl, ap, ◌∙◌, sym, subst, append_assoc}
use Rattle.std.proofs.lemmas.List.{append-nil}
use Rattle.std.proofs.Math.Seq.{take-suc}
use Rattle.hs_base.specs.declared.tree.action.Stmt.{Stmt}
use Rattle.hs_base.specs.declared.pos.Pos.{Pos}
use Rattle.rules_code.specs.declared.node.Node.{Node}
use Rattle.rules_code.specs.declared.node.ExprId.{ExprId}
use Rattle.rules_code.specs.declared.act.Act.{Act}
use Rattle.rules_code.specs.declared.act.Act.TheVariants as k
use Rattle.rules_code.specs.declared.act.ActId.{ActId}
use Rattle.rules_expansion.specs.trees.Trees.{Ex}
use Rattle.rules_expansion.specs.Names.{Written}
use Rattle.rules_expansion.specs.Core.{Core}
use Rattle.rules_expansion.specs.Expansion.{core}
use Rattle.rules_expansion.specs.trees.Programs.{SurfaceAction, Bl, last, ActArms, maybe_acts, either_acts, list_acts, pair_acts, case_act, before, stmt_of, act_of, bl_of}
use Rattle.rules_expansion.proofs.trees_lemmas.EquationsOfActions.{bl_is}
use Rattle.hs_base.specs.declared.tree.action.Block.{Block}
use Rattle.hs_base.specs.declared.tree.action.Action.{Action}
use Rattle.rules_code.specs.Slots.{Sx, Scope, slotted, tree_in}
use Rattle.rules_code.specs.CodeTrees.{Sa, a_bad, act_in, act_decode, a_let, a_bind, a_then}
use Rattle.hs_nodes.specs.declared.names.ScopedName.{ScopedName}
use Rattle.hs_nodes.specs.declared.names.ScopedName.TheVariants as w
use Rattle.hs_nodes.specs.Names.{name_of, scope_after, scope_of}
use Rattle.hs_nodes.proofs.Scopes.{scope-push}
use Rattle.hs_core.specs.declared.defs.Defs.{Defs}
use Rattle.hs_core.specs.declared.emitter.ActEmitter.{ActEmitter}
use Rattle.hs_core.specs.declared.pending.Pending.{Pending}
use Rattle.hs_core.specs.declared.pending.Pending.TheVariants as p
use Rattle.hs_core.specs.Defining.{Knows, roots}
use Rattle.hs_core.specs.Emits.{Grows, DoneIn, StandsIn, Emits, EmitsEx, Pushed}
use Rattle.hs_core.specs.Opening.{core_tree, action_tree, block_tree, arms_tree, Opened, o_bind, o_let, o_then, wrap, wrap_all, node_of, Holds, HoldAll, Opens, OpensAll}
use Rattle.hs_core.proofs.ActArena.{grows_same, grows_by, grows_on, stands_on, done_on, knows_on}
use Rattle.hs_core.proofs.Steps.{goes, goes_ex, goes_on, kept, kept_ex, at, emits, follow, done_ex2, given2, given_ex1, with_ex, never, at_scope}

pub holds_on : (a b : ActEmitter) (q : Pending) (o : Opened) → Grows Node a.emitter.nodes b.emitter.nodes → Grows Act a.acts b.acts → Holds a q o → Holds b q o
holds_on a b (p.Bind i) (o_bind t) g w h = done_on g w h
holds_on a b (p.Bind i) (o_let t) g w h = h
holds_on a b (p.Bind i) (o_then t) g w h = h
holds_on a b (p.Let i) (o_bind t) g w h = h
holds_on a b (p.Let i) (o_let t) g w h = stands_on g h
holds_on a b (p.Let i) (o_then t) g w h = h
holds_on a b (p.Then i) (o_bind t) g w h = h
holds_on a b (p.Then i) (o_let t) g w h = h
holds_on a b (p.Then i) (o_then t) g w h = done_on g w h

pub hold_all_on : (a b : ActEmitter) (qs : List Pending) (os : List Opened) → Grows Node a.emitter.nodes b.emitter.nodes → Grows Act a.acts b.acts → HoldAll a qs os → HoldAll b qs os
hold_all_on a b [] [] g w h = tt
hold_all_on a b [] (o ∷ os) g w h = h
hold_all_on a b (q ∷ qs) [] g w h = h
hold_all_on a b (q ∷ qs) (o ∷ os) g w h = (holds_on a b q o g w h.0, hold_all_on a b qs os g w h.1)

hold_snoc : (a : ActEmitter) (qs : List Pending) (os : List Opened) (q : Pending) (o : Opened) → HoldAll a qs os → Holds a q o → HoldAll a (qs ++ q ∷ []) (os ++ o ∷ [])
hold_snoc a [] [] q o h g = (g, tt)
hold_snoc a [] (x ∷ os) q o h g = absurd h
hold_snoc a (x ∷ qs) [] q o h g = absurd h
hold_snoc a (x ∷ qs) (y ∷ os) q o h g = (h.0, hold_snoc a qs os q o h.1 g)

wrap_snoc : (os : List Opened) (o : Opened) (t : Sa) → wrap_all (os ++ o ∷ []) t ≡ wrap_all os (wrap o t)
wrap_snoc [] o t = refl
wrap_snoc (x ∷ os) o t = ap (wrap x) (wrap_snoc os o t)

before_snoc : (cs : List Stmt) (c : Stmt) (b : Bl) → before (map stmt_of (cs ++ c ∷ [])) b ≡ before (map stmt_of cs) (stmt_of c b)
before_snoc [] c b = refl
before_snoc (x ∷ cs) c b = ap (stmt_of x) (before_snoc cs c b)

-- ---- one statement

-- a name is bound to what an action gives
pub opens_bind : {a b : ActEmitter} {i : ActId} {wide : List ScopedName} (d : Defs) (x : List ℕ) (t : SurfaceAction) (c : Stmt) (mk : Bl → Bl) → Emits (Knows a.emitter.nodes d) a b i (λ s. action_tree d s t)
    → wide ≡ b.emitter.scope ++ w.Written x ∷ [] → stmt_of c ≡ mk → ((s : Scope) (y : Bl) → block_tree d s (mk y) ≡ a_bind (action_tree d s t) (block_tree d (Written x ∷ s) y)) → Opens d a (at_scope b wide) (p.Bind i) c
opens_bind {a = o} {b = n} {i = j} {wide = z} d x t c mk e eq is dec = record {
  nodes = e.nodes;
  acts = e.acts;
  scope = grows_by (w.Written x ∷ []) (eq ∙ ap (λ u. u ++ w.Written x ∷ []) e.scope);
  is = (λ k. record {
    tree = o_bind (action_tree d (scope_of o.emitter.scope) t);
    holds = e.is k;
    wraps = (λ y. ap (λ f. block_tree d (scope_of o.emitter.scope) (f y)) is
        ∙ (dec (scope_of o.emitter.scope) y ∙ ap (λ u. a_bind (action_tree d (scope_of o.emitter.scope) t) (block_tree d u y))
        (sym (ap scope_of (eq ∙ ap (λ u. u ++ w.Written x ∷ []) e.scope) ∙ scope-push o.emitter.scope (w.Written x)))));
  });
}

pub opens_let : {a b : ActEmitter} {i : ExprId} {wide : List ScopedName} (d : Defs) (x : List ℕ) (t : Ex) (c : Stmt) (mk : Bl → Bl) → EmitsEx (Knows a.emitter.nodes d) a b i (λ s. slotted (roots d) s t)
    → wide ≡ b.emitter.scope ++ w.Written x ∷ [] → stmt_of c ≡ mk → ((s : Scope) (y : Bl) → block_tree d s (mk y) ≡ a_let (slotted (roots d) s t) (block_tree d (Written x ∷ s) y)) → Opens d a (at_scope b wide) (p.Let i) c
opens_let {a = o} {b = n} {i = j} {wide = z} d x t c mk e eq is dec = record {
  nodes = e.nodes;
  acts = grows_same e.acts;
  scope = grows_by (w.Written x ∷ []) (eq ∙ ap (λ u. u ++ w.Written x ∷ []) e.scope);
  is = (λ k. record {
    tree = o_let (slotted (roots d) (scope_of o.emitter.scope) t);
    holds = e.is k;
    wraps = (λ y. ap (λ f. block_tree d (scope_of o.emitter.scope) (f y)) is
        ∙ (dec (scope_of o.emitter.scope) y ∙ ap (λ u. a_let (slotted (roots d) (scope_of o.emitter.scope) t) (block_tree d u y))
        (sym (ap scope_of (eq ∙ ap (λ u. u ++ w.Written x ∷ []) e.scope) ∙ scope-push o.emitter.scope (w.Written x)))));
  });
}

pub opens_then : {a b : ActEmitter} {i : ActId} (d : Defs) (t : SurfaceAction) (c : Stmt) (mk : Bl → Bl) → Emits (Knows a.emitter.nodes d) a b i (λ s. action_tree d s t)
    → stmt_of c ≡ mk → ((s : Scope) (y : Bl) → block_tree d s (mk y) ≡ a_then (action_tree d s t) (block_tree d s y)) → Opens d a b (p.Then i) c
opens_then {a = o} {b = n} {i = j} d t c mk e is dec = record {
  nodes = e.nodes;
  acts = e.acts;
  scope = grows_same e.scope;
  is = (λ k. record {
    tree = o_then (action_tree d (scope_of o.emitter.scope) t);
    holds = e.is k;
    wraps = (λ y. ap (λ f. block_tree d (scope_of o.emitter.scope) (f y)) is
        ∙ (dec (scope_of o.emitter.scope) y ∙ ap (λ u. a_then (action_tree d (scope_of o.emitter.scope) t) (block_tree d (scope_of u) y)) (sym e.scope)));
  });
}

-- ---- statements in a row

opens_none : {a : ActEmitter} (d : Defs) → OpensAll d a a [] []
opens_none d = record { nodes = grows_same refl; acts = grows_same refl; scope = grows_same refl; is = λ k. record { trees = []; hold = tt; wraps = λ b. refl } }

pub opens_first : {a : ActEmitter} {qs : List Pending} (d : Defs) → qs ≡ [] → OpensAll d a a qs []
opens_first {a = o} d e = subst (λ z. OpensAll d o o z []) (sym e) (opens_none d)

pub opens_snoc : {a b e : ActEmitter} {q : Pending} {c : Stmt} (d : Defs) (qs : List Pending) (cs : List Stmt) → OpensAll d a b qs cs → Opens d b e q c → OpensAll d a e (qs ++ q ∷ []) (cs ++ c ∷ [])
opens_snoc {a = o} {b = m} {e = n} {q = r} {c = st} d qs cs h g = record {
  nodes = grows_on h.nodes g.nodes;
  acts = grows_on h.acts g.acts;
  scope = grows_on h.scope g.scope;
  is = (λ k. let f = h.is k in
      let z = g.is (knows_on h.nodes k) in
      record {
        trees = f.trees ++ z.tree ∷ [];
        hold = hold_snoc n qs f.trees r z.tree (hold_all_on m n qs f.trees g.nodes g.acts f.hold) z.holds;
        wraps = (λ y. ap (block_tree d (scope_of o.emitter.scope)) (before_snoc cs st y) ∙ (f.wraps (stmt_of st y) ∙ (ap (wrap_all f.trees) (z.wraps y) ∙ sym (wrap_snoc f.trees z.tree _))));
      });
}

-- ---- what is put in front

pub wraps_one : {a b : ActEmitter} {id rest : ActId} (q : Pending) (o : Opened) (t : Sa) → Pushed a b id (node_of q rest) → Emits (Holds a q o × DoneIn a rest t) a b id (λ s. wrap o t)
wraps_one (p.Bind i) (o_bind u) t e = given2 k.Bind a_bind (λ ts us x y. refl) (λ z. z.0) (λ z. z.1) e
wraps_one (p.Let i) (o_let u) t e = given_ex1 k.Let a_let (λ ts us x y. refl) (λ z. z.0) (λ z. z.1) e
wraps_one (p.Then i) (o_then u) t e = given2 k.Then a_then (λ ts us x y. refl) (λ z. z.0) (λ z. z.1) e
wraps_one (p.Bind i) (o_let u) t e = never (λ z. z.0) e
wraps_one (p.Bind i) (o_then u) t e = never (λ z. z.0) e
wraps_one (p.Let i) (o_bind u) t e = never (λ z. z.0) e
wraps_one (p.Let i) (o_then u) t e = never (λ z. z.0) e
wraps_one (p.Then i) (o_bind u) t e = never (λ z. z.0) e
wraps_one (p.Then i) (o_let u) t e = never (λ z. z.0) e

-- the one at a place, of those that stand
abbrev pub open_at : List Opened → ℕ → Opened
open_at os j = get_or os j (o_then a_bad)

same_length : (a : ActEmitter) (qs : List Pending) (os : List Opened) → HoldAll a qs os → length os ≡ length qs
same_length a [] [] h = refl
same_length a [] (o ∷ os) h = absurd h
same_length a (q ∷ qs) [] h = absurd h
same_length a (q ∷ qs) (o ∷ os) h = let r = same_length a qs os h.1 in omega (arith, r)

hold_at : (a : ActEmitter) (qs : List Pending) (os : List Opened) (j : ℕ) (q : Pending) → HoldAll a qs os → slice_get qs j ≡ Some q → Holds a q (open_at os j)
hold_at a [] os j q h e = let z : None ≡ Some q = e in cc
hold_at a (x ∷ qs) [] j q h e = absurd h
hold_at m (x ∷ qs) (o ∷ os) zero q h e = subst (λ y. Holds m y o) (let z : x ≡ q = cc in z) h.0
hold_at a (x ∷ qs) (o ∷ os) (suc j) q h e = hold_at a qs os j q h.1 e

drop_at : (os : List Opened) (j : ℕ) → j < length os → drop j os ≡ open_at os j ∷ drop (suc j) os
drop_at [] j l = absurd (omega arith)
drop_at (o ∷ os) zero l = refl
drop_at (o ∷ os) (suc j) l = drop_at os j (omega arith)

drop_past : (os : List Opened) (n : ℕ) → length os ≤ n → drop n os ≡ []
drop_past [] zero l = refl
drop_past [] (suc n) l = refl
drop_past (o ∷ os) zero l = absurd (omega arith)
drop_past (o ∷ os) (suc n) l = drop_past os n (omega arith)

-- none is put in front yet
pub closes_none : (a : ActEmitter) (qs : List Pending) (os : List Opened) (n : ℕ) (end : ActId) (t : Sa) → n ≡ length qs → Emits (HoldAll a qs os × DoneIn a end t) a a end (λ s. wrap_all (drop n os) t)
closes_none a qs os n end t e = record {
  nodes = grows_same refl;
  acts = grows_same refl;
  scope = refl;
  is = (λ k. subst (λ z. DoneIn a end (wrap_all z t)) (sym (drop_past os n (let r = same_length a qs os k.0 in omega (arith, r, e)))) k.1);
}

-- one more is
pub closes_more : {a b e : ActEmitter} {id end new : ActId} (qs : List Pending) (os : List Opened) (i j : ℕ) (q : Pending) (t : Sa) → i ≡ j + 1 → j < length qs → slice_get qs j ≡ Some q
    → Emits (HoldAll a qs os × DoneIn a end t) a b id (λ s. wrap_all (drop i os) t)
    → ((o : Opened) (u : Sa) → Emits (Holds b q o × DoneIn b id u) b e new (λ s. wrap o u))
    → Emits (HoldAll a qs os × DoneIn a end t) a e new (λ s. wrap_all (drop j os) t)
closes_more {a = o} {b = y} {e = m} {new = n} qs os i j q t s l is h g =
    let z = g (open_at os j) (wrap_all (drop i os) t) in
    record {
      nodes = grows_on h.nodes z.nodes;
      acts = grows_on h.acts z.acts;
      scope = z.scope ∙ h.scope;
      is = (λ k. let r = same_length o qs os k.0 in
          subst (λ x. DoneIn m n (wrap_all x t)) (sym (drop_at os j (omega (arith, r, l)))) (subst (λ x. DoneIn m n (wrap (open_at os j) (wrap_all (drop x os) t))) (let w : i ≡ suc j = omega arith in w)
          (z.is (holds_on o y q (open_at os j) h.nodes h.acts (hold_at o qs os j q k.0 is), h.is k))));
    }

-- ---- names that are taken off

snoc_of : (zs : List ScopedName) → 0 < length zs → (ws : List ScopedName) × (x : ScopedName) × (zs ≡ ws ++ x ∷ [])
snoc_of [] l = absurd (omega arith)
snoc_of (z ∷ []) l = ([], z, refl)
snoc_of (z ∷ y ∷ zs) l = let r = snoc_of (y ∷ zs) (omega arith) in (z ∷ r.0, r.1, ap (λ u. z ∷ u) r.2)

pub shorter : (old new : List ScopedName) → ((xs : List ScopedName) (x : ScopedName) → old ≡ xs ++ x ∷ [] → new ≡ xs) → 0 < length old → length new < length old
shorter old new f l =
    let r = snoc_of old l in
    let n : length new ≡ length r.0 = ap length (f r.0 r.1 r.2) in
    let o : length old ≡ length (r.0 ++ r.1 ∷ []) = ap length r.2 in
    let g = length-append r.0 (r.1 ∷ []) in
    omega (arith, n, o, g)

pub keeps_front : (old new xs zs : List ScopedName) → ((ys : List ScopedName) (x : ScopedName) → old ≡ ys ++ x ∷ [] → new ≡ ys) → old ≡ xs ++ zs → length xs < length old → (ws : List ScopedName) × (new ≡ xs ++ ws)
keeps_front old new xs zs f e l =
    let o : length old ≡ length (xs ++ zs) = ap length e in
    let g = length-append xs zs in
    let r = snoc_of zs (omega (arith, o, g, l)) in
    (r.0, f (xs ++ r.0) r.1 (e ∙ (ap (λ z. xs ++ z) r.2 ∙ sym (append_assoc xs r.0 (r.1 ∷ [])))))

pub all_off : (s xs zs : List ScopedName) → s ≡ xs ++ zs → length s ≤ length xs → s ≡ xs
all_off s xs [] e l = e ∙ (let z : xs ++ [] ≡ xs = append-nil xs in z)
all_off s xs (z ∷ zs) e l = let o : length s ≡ length (xs ++ z ∷ zs) = ap length e in let g = length-append xs (z ∷ zs) in absurd (omega (arith, o, g, l))

pub opens_step : {a b e : ActEmitter} {q : Pending} {more : List Pending} (d : Defs) (qs : List Pending) (cs : List Stmt) (i : ℕ) (c : Stmt) → OpensAll d a b qs (take i cs) → Opens d b e q c → c ≡ get_or cs i c → i < length cs → more ≡ qs ++ q ∷ [] → OpensAll d a e more (take (i + 1) cs)
opens_step {a = o} {e = n} {q = r} {more = ps} d qs cs i c h g is l eq =
    let z : take (i + 1) cs ≡ take i cs ++ c ∷ [] = ap (λ j. take j cs) (let y : i + 1 ≡ suc i = omega arith in y) ∙ (take-suc cs i c l ∙ ap (λ y. take i cs ++ y ∷ []) (sym is)) in
    subst (OpensAll d o n ps) (sym z) (subst (λ y. OpensAll d o n y (take i cs ++ c ∷ [])) (sym eq) (opens_snoc d qs (take i cs) h g))

-- a block is its statements and its last action
pub block_is : {s0 s1 s2 s3 : ActEmitter} {end id : ActId} {narrow : List ScopedName} (d : Defs) (b : Block) (x : Action) (n : ℕ) (qs : List Pending) → x ≡ b.last → OpensAll d s0 s1 qs b.stmts
    → Emits (Knows s1.emitter.nodes d) s1 s2 end (λ s. action_tree d s (act_of x)) → n ≡ length s0.emitter.scope
    → ((xs ys : List ScopedName) → s2.emitter.scope ≡ xs ++ ys → length xs ≡ n → narrow ≡ xs)
    → ((os : List Opened) (t : Sa) → Emits (HoldAll (at_scope s2 narrow) qs os × DoneIn (at_scope s2 narrow) end t) (at_scope s2 narrow) s3 id (λ s. wrap_all os t))
    → Emits (Knows s0.emitter.nodes d) s0 s3 id (λ s. block_tree d s (bl_of b))
block_is {s0 = o} {s1 = m} {s2 = l} {s3 = e} {end = i} {id = j} {narrow = z'} d b x n qs xe h a eq f g =
    let z = g [] (action_tree d (scope_of m.emitter.scope) (act_of x)) in
    record {
      nodes = grows_on h.nodes (grows_on a.nodes z.nodes);
      acts = grows_on h.acts (grows_on a.acts z.acts);
      scope = z.scope ∙ f o.emitter.scope h.scope.more (a.scope ∙ h.scope.is) (sym eq);
      is = (λ k. let w = h.is k in
          let t = action_tree d (scope_of m.emitter.scope) (act_of x) in
          let y = g w.trees t in
          subst (DoneIn e j) (sym (ap (block_tree d (scope_of o.emitter.scope)) (bl_is b) ∙ (w.wraps (last (act_of b.last)) ∙ ap (λ y. wrap_all w.trees (action_tree d (scope_of m.emitter.scope) (act_of y))) (sym xe))))
          (y.is (hold_all_on m (at_scope l z') qs w.trees a.nodes a.acts w.hold, a.is (knows_on h.nodes k))));
    }

-- ---- blocks under names

pub added_more : (s : Scope) (xs ys : List ScopedName) → scope_after s (xs ++ ys) ≡ scope_after (scope_after s xs) ys
added_more s [] ys = refl
added_more s (x ∷ xs) ys = added_more (name_of x ∷ s) xs ys

pub under_names : {K : Type 0} {id : ActId} {t : Scope → Sa} {wide narrow : List ScopedName} (old mid : ActEmitter) (more : List ScopedName) (n : ℕ) → wide ≡ old.emitter.scope ++ more
    → Emits K (at_scope old wide) mid id t → n ≡ length old.emitter.scope → ((xs ys : List ScopedName) → mid.emitter.scope ≡ xs ++ ys → length xs ≡ n → narrow ≡ xs)
    → Emits K old (at_scope mid narrow) id (λ s. t (scope_after s more))
under_names {id = j} {t = u} old mid more n eq e is f = record {
  nodes = e.nodes;
  acts = e.acts;
  scope = f old.emitter.scope more (e.scope ∙ eq) (sym is);
  is = (λ k. subst (λ z. DoneIn mid j (u z)) (ap scope_of eq ∙ added_more [] old.emitter.scope more) (e.is k));
}

-- ---- forms of the script

pub after_known : {a b n : ActEmitter} {e : ExprId} {id : ActId} {t : Scope → Sx} (d : Defs) (mt : Scope → Sx → Sa) → EmitsEx (Knows a.emitter.nodes d) a b e t
    → ((u : Sx) → Emits (Knows b.emitter.nodes d × StandsIn b e u) b n id (λ s. mt s u)) → Emits (Knows a.emitter.nodes d) a n id (λ s. mt s (t s))
after_known {a = o} {t = t'} d mt e h =
    let u = t' (scope_of o.emitter.scope) in
    let z = h u in
    follow (goes_ex e) (goes z) (λ k. at {t = λ s. mt s u} (goes_ex e) z (knows_on e.nodes k, e.is k))

-- arms, after what they look at
pub arms_two : {a b m n : ActEmitter} {e : ExprId} {i j id : ActId} {t : Sx} {u v : Scope → Sa} (d : Defs) (mk : ExprId → ActId → ActId → Act) (mt : Sx → Sa → Sa → Sa)
    → ((ts : List Sx) (us : List Sa) (x : ExprId) (y z : ActId) → act_decode ts us (mk x y z) ≡ mt (tree_in ts x) (act_in us y) (act_in us z))
    → Emits (Knows a.emitter.nodes d) a b i u → Emits (Knows b.emitter.nodes d) b m j v → Pushed m n id (mk e i j) → Emits (Knows a.emitter.nodes d × StandsIn a e t) a n id (λ s. mt t (u s) (v s))
arms_two d mk mt dec f g p =
    emits (goes_on (goes f) (goes g)) p (λ k. done_ex2 mk mt dec p (kept_ex (goes_on (goes f) (goes g)) k.1) (kept (goes g) (f.is k.0)) (at (goes f) g (knows_on f.nodes k.0)))

pub arms_one : {a m n : ActEmitter} {e : ExprId} {j id : ActId} {t : Sx} {v : Scope → Sa} (d : Defs) (mk : ExprId → ActId → Act) (mt : Sx → Sa → Sa)
    → ((ts : List Sx) (us : List Sa) (x : ExprId) (y : ActId) → act_decode ts us (mk x y) ≡ mt (tree_in ts x) (act_in us y))
    → Emits (Knows a.emitter.nodes d) a m j v → Pushed m n id (mk e j) → Emits (Knows a.emitter.nodes d × StandsIn a e t) a n id (λ s. mt t (v s))
arms_one d mk mt dec g p = with_ex mk mt dec (λ k. k.1) g (λ k. k.0) p

pub as_arms : {L : Type 0} {a n : ActEmitter} {id : ActId} (d : Defs) (t : Sx) (r q : ActArms) → q ≡ r → Emits L a n id (λ s. arms_tree d s t r) → Emits L a n id (λ s. arms_tree d s t q)
as_arms {L = l} {a = o} {n = m} {id = i} d t r q e h = subst (λ z. Emits l o m i (λ s. arms_tree d s t z)) (sym e) h

pub closes_all : {L : Type 0} {a b : ActEmitter} {id : ActId} (os : List Opened) (i : ℕ) (t : Sa) → i ≤ 0 → Emits L a b id (λ s. wrap_all (drop i os) t) → Emits L a b id (λ s. wrap_all os t)
closes_all os zero t l h = h
closes_all os (suc i) t l h = absurd (omega arith)

-- ---- actions of the script

pub as_core : {L : Type 0} {a n : ActEmitter} {id : ActId} {p q : Core} (d : Defs) → q ≡ p → Emits L a n id (λ s. core_tree d s p) → Emits L a n id (λ s. core_tree d s q)
as_core {L = l} {a = o} {n = m} {id = i} d e h = subst (λ z. Emits l o m i (λ s. core_tree d s z)) (sym e) h

pub as_action : {L : Type 0} {a n : ActEmitter} {id : ActId} (d : Defs) (r q : SurfaceAction) → q ≡ r → Emits L a n id (λ s. action_tree d s r) → Emits L a n id (λ s. action_tree d s q)
as_action d r q e h = as_core d (ap core e) h

pub as_case : {L : Type 0} {a n : ActEmitter} {id : ActId} (d : Defs) (p : Pos) (e : Ex) (q : ActArms) → Emits L a n id (λ s. arms_tree d s (slotted (roots d) s e) q) → Emits L a n id (λ s. action_tree d s (case_act p e q))
as_case d p e (maybe_acts a x b) h = h
as_case d p e (either_acts x a y b) h = h
as_case d p e (list_acts a x y b) h = h
as_case d p e (pair_acts x y a) h = h
