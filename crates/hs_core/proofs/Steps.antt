-- Steps of the expansion in a row.
use Rattle.std.proofs.Common.{◌≡◌, ℕ, ◌+◌, List, [], ◌∷◌, ◌++◌, length, refl, ap, ◌∙◌, sym, subst, arith, length-append}
use Rattle.rules_code.specs.declared.node.Node.{Node}
use Rattle.rules_code.specs.declared.node.ExprId.{ExprId}
use Rattle.rules_code.specs.declared.act.ActId.{ActId}
use Rattle.rules_code.specs.declared.act.Act.{Act}
use Rattle.rules_code.specs.declared.act.Act.TheVariants as c
use Rattle.rules_expansion.specs.declared.primitive.Primitive as named
use Rattle.rules_code.specs.Slots.{Sx, Sxs, s_none, s_more, Scope, slotted, slotted_all, decode, trees, tree_in, trees_in, tree_at}
use Rattle.rules_code.specs.CodeTrees.{Sa, a_perform, a_restore, a_call, place_among, act_in, act_decode, act_trees, act_tree_at}
use Rattle.rules_code.proofs.Arena.{tree_at-more, tree_at-last}
use Rattle.hs_nodes.specs.declared.emitter.Emitter.{Emitter}
use Rattle.hs_nodes.specs.declared.names.ScopedName.{ScopedName}
use Rattle.hs_nodes.specs.Names.{name_of, scope_of}
use Rattle.hs_nodes.specs.Standing.{Stands, AllStand}
use Rattle.hs_nodes.proofs.Scopes.{scope-push}
use Rattle.hs_nodes.specs.Emitting.{nodes_of, all_nodes, ids_of, Emitted}
use Rattle.hs_nodes.proofs.Emitted.{all_trees, at_end, emitted, emitted_all}
use Rattle.rules_expansion.specs.trees.Trees.{Ex, Exs}
use Rattle.hs_core.specs.declared.defs.Defs.{Defs}
use Rattle.hs_core.specs.Numbering.{names_of, index_among}
use Rattle.hs_core.specs.Defining.{Knows, roots, functions}
use Rattle.rules_expansion.specs.Core.{ActionFunction}
use Rattle.std.specs.Prelude.{cond, bytes_eq}
use Rattle.hs_core.specs.declared.emitter.ActEmitter.{ActEmitter}
use Rattle.hs_core.specs.Emits.{Grows, DoneIn, StandsIn, AllStandIn, Emits, EmitsEx, EmitsAll, Pushed}
use Rattle.hs_core.proofs.ActArena.{act_tree_at-last, grows_same, grows_by, grows_on, stands_on, all_stand_on, done_on}

-- ---- what every step keeps

pub record Goes (old new : ActEmitter) : Type 0 where
  pub nodes : Grows Node old.emitter.nodes new.emitter.nodes
  pub acts : Grows Act old.acts new.acts
  pub scope : new.emitter.scope ≡ old.emitter.scope

pub goes : {K : Type 0} {a b : ActEmitter} {i : ActId} {t : Scope → Sa} → Emits K a b i t → Goes a b
goes e = record { nodes = e.nodes; acts = e.acts; scope = e.scope }

pub goes_ex : {K : Type 0} {a b : ActEmitter} {i : ExprId} {t : Scope → Sx} → EmitsEx K a b i t → Goes a b
goes_ex e = record { nodes = e.nodes; acts = grows_same e.acts; scope = e.scope }

pub goes_all : {K : Type 0} {a b : ActEmitter} {i : List ExprId} {t : Scope → Sxs} → EmitsAll K a b i t → Goes a b
goes_all e = record { nodes = e.nodes; acts = grows_same e.acts; scope = e.scope }

pub goes_push : {a b : ActEmitter} {i : ActId} {k : Act} → Pushed a b i k → Goes a b
goes_push {k = l} p = record { nodes = grows_same (ap (λ z. z.nodes) p.emitter); acts = grows_by (l ∷ []) p.acts; scope = ap (λ z. z.scope) p.emitter }

pub goes_on : {a b d : ActEmitter} → Goes a b → Goes b d → Goes a d
goes_on g h = record { nodes = grows_on g.nodes h.nodes; acts = grows_on g.acts h.acts; scope = h.scope ∙ g.scope }

pub kept : {a b : ActEmitter} {i : ActId} {t : Sa} → Goes a b → DoneIn a i t → DoneIn b i t
kept g h = done_on g.nodes g.acts h

pub kept_ex : {a b : ActEmitter} {i : ExprId} {t : Sx} → Goes a b → StandsIn a i t → StandsIn b i t
kept_ex g h = stands_on g.nodes h

-- a later step's tree, in the scope of an earlier state
pub at : {K : Type 0} {a b d : ActEmitter} {i : ActId} {t : Scope → Sa} → Goes a b → Emits K b d i t → K → DoneIn d i (t (scope_of a.emitter.scope))
at {d = n} {i = j} {t = u} g e k = subst (λ z. DoneIn n j (u (scope_of z))) g.scope (e.is k)

pub at_ex : {K : Type 0} {a b d : ActEmitter} {i : ExprId} {t : Scope → Sx} → Goes a b → EmitsEx K b d i t → K → StandsIn d i (t (scope_of a.emitter.scope))
at_ex {d = n} {i = j} {t = u} g e k = subst (λ z. StandsIn n j (u (scope_of z))) g.scope (e.is k)

pub weaken : {K L : Type 0} {a b : ActEmitter} {i : ActId} {t : Scope → Sa} → (L → K) → Emits K a b i t → Emits L a b i t
weaken f e = record { nodes = e.nodes; acts = e.acts; scope = e.scope; is = λ k. e.is (f k) }

-- ---- one node more

-- an expression's node
pub leaf : {K : Type 0} (old : ActEmitter) (mid : Emitter) (id : ExprId) (k : Node) (t : Scope → Sx)
    → (id.0 ≡ length old.emitter.nodes) × (mid.nodes ≡ old.emitter.nodes ++ k ∷ []) × (mid.scope ≡ old.emitter.scope)
    → (K → decode (trees old.emitter.nodes) k ≡ t (scope_of old.emitter.scope))
    → EmitsEx K old (record { emitter = mid; acts = old.acts }) id t
leaf old mid id k t h e = record {
  nodes = grows_by (k ∷ []) h.1;
  acts = refl;
  scope = h.2;
  is = (λ g. record {
    below = (let l = length-append old.emitter.nodes (k ∷ []) in let m : length mid.nodes ≡ length (old.emitter.nodes ++ k ∷ []) = ap length h.1 in let z = h.0 in omega (arith, l, m, z));
    is = ap (λ z. tree_at z id) h.1 ∙ (tree_at-last old.emitter.nodes k id h.0 ∙ e g);
  });
}

pub pushed : {a b : ActEmitter} {id : ActId} {k : Act} {t : Sa} → Pushed a b id k
    → ((more : List Node) → act_decode (trees (a.emitter.nodes ++ more)) (act_trees (a.emitter.nodes ++ more) a.acts) k ≡ t)
    → DoneIn b id t
pushed {a = o} {b = n} {id = j} {k = l} p h = record {
  below = (let e = length-append o.acts (l ∷ []) in let m : length n.acts ≡ length (o.acts ++ l ∷ []) = ap length p.acts in let z = p.id_is in omega (arith, e, m, z));
  is = (λ more. ap (λ z. act_tree_at (z.nodes ++ more) n.acts j) p.emitter ∙ (ap (λ z. act_tree_at (o.emitter.nodes ++ more) z j) p.acts ∙ (act_tree_at-last (o.emitter.nodes ++ more) o.acts l j p.id_is ∙ h more)));
}

pub read_at : (a : ActEmitter) {i : ExprId} {t : Sx} → StandsIn a i t → (more : List Node) → tree_in (trees (a.emitter.nodes ++ more)) i ≡ t
read_at o {i = j} h more = tree_at-more o.emitter.nodes more j h.below ∙ h.is

pub emits : {K : Type 0} {a b d : ActEmitter} {id : ActId} {k : Act} {t : Scope → Sa} → Goes a b → Pushed b d id k → (K → DoneIn d id (t (scope_of a.emitter.scope))) → Emits K a d id t
emits g p h = let w = goes_on g (goes_push p) in record { nodes = w.nodes; acts = w.acts; scope = w.scope; is = h }

pub stays : {a : ActEmitter} → Goes a a
stays = record { nodes = grows_same refl; acts = grows_same refl; scope = refl }

-- where what is given can't be
pub never : {L : Type 0} {a d : ActEmitter} {id : ActId} {k : Act} {t : Scope → Sa} → (L → ⊥) → Pushed a d id k → Emits L a d id t
never f p = emits stays p (λ k. absurd (f k))

-- nodes by their parts
pub done1 : {a b : ActEmitter} {id i : ActId} {t : Sa} (mk : ActId → Act) (mt : Sa → Sa) → ((ts : List Sx) (us : List Sa) (x : ActId) → act_decode ts us (mk x) ≡ mt (act_in us x))
    → Pushed a b id (mk i) → DoneIn a i t → DoneIn b id (mt t)
done1 {i = j} mk mt dec p h = pushed p (λ more. dec _ _ j ∙ ap mt (h.is more))

done2 : {a b : ActEmitter} {id i j : ActId} {t u : Sa} (mk : ActId → ActId → Act) (mt : Sa → Sa → Sa) → ((ts : List Sx) (us : List Sa) (x y : ActId) → act_decode ts us (mk x y) ≡ mt (act_in us x) (act_in us y))
    → Pushed a b id (mk i j) → DoneIn a i t → DoneIn a j u → DoneIn b id (mt t u)
done2 {a = o} {i = i'} {j = j'} {t = t'} mk mt dec p h g =
    pushed p (λ more. dec _ _ i' j' ∙ (ap (λ z. mt z (act_tree_at (o.emitter.nodes ++ more) o.acts j')) (h.is more) ∙ ap (mt t') (g.is more)))

done_ex : {a b : ActEmitter} {id : ActId} {i : ExprId} {t : Sx} (mk : ExprId → Act) (mt : Sx → Sa) → ((ts : List Sx) (us : List Sa) (x : ExprId) → act_decode ts us (mk x) ≡ mt (tree_in ts x))
    → Pushed a b id (mk i) → StandsIn a i t → DoneIn b id (mt t)
done_ex {a = o} {i = j} mk mt dec p h = pushed p (λ more. dec _ _ j ∙ ap mt (read_at o h more))

done_ex1 : {a b : ActEmitter} {id : ActId} {i : ExprId} {j : ActId} {t : Sx} {u : Sa} (mk : ExprId → ActId → Act) (mt : Sx → Sa → Sa) → ((ts : List Sx) (us : List Sa) (x : ExprId) (y : ActId) → act_decode ts us (mk x y) ≡ mt (tree_in ts x) (act_in us y))
    → Pushed a b id (mk i j) → StandsIn a i t → DoneIn a j u → DoneIn b id (mt t u)
done_ex1 {a = o} {i = i'} {j = j'} {t = t'} mk mt dec p h g =
    pushed p (λ more. dec _ _ i' j' ∙ (ap (λ z. mt z (act_tree_at (o.emitter.nodes ++ more) o.acts j')) (read_at o h more) ∙ ap (mt t') (g.is more)))

pub done_ex2 : {a b : ActEmitter} {id : ActId} {e : ExprId} {i j : ActId} {t : Sx} {u v : Sa} (mk : ExprId → ActId → ActId → Act) (mt : Sx → Sa → Sa → Sa)
    → ((ts : List Sx) (us : List Sa) (x : ExprId) (y z : ActId) → act_decode ts us (mk x y z) ≡ mt (tree_in ts x) (act_in us y) (act_in us z))
    → Pushed a b id (mk e i j) → StandsIn a e t → DoneIn a i u → DoneIn a j v → DoneIn b id (mt t u v)
done_ex2 {a = o} {e = e'} {i = i'} {j = j'} {t = t'} {u = u'} mk mt dec p h g f =
    pushed p (λ more. dec _ _ e' i' j' ∙ (ap (λ z. mt z (act_tree_at (o.emitter.nodes ++ more) o.acts i') (act_tree_at (o.emitter.nodes ++ more) o.acts j')) (read_at o h more)
    ∙ (ap (λ z. mt t' z (act_tree_at (o.emitter.nodes ++ more) o.acts j')) (g.is more) ∙ ap (mt t' u') (f.is more))))

-- ---- steps that end with a node

-- its part was made by the step before
pub one : {K L : Type 0} {a b d : ActEmitter} {id i : ActId} {t : Scope → Sa} (mk : ActId → Act) (mt : Sa → Sa) → ((ts : List Sx) (us : List Sa) (x : ActId) → act_decode ts us (mk x) ≡ mt (act_in us x))
    → Emits K a b i t → (L → K) → Pushed b d id (mk i) → Emits L a d id (λ s. mt (t s))
one mk mt dec e f p = emits (goes e) p (λ k. done1 mk mt dec p (e.is (f k)))

-- two parts
pub two : {K L M : Type 0} {a b d n : ActEmitter} {id i j : ActId} {t u : Scope → Sa} (mk : ActId → ActId → Act) (mt : Sa → Sa → Sa) → ((ts : List Sx) (us : List Sa) (x y : ActId) → act_decode ts us (mk x y) ≡ mt (act_in us x) (act_in us y))
    → Emits K a b i t → (L → K) → Emits M b d j u → (L → M) → Pushed d n id (mk i j) → Emits L a n id (λ s. mt (t s) (u s))
two mk mt dec e f g h p = emits (goes_on (goes e) (goes g)) p (λ k. done2 mk mt dec p (kept (goes g) (e.is (f k))) (at (goes e) g (h k)))

-- the first part stood before
pub first : {L M : Type 0} {a d n : ActEmitter} {id i j : ActId} {t : Sa} {u : Scope → Sa} (mk : ActId → ActId → Act) (mt : Sa → Sa → Sa) → ((ts : List Sx) (us : List Sa) (x y : ActId) → act_decode ts us (mk x y) ≡ mt (act_in us x) (act_in us y))
    → (L → DoneIn a i t) → Emits M a d j u → (L → M) → Pushed d n id (mk i j) → Emits L a n id (λ s. mt t (u s))
first mk mt dec f g h p = emits (goes g) p (λ k. done2 mk mt dec p (kept (goes g) (f k)) (g.is (h k)))

pub given2 : {L : Type 0} {a n : ActEmitter} {id i j : ActId} {t u : Sa} (mk : ActId → ActId → Act) (mt : Sa → Sa → Sa) → ((ts : List Sx) (us : List Sa) (x y : ActId) → act_decode ts us (mk x y) ≡ mt (act_in us x) (act_in us y))
    → (L → DoneIn a i t) → (L → DoneIn a j u) → Pushed a n id (mk i j) → Emits L a n id (λ s. mt t u)
given2 mk mt dec f g p = emits stays p (λ k. done2 mk mt dec p (f k) (g k))

-- an expression
pub of_ex : {K L : Type 0} {a b d : ActEmitter} {id : ActId} {i : ExprId} {t : Scope → Sx} (mk : ExprId → Act) (mt : Sx → Sa) → ((ts : List Sx) (us : List Sa) (x : ExprId) → act_decode ts us (mk x) ≡ mt (tree_in ts x))
    → EmitsEx K a b i t → (L → K) → Pushed b d id (mk i) → Emits L a d id (λ s. mt (t s))
of_ex mk mt dec e f p = emits (goes_ex e) p (λ k. done_ex mk mt dec p (e.is (f k)))

-- an expression that stood before, and an action
pub with_ex : {L M : Type 0} {a d n : ActEmitter} {id j : ActId} {i : ExprId} {t : Sx} {u : Scope → Sa} (mk : ExprId → ActId → Act) (mt : Sx → Sa → Sa) → ((ts : List Sx) (us : List Sa) (x : ExprId) (y : ActId) → act_decode ts us (mk x y) ≡ mt (tree_in ts x) (act_in us y))
    → (L → StandsIn a i t) → Emits M a d j u → (L → M) → Pushed d n id (mk i j) → Emits L a n id (λ s. mt t (u s))
with_ex mk mt dec f g h p = emits (goes g) p (λ k. done_ex1 mk mt dec p (kept_ex (goes g) (f k)) (g.is (h k)))

pub given_ex1 : {L : Type 0} {a n : ActEmitter} {id j : ActId} {i : ExprId} {t : Sx} {u : Sa} (mk : ExprId → ActId → Act) (mt : Sx → Sa → Sa) → ((ts : List Sx) (us : List Sa) (x : ExprId) (y : ActId) → act_decode ts us (mk x y) ≡ mt (tree_in ts x) (act_in us y))
    → (L → StandsIn a i t) → (L → DoneIn a j u) → Pushed a n id (mk i j) → Emits L a n id (λ s. mt t u)
given_ex1 mk mt dec f g p = emits stays p (λ k. done_ex1 mk mt dec p (f k) (g k))

-- a test and two branches
pub branches : {K L M N : Type 0} {a b d m n : ActEmitter} {id i j : ActId} {e : ExprId} {t : Scope → Sx} {u v : Scope → Sa} (mk : ExprId → ActId → ActId → Act) (mt : Sx → Sa → Sa → Sa)
    → ((ts : List Sx) (us : List Sa) (x : ExprId) (y z : ActId) → act_decode ts us (mk x y z) ≡ mt (tree_in ts x) (act_in us y) (act_in us z))
    → EmitsEx K a b e t → (L → K) → Emits M b d i u → (L → M) → Emits N d m j v → (L → N) → Pushed m n id (mk e i j) → Emits L a n id (λ s. mt (t s) (u s) (v s))
branches mk mt dec e f g h o q p =
    emits (goes_on (goes_ex e) (goes_on (goes g) (goes o))) p
    (λ k. done_ex2 mk mt dec p (kept_ex (goes_on (goes g) (goes o)) (e.is (f k))) (kept (goes o) (at (goes_ex e) g (h k))) (at (goes_on (goes_ex e) (goes g)) o (q k)))

-- a primitive
pub performs : {a b : ActEmitter} {id : ActId} (p : named.Primitive) (es : List ExprId) (ts : Sxs) → Pushed a b id (c.Perform p es) → Emits (AllStandIn a es ts) a b id (λ s. a_perform p ts)
performs {a = o} p es ts h =
    emits stays h (λ k. pushed h (λ more. ap (a_perform p) (all_trees (o.emitter.nodes ++ more) es ts (all_stand_on es ts (grows_by more refl) k))))

pub performed_one : {L : Type 0} {a b : ActEmitter} {id : ActId} (p : named.Primitive) (e : ExprId) (t : Sx) (es : List ExprId) → es ≡ e ∷ []
    → ((ts : Sxs) → Emits (AllStandIn a es ts) a b id (λ s. a_perform p ts)) → (L → StandsIn a e t) → Emits L a b id (λ s. a_perform p (s_more t s_none))
performed_one {a = o} p e t es eq h f = weaken (λ k. subst (λ z. AllStandIn o z (s_more t s_none)) (sym eq) (f k, tt)) (h (s_more t s_none))

pub performed_two : {L : Type 0} {a b : ActEmitter} {id : ActId} (p : named.Primitive) (e g : ExprId) (t u : Sx) (es : List ExprId) → es ≡ e ∷ g ∷ []
    → ((ts : Sxs) → Emits (AllStandIn a es ts) a b id (λ s. a_perform p ts)) → (L → StandsIn a e t) → (L → StandsIn a g u) → Emits L a b id (λ s. a_perform p (s_more t (s_more u s_none)))
performed_two {a = o} p e g t u es eq h f w = weaken (λ k. subst (λ z. AllStandIn o z (s_more t (s_more u s_none))) (sym eq) (f k, (w k, tt))) (h (s_more t (s_more u s_none)))

-- ---- names that are bound on the way

abbrev pub at_scope : ActEmitter → List ScopedName → ActEmitter
at_scope e s = record { emitter = record { nodes = e.emitter.nodes; scope = s }; acts = e.acts }

pub under : {K : Type 0} {id : ActId} {t : Scope → Sa} {wide narrow : List ScopedName} (old mid : ActEmitter) (h : ScopedName) → wide ≡ old.emitter.scope ++ h ∷ []
    → Emits K (at_scope old wide) mid id t
    → ((xs : List ScopedName) (x : ScopedName) → mid.emitter.scope ≡ xs ++ x ∷ [] → narrow ≡ xs)
    → Emits K old (at_scope mid narrow) id (λ s. t (name_of h ∷ s))
under {id = j} {t = u} old mid h eq e f = record {
  nodes = e.nodes;
  acts = e.acts;
  scope = f old.emitter.scope h (e.scope ∙ eq);
  is = (λ k. subst (λ z. DoneIn mid j (u z)) (ap scope_of eq ∙ scope-push old.emitter.scope h) (e.is k));
}

-- ---- expressions of the script

pub of_expr : (old : ActEmitter) (mid : Emitter) (id : ExprId) (d : Defs) (e : Ex) → Emitted old.emitter mid id (nodes_of d.places.all (scope_of old.emitter.scope) (length old.emitter.nodes) e)
    → EmitsEx (Knows old.emitter.nodes d) old (record { emitter = mid; acts = old.acts }) id (λ s. slotted (roots d) s e)
of_expr old mid id d e h =
    let s = scope_of old.emitter.scope in
    let ns = nodes_of d.places.all s (length old.emitter.nodes) e in
    record {
      nodes = grows_by ns h.nodes;
      acts = refl;
      scope = h.scope;
      is = (λ k. subst (λ z. Stands z id (slotted (roots d) s e)) (sym h.nodes)
          (subst (λ z. Stands (old.emitter.nodes ++ ns) z (slotted (roots d) s e)) (sym h.last)
          (at_end old.emitter.nodes ns (slotted (roots d) s e) (length old.emitter.nodes) refl (emitted d.places.all (roots d) s old.emitter.nodes (length old.emitter.nodes) refl k.places e))));
    }

-- ---- steps that take what earlier ones made

pub ex_after : {K L : Type 0} {a b d : ActEmitter} {e f : ExprId} {t : Scope → Sx} (mt : Sx → Sx) → EmitsEx K a b e t → (L → K)
    → ((u : Sx) → EmitsEx (StandsIn b e u) b d f (λ s. mt u)) → EmitsEx L a d f (λ s. mt (t s))
ex_after {a = o} {t = w} mt e g h =
    let u = w (scope_of o.emitter.scope) in
    let z = h u in
    record { nodes = grows_on e.nodes z.nodes; acts = z.acts ∙ e.acts; scope = z.scope ∙ e.scope; is = λ k. z.is (e.is (g k)) }

pub ex_after2 : {K L M : Type 0} {a b d n : ActEmitter} {e f i : ExprId} {t u : Scope → Sx} (mt : Sx → Sx → Sx) → EmitsEx K a b e t → (L → K) → EmitsEx M b d f u → (L → M)
    → ((v w : Sx) → EmitsEx (StandsIn d e v × StandsIn d f w) d n i (λ s. mt v w)) → EmitsEx L a n i (λ s. mt (t s) (u s))
ex_after2 {a = o} {t = t'} {u = u'} mt e g f h q =
    let s = scope_of o.emitter.scope in
    let z = q (t' s) (u' s) in
    record { nodes = grows_on e.nodes (grows_on f.nodes z.nodes); acts = z.acts ∙ (f.acts ∙ e.acts); scope = z.scope ∙ (f.scope ∙ e.scope); is = λ k. z.is (kept_ex (goes_ex f) (e.is (g k)), at_ex (goes_ex e) f (h k)) }

pub follow : {L : Type 0} {a b d : ActEmitter} {id : ActId} {t : Scope → Sa} → Goes a b → Goes b d → (L → DoneIn d id (t (scope_of a.emitter.scope))) → Emits L a d id t
follow g h f = let w = goes_on g h in record { nodes = w.nodes; acts = w.acts; scope = w.scope; is = f }

pub after_ex : {K L : Type 0} {a b n : ActEmitter} {e : ExprId} {id : ActId} {t : Scope → Sx} (mt : Sx → Sa) → EmitsEx K a b e t → (L → K)
    → ((u : Sx) → Emits (StandsIn b e u) b n id (λ s. mt u)) → Emits L a n id (λ s. mt (t s))
after_ex {a = o} {t = t'} mt e g h = let z = h (t' (scope_of o.emitter.scope)) in follow (goes_ex e) (goes z) (λ k. z.is (e.is (g k)))

pub after_ex2 : {K L M : Type 0} {a b d n : ActEmitter} {e f : ExprId} {id : ActId} {t u : Scope → Sx} (mt : Sx → Sx → Sa) → EmitsEx K a b e t → (L → K) → EmitsEx M b d f u → (L → M)
    → ((v w : Sx) → Emits (StandsIn d e v × StandsIn d f w) d n id (λ s. mt v w)) → Emits L a n id (λ s. mt (t s) (u s))
after_ex2 {a = o} {t = t'} {u = u'} mt e g f h q =
    let s = scope_of o.emitter.scope in
    let z = q (t' s) (u' s) in
    follow (goes_on (goes_ex e) (goes_ex f)) (goes z) (λ k. z.is (kept_ex (goes_ex f) (e.is (g k)), at_ex (goes_ex e) f (h k)))

pub after1 : {K L : Type 0} {a b n : ActEmitter} {i id : ActId} {t : Scope → Sa} (mt : Scope → Sa → Sa) → Emits K a b i t → (L → K)
    → ((u : Sa) → Emits (DoneIn b i u) b n id (λ s. mt s u)) → Emits L a n id (λ s. mt s (t s))
after1 {a = o} {t = t'} mt e g h = let u = t' (scope_of o.emitter.scope) in let z = h u in follow (goes e) (goes z) (λ k. at {t = λ s. mt s u} (goes e) z (e.is (g k)))

-- restore, with a slot that was looked up
pub restores : {a b : ActEmitter} {id i : ActId} (k : ℕ) (sl : Scope → ℕ) (t : Sa) → k ≡ sl (scope_of a.emitter.scope) → Pushed a b id (c.Restore k i) → Emits (DoneIn a i t) a b id (λ s. a_restore (sl s) t)
restores {a = o} {b = n} {id = j} k sl t e p = emits stays p (λ h. subst (λ z. DoneIn n j (a_restore z t)) e (done1 (c.Restore k) (a_restore k) (λ ts us x. refl) p h))

-- a primitive whose second expression is a literal
pub with_killed : {K : Type 0} {a b n : ActEmitter} {e f : ExprId} {id : ActId} {t : Sx} {u : Scope → Sx} (mt : Sx → Sx → Sa) → EmitsEx K a b f u → K
    → ((v w : Sx) → Emits (StandsIn b e v × StandsIn b f w) b n id (λ s. mt v w)) → Emits (StandsIn a e t) a n id (λ s. mt t (u s))
with_killed {a = o} {t = t'} {u = u'} mt g k h = let z = h t' (u' (scope_of o.emitter.scope)) in follow (goes_ex g) (goes z) (λ q. z.is (kept_ex (goes_ex g) q, g.is k))

pub of_exprs : (old : ActEmitter) (mid : Emitter) (ids : List ExprId) (d : Defs) (es : Exs)
    → (mid.nodes ≡ old.emitter.nodes ++ all_nodes d.places.all (scope_of old.emitter.scope) (length old.emitter.nodes) es) × (mid.scope ≡ old.emitter.scope) × (ids ≡ ids_of d.places.all (scope_of old.emitter.scope) (length old.emitter.nodes) es)
    → EmitsAll (Knows old.emitter.nodes d) old (record { emitter = mid; acts = old.acts }) ids (λ s. slotted_all (roots d) s es)
of_exprs old mid ids d es h =
    let s = scope_of old.emitter.scope in
    record {
      nodes = grows_by (all_nodes d.places.all s (length old.emitter.nodes) es) h.0;
      acts = refl;
      scope = h.1;
      is = (λ k. subst (λ z. AllStand z ids (slotted_all (roots d) s es)) (sym h.0)
          (subst (λ z. AllStand (old.emitter.nodes ++ all_nodes d.places.all s (length old.emitter.nodes) es) z (slotted_all (roots d) s es)) (sym h.2)
          (emitted_all d.places.all (roots d) s old.emitter.nodes (length old.emitter.nodes) refl k.places es)));
    }

-- ---- calls

pub index_is : (fs : List ActionFunction) (f : List ℕ) → index_among (names_of fs) f ≡ place_among fs f
index_is [] f = refl
index_is (d ∷ fs) f = ap (λ z. cond (bytes_eq f d.name) 0 (1 + z)) (index_is fs f)

pub calls : {a b n : ActEmitter} {ids : List ExprId} {id : ActId} {t : Scope → Sxs} (d : Defs) (f : List ℕ) (k : ℕ) → EmitsAll (Knows a.emitter.nodes d) a b ids t → k ≡ index_among d.actions f → Pushed b n id (c.Call k ids)
    → Emits (Knows a.emitter.nodes d) a n id (λ s. a_call (place_among (functions d) f) (t s))
calls {a = o} {b = m} {ids = is} {t = t'} d f k e eq p =
    let s = scope_of o.emitter.scope in
    emits (goes_all e) p (λ w. pushed p (λ more. ap (λ z. a_call z (trees_in (trees (m.emitter.nodes ++ more)) is)) (eq ∙ (ap (λ z. index_among z f) w.names ∙ index_is (functions d) f))
    ∙ ap (a_call (place_among (functions d) f)) (all_trees (m.emitter.nodes ++ more) is (t' s) (all_stand_on is (t' s) (grows_by more refl) (e.is w)))))
