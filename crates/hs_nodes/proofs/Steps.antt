-- Steps of emitting: nodes after nodes, and one node more.
use Rattle.std.proofs.Common.{◌≡◌, ℕ, suc, ◌+◌, ◌-◌, ◌<◌, List, [], ◌∷◌, ◌++◌, length, drop, get_or, refl, ap, ◌∙◌, sym, subst, arith, append_assoc, length-append}
use Rattle.std.proofs.Math.Seq.{drop-cons}
use Rattle.std.proofs.lemmas.List.{append-nil}
use Rattle.std.proofs.lemmas.Result.{IfOk-weaker}
use Rattle.std.specs.Prelude.{Result, IfOk}
use Rattle.hs_base.specs.declared.pos.Pos.{Pos}
use Rattle.hs_base.specs.declared.tree.expr.Expr.{Expr}
use Rattle.hs_base.specs.declared.tree.expr.Link.{Link}
use Rattle.hs_base.specs.declared.tree.expr.ListLink.{ListLink}
use Rattle.hs_base.specs.declared.tree.expr.SumLink.{SumLink}
use Rattle.hs_base.specs.declared.tree.forms.BinaryForm.{BinaryForm}
use Rattle.rules_expansion.specs.trees.Trees.{Ex, Links, Arms, more, link, ex_of, exs_of, links_of, sum_links_of, list_links_of, sum_form, cons_form}
use Rattle.rules_code.specs.declared.node.ExprId.{ExprId}
use Rattle.rules_code.specs.declared.node.NodeLink.{NodeLink}
use Rattle.rules_code.specs.declared.node.Node.{Node}
use Rattle.rules_code.specs.Slots.{Scope}
use Rattle.hs_nodes.specs.declared.names.ScopedName.{ScopedName}
use Rattle.hs_nodes.specs.declared.places.Place.{Place}
use Rattle.hs_nodes.specs.declared.emitter.Emitter.{Emitter}
use Rattle.hs_nodes.specs.Names.{name_of, scope_of}
use Rattle.hs_nodes.specs.Emitting.{last_at, own1, own2, own3, nodes_of, all_nodes, ids_of, link_nodes, node_links, arm_nodes, Emitted}
use Rattle.hs_nodes.proofs.Scopes.{scope-push}

-- one node more, as `add` says it
abbrev pub IsAdded : Emitter → Emitter → Node → ExprId → Type 0
IsAdded a b k id = (id.0 ≡ length a.nodes) × (b.nodes ≡ a.nodes ++ k ∷ []) × (b.scope ≡ a.scope)

-- some nodes, and then one more
pub ended : (a b c : Emitter) (id : ExprId) (xs : List Node) (k : Node) → b.nodes ≡ a.nodes ++ xs → b.scope ≡ a.scope → IsAdded b c k id → Emitted a c id (xs ++ k ∷ [])
ended a b c id xs k n s w = record {
  nodes = w.1 ∙ (ap (λ z. z ++ k ∷ []) n ∙ append_assoc a.nodes xs (k ∷ []));
  scope = w.2 ∙ s;
  last = (
      let l = ap length n in
      let g = length-append a.nodes xs in
      let h = length-append xs (k ∷ []) in
      let i = w.0 in
      let e : id.0 ≡ length a.nodes + length (xs ++ k ∷ []) - 1 = omega (arith, l, g, h, i) in ap (λ m. record { 0 = m }) e);
}

pub all_ended : {E : Type 0} (r : Result ExprId E) (a b c : Emitter) (xs : List Node) (k : Node) → b.nodes ≡ a.nodes ++ xs → b.scope ≡ a.scope → IfOk r (IsAdded b c k) → IfOk r (λ id. Emitted a c id (xs ++ k ∷ []))
all_ended r a b c xs k n s h = IfOk-weaker r (IsAdded b c k) (λ id. Emitted a c id (xs ++ k ∷ [])) (λ id w. ended a b c id xs k n s w) h

-- one node alone
pub alone : {E : Type 0} (r : Result ExprId E) (a c : Emitter) (k : Node) → IfOk r (IsAdded a c k) → IfOk r (λ id. Emitted a c id (k ∷ []))
alone r a c k h = all_ended r a a c [] k (let z : a.nodes ++ [] ≡ a.nodes = append-nil a.nodes in sym z) refl h

-- a node of one part
pub owned : {E : Type 0} (r : Result ExprId E) (a b c : Emitter) (i : ExprId) (xs : List Node) (k : ExprId → Node) → Emitted a b i xs → IfOk r (IsAdded b c (k i)) → IfOk r (λ id. Emitted a c id (own1 (length a.nodes) xs k))
owned r a b c i xs k p h = subst (λ j. IfOk r (λ id. Emitted a c id (xs ++ k j ∷ []))) p.last (all_ended r a b c xs (k i) p.nodes p.scope h)

-- the number of nodes after some more
pub counted : (a b : Emitter) (xs : List Node) → b.nodes ≡ a.nodes ++ xs → length b.nodes ≡ length a.nodes + length xs
counted a b xs n = ap length n ∙ length-append a.nodes xs

-- nodes after nodes
pub following : (a b c : Emitter) (id : ExprId) (xs ys : List Node) → b.nodes ≡ a.nodes ++ xs → b.scope ≡ a.scope → Emitted b c id ys → Emitted a c id (xs ++ ys)
following a b c id xs ys n s q = record {
  nodes = q.nodes ∙ (ap (λ z. z ++ ys) n ∙ append_assoc a.nodes xs ys);
  scope = q.scope ∙ s;
  last = q.last ∙ (
      let l = counted a b xs n in
      let g = length-append xs ys in
      let e : length b.nodes + length ys - 1 ≡ length a.nodes + length (xs ++ ys) - 1 = omega (arith, l, g) in ap (λ m. record { 0 = m }) e);
}

-- what goes by the scope and the number of nodes that are there, after some nodes
pub following_by : {E : Type 0} (r : Result ExprId E) (a b c : Emitter) (i : ExprId) (xs : List Node) (ys : ExprId → Scope → ℕ → List Node) → Emitted a b i xs
    → IfOk r (λ id. Emitted b c id (ys i (scope_of b.scope) (length b.nodes)))
    → IfOk r (λ id. Emitted a c id (xs ++ ys (last_at (length a.nodes) xs) (scope_of a.scope) (length a.nodes + length xs)))
following_by r a b c i xs ys p h =
    let e : ys i (scope_of b.scope) (length b.nodes) ≡ ys (last_at (length a.nodes) xs) (scope_of a.scope) (length a.nodes + length xs) =
    ap (λ j. ys j (scope_of b.scope) (length b.nodes)) p.last ∙ (ap (λ z. ys (last_at (length a.nodes) xs) (scope_of z) (length b.nodes)) p.scope ∙ ap (ys (last_at (length a.nodes) xs) (scope_of a.scope)) (counted a b xs p.nodes)) in
    subst (λ z. IfOk r (λ id. Emitted a c id (xs ++ z))) e
    (IfOk-weaker r (λ id. Emitted b c id (ys i (scope_of b.scope) (length b.nodes))) (λ id. Emitted a c id (xs ++ ys i (scope_of b.scope) (length b.nodes))) (λ id q. following a b c id xs _ p.nodes p.scope q) h)

-- the same where the last of those nodes stands behind them
pub behind : {E : Type 0} (r : Result ExprId E) (a b c : Emitter) (i : ExprId) (xs : List Node) (ys : Scope → ℕ → List Node) (k : ExprId → Scope → ℕ → Node) → Emitted a b i xs
    → IfOk r (λ id. Emitted b c id (ys (scope_of b.scope) (length b.nodes) ++ k i (scope_of b.scope) (length b.nodes) ∷ []))
    → IfOk r (λ id. Emitted a c id ((xs ++ ys (scope_of a.scope) (length a.nodes + length xs)) ++ k (last_at (length a.nodes) xs) (scope_of a.scope) (length a.nodes + length xs) ∷ []))
behind r a b c i xs ys k p h =
    subst (λ z. IfOk r (λ id. Emitted a c id z)) (sym (append_assoc xs (ys (scope_of a.scope) (length a.nodes + length xs)) (k (last_at (length a.nodes) xs) (scope_of a.scope) (length a.nodes + length xs) ∷ [])))
    (following_by r a b c i xs (λ j s m. ys s m ++ k j s m ∷ []) p h)

-- a node of two parts
pub two : {E : Type 0} (r : Result ExprId E) (a b c : Emitter) (i : ExprId) (xs : List Node) (ys : Scope → ℕ → List Node) (k : ExprId → ExprId → Node) → Emitted a b i xs
    → IfOk r (λ id. Emitted b c id (own1 (length b.nodes) (ys (scope_of b.scope) (length b.nodes)) (k i)))
    → IfOk r (λ id. Emitted a c id (own2 (length a.nodes) xs (ys (scope_of a.scope) (length a.nodes + length xs)) k))
two r a b c i xs ys k p h = behind r a b c i xs ys (λ j s m. k j (last_at m (ys s m))) p h

-- a node of three parts
pub three : {E : Type 0} (r : Result ExprId E) (a b c d : Emitter) (i j : ExprId) (xs : List Node) (ys zs : Scope → ℕ → List Node) (k : ExprId → ExprId → ExprId → Node) → Emitted a b i xs
    → Emitted b c j (ys (scope_of b.scope) (length b.nodes))
    → IfOk r (λ id. Emitted c d id (own1 (length c.nodes) (zs (scope_of c.scope) (length c.nodes)) (k i j)))
    → IfOk r (λ id. Emitted a d id (own3 (length a.nodes) xs (ys (scope_of a.scope) (length a.nodes + length xs)) (zs (scope_of a.scope) (length a.nodes + length xs + length (ys (scope_of a.scope) (length a.nodes + length xs)))) k))
three r a b c d i j xs ys zs k p q h =
    let s = scope_of a.scope in
    let m = length a.nodes + length xs in
    let whole : List Node = zs s (m + length (ys s m)) in
    let last : Node = k (last_at (length a.nodes) xs) (last_at m (ys s m)) (last_at (m + length (ys s m)) whole) in
    subst (λ z. IfOk r (λ id. Emitted a d id (z ++ last ∷ []))) (sym (append_assoc xs (ys s m) whole))
    (behind r a b d i xs (λ t n. ys t n ++ zs t (n + length (ys t n))) (λ x t n. k x (last_at n (ys t n)) (last_at (n + length (ys t n)) (zs t (n + length (ys t n))))) p
    (two r b c d j (ys (scope_of b.scope) (length b.nodes)) zs (k i) q h))

-- ---- under a name

pub under : (a b c : Emitter) (id : ExprId) (x : ScopedName) (ss : List ScopedName) (ys : Scope → ℕ → List Node) → b.nodes ≡ a.nodes → b.scope ≡ a.scope ++ x ∷ [] → Emitted b c id (ys (scope_of b.scope) (length b.nodes))
    → ((us : List ScopedName) (y : ScopedName) → c.scope ≡ us ++ y ∷ [] → ss ≡ us) → Emitted a (record { nodes = c.nodes; scope = ss }) id (ys (name_of x ∷ scope_of a.scope) (length a.nodes))
under a b c id x ss ys n s q off =
    let e : ys (scope_of b.scope) (length b.nodes) ≡ ys (name_of x ∷ scope_of a.scope) (length a.nodes) =
    ap (λ z. ys (scope_of z) (length b.nodes)) s ∙ (ap (λ z. ys z (length b.nodes)) (scope-push a.scope x) ∙ ap (λ z. ys (name_of x ∷ scope_of a.scope) (length z)) n) in
    record {
      nodes = q.nodes ∙ (ap (λ z. z ++ ys (scope_of b.scope) (length b.nodes)) n ∙ ap (λ z. a.nodes ++ z) e);
      scope = off a.scope x (q.scope ∙ s);
      last = q.last ∙ (ap (λ z. last_at (length z) (ys (scope_of b.scope) (length b.nodes))) n ∙ ap (last_at (length a.nodes)) e);
    }

-- ---- an expression as its clean tree

pub as_form : {E : Type 0} (r : Result ExprId E) (a c : Emitter) (rs : List Place) (e f : Ex) → e ≡ f → IfOk r (λ id. Emitted a c id (nodes_of rs (scope_of a.scope) (length a.nodes) f)) → IfOk r (λ id. Emitted a c id (nodes_of rs (scope_of a.scope) (length a.nodes) e))
as_form r a c rs e f q h = subst (λ z. IfOk r (λ id. Emitted a c id (nodes_of rs (scope_of a.scope) (length a.nodes) z))) (sym q) h

pub as_arms : {E : Type 0} (r : Result ExprId E) (a c : Emitter) (rs : List Place) (j : ExprId) (e f : Arms) → e ≡ f → IfOk r (λ id. Emitted a c id (arm_nodes rs (scope_of a.scope) (length a.nodes) j f)) → IfOk r (λ id. Emitted a c id (arm_nodes rs (scope_of a.scope) (length a.nodes) j e))
as_arms r a c rs j e f q h = subst (λ z. IfOk r (λ id. Emitted a c id (arm_nodes rs (scope_of a.scope) (length a.nodes) j z))) (sym q) h

-- ---- loops

exs-drop : (es : List Expr) (i : ℕ) (e : Expr) → i < length es → e ≡ get_or es i e → exs_of (drop i es) ≡ more (ex_of e) (exs_of (drop (i + 1) es))
exs-drop es i e lt is = ap exs_of (drop-cons es i e lt ∙ (ap (λ z. z ∷ drop (suc i) es) (sym is) ∙ ap (λ j. e ∷ drop j es) (let z : suc i ≡ i + 1 = omega arith in z)))

pub links-drop : (f : BinaryForm) (ks : List Link) (i : ℕ) (k : Link) → i < length ks → k ≡ get_or ks i k → links_of f (drop i ks) ≡ link f k.pos (ex_of k.operand) (links_of f (drop (i + 1) ks))
links-drop f ks i k lt is = ap (links_of f) (drop-cons ks i k lt ∙ (ap (λ z. z ∷ drop (suc i) ks) (sym is) ∙ ap (λ j. k ∷ drop j ks) (let z : suc i ≡ i + 1 = omega arith in z)))

pub sum_links-drop : (ks : List SumLink) (i : ℕ) (k : SumLink) → i < length ks → k ≡ get_or ks i k → sum_links_of (drop i ks) ≡ link (sum_form k.op) k.pos (ex_of k.operand) (sum_links_of (drop (i + 1) ks))
sum_links-drop ks i k lt is = ap sum_links_of (drop-cons ks i k lt ∙ (ap (λ z. z ∷ drop (suc i) ks) (sym is) ∙ ap (λ j. k ∷ drop j ks) (let z : suc i ≡ i + 1 = omega arith in z)))

pub list_links-drop : (ks : List ListLink) (i : ℕ) (k : ListLink) → i < length ks → k ≡ get_or ks i k → list_links_of (drop i ks) ≡ link (cons_form k.op) k.pos (ex_of k.operand) (list_links_of (drop (i + 1) ks))
list_links-drop ks i k lt is = ap list_links_of (drop-cons ks i k lt ∙ (ap (λ z. z ∷ drop (suc i) ks) (sym is) ∙ ap (λ j. k ∷ drop j ks) (let z : suc i ≡ i + 1 = omega arith in z)))

-- what an expression adds, in the scope of the beginning
in_scope : (a b c : Emitter) (id : ExprId) (rs : List Place) (e : Ex) → b.scope ≡ a.scope → Emitted b c id (nodes_of rs (scope_of b.scope) (length b.nodes) e) → Emitted b c id (nodes_of rs (scope_of a.scope) (length b.nodes) e)
in_scope a b c id rs e s q = subst (λ z. Emitted b c id (nodes_of rs (scope_of z) (length b.nodes) e)) s q

-- nodes behind those that are there, once the first of them are added
onward : (b c : Emitter) (xs : List Node) (ys : ℕ → List Node) → c.nodes ≡ b.nodes ++ xs → c.nodes ++ ys (length c.nodes) ≡ b.nodes ++ (xs ++ ys (length b.nodes + length xs))
onward b c xs ys n = ap (λ m. c.nodes ++ ys m) (counted b c xs n) ∙ (ap (λ z. z ++ ys (length b.nodes + length xs)) n ∙ append_assoc b.nodes xs (ys (length b.nodes + length xs)))

pub all_step : (a b c : Emitter) (id : ExprId) (rs : List Place) (es : List Expr) (i : ℕ) (e : Expr) (is js : List ExprId) (whole : List Node) (ids : List ExprId) → b.scope ≡ a.scope → i < length es → e ≡ get_or es i e
    → b.nodes ++ all_nodes rs (scope_of a.scope) (length b.nodes) (exs_of (drop i es)) ≡ whole → is ++ ids_of rs (scope_of a.scope) (length b.nodes) (exs_of (drop i es)) ≡ ids
    → Emitted b c id (nodes_of rs (scope_of b.scope) (length b.nodes) (ex_of e)) → js ≡ is ++ id ∷ []
    → (c.nodes ++ all_nodes rs (scope_of a.scope) (length c.nodes) (exs_of (drop (i + 1) es)) ≡ whole) × (js ++ ids_of rs (scope_of a.scope) (length c.nodes) (exs_of (drop (i + 1) es)) ≡ ids)
all_step a b c id rs es i e is js whole ids s lt at n h q g =
    let sc = scope_of a.scope in
    let d = exs-drop es i e lt at in
    let p = in_scope a b c id rs (ex_of e) s q in
    let xs = nodes_of rs sc (length b.nodes) (ex_of e) in
    let rest = exs_of (drop (i + 1) es) in (
      onward b c xs (λ m. all_nodes rs sc m rest) p.nodes ∙ (ap (λ z. b.nodes ++ all_nodes rs sc (length b.nodes) z) (sym d) ∙ n),
      ap (λ z. z ++ ids_of rs sc (length c.nodes) rest) g ∙ (append_assoc is (id ∷ []) (ids_of rs sc (length c.nodes) rest)
          ∙ (ap (λ m. is ++ id ∷ ids_of rs sc m rest) (counted b c xs p.nodes) ∙ (ap (λ j. is ++ j ∷ ids_of rs sc (length b.nodes + length xs) rest) p.last ∙ (ap (λ z. is ++ ids_of rs sc (length b.nodes) z) (sym d) ∙ h)))),
    )

pub link_step : (a b c : Emitter) (id : ExprId) (rs : List Place) (f g : BinaryForm) (p : Pos) (e : Ex) (now rest : Links) (is js : List NodeLink) (whole : List Node) (ks : List NodeLink) → b.scope ≡ a.scope → now ≡ link f p e rest → g ≡ f
    → b.nodes ++ link_nodes rs (scope_of a.scope) (length b.nodes) now ≡ whole → is ++ node_links rs (scope_of a.scope) (length b.nodes) now ≡ ks
    → Emitted b c id (nodes_of rs (scope_of b.scope) (length b.nodes) e) → js ≡ is ++ record { form = g; operand = id } ∷ []
    → (c.nodes ++ link_nodes rs (scope_of a.scope) (length c.nodes) rest ≡ whole) × (js ++ node_links rs (scope_of a.scope) (length c.nodes) rest ≡ ks)
link_step a b c id rs f g p e now rest is js whole ks s d o n h q j =
    let sc = scope_of a.scope in
    let w = in_scope a b c id rs e s q in
    let xs = nodes_of rs sc (length b.nodes) e in
    let own : NodeLink = record { form = g; operand = id } in
    let o' : own ≡ record { form = f; operand = last_at (length b.nodes) xs } = ap (λ z. record { form = z; operand = id }) o ∙ ap (λ z. record { form = f; operand = z }) w.last in (
      onward b c xs (λ m. link_nodes rs sc m rest) w.nodes ∙ (ap (λ z. b.nodes ++ link_nodes rs sc (length b.nodes) z) (sym d) ∙ n),
      ap (λ z. z ++ node_links rs sc (length c.nodes) rest) j ∙ (append_assoc is (own ∷ []) (node_links rs sc (length c.nodes) rest)
          ∙ (ap (λ m. is ++ own ∷ node_links rs sc m rest) (counted b c xs w.nodes) ∙ (ap (λ k. is ++ k ∷ node_links rs sc (length b.nodes + length xs) rest) o' ∙ (ap (λ z. is ++ node_links rs sc (length b.nodes) z) (sym d) ∙ h)))),
    )
