-- The nodes of an expression: its parts' nodes, and then its own as the last.
use Rattle.std.specs.Prelude.{◌≡◌, ℕ, ◌+◌, ◌-◌, ◌==◌, List, [], ◌∷◌, ◌++◌, length, cond, Option, Some, None, bytes_eq, Result, IfOk}
use Rattle.hs_base.specs.declared.no_memory.NoMemory.{NoMemory}
use Rattle.rules_code.specs.declared.node.ExprId.{ExprId}
use Rattle.rules_code.specs.declared.node.NodeLink.{NodeLink}
use Rattle.rules_code.specs.declared.node.Node.{Node}
use Rattle.rules_code.specs.declared.node.Node.TheVariants as n
use Rattle.rules_expansion.specs.trees.Trees.{Ex, Exs, Links, Arms, Lit, number, letters, truth, nothing_more, exception, lit, name, unary, binary, chain, conses, choose, items, empty, side, given, case, none, more, end, link, maybe_arms, either_arms, list_arms, pair_arms}
use Rattle.rules_expansion.specs.Names.{Written}
use Rattle.rules_code.specs.Slots.{Scope, slot_of, count}
use Rattle.hs_nodes.specs.Names.{scope_of}
use Rattle.hs_nodes.specs.declared.places.Place.{Place}
use Rattle.hs_nodes.specs.declared.places.Places.{Places}
use Rattle.hs_nodes.specs.declared.emitter.Emitter.{Emitter}

-- the node of the body that a call with so many arguments means, or another number
abbrev pub place_of : List Place → List ℕ → ℕ → ExprId → ExprId
place_of [] f k d = d
place_of (r ∷ rs) f k d = cond (bytes_eq r.text f) (cond (r.params == k) r.node d) (place_of rs f k d)

-- the number of the last of some nodes that begin at a number
abbrev pub last_at : ℕ → List Node → ExprId
last_at i ns = record { 0 = i + length ns - 1 }

abbrev pub own1 : ℕ → List Node → (ExprId → Node) → List Node
own1 i xs k = xs ++ k (last_at i xs) ∷ []

abbrev pub own2 : ℕ → List Node → List Node → (ExprId → ExprId → Node) → List Node
own2 i xs ys k = (xs ++ ys) ++ k (last_at i xs) (last_at (i + length xs) ys) ∷ []

abbrev pub own3 : ℕ → List Node → List Node → List Node → (ExprId → ExprId → ExprId → Node) → List Node
own3 i xs ys zs k = ((xs ++ ys) ++ zs) ++ k (last_at i xs) (last_at (i + length xs) ys) (last_at (i + length xs + length ys) zs) ∷ []

abbrev pub literal_node : Lit → Node
literal_node (number m) = n.Int m
literal_node (letters t) = n.Text t
literal_node (truth t) = n.Bool t
literal_node nothing_more = n.Unit
literal_node (exception e) = n.Exn e

abbrev pub read_nodes : Option ℕ → List Node → List Node
read_nodes (Some k) ns = n.Slot k ∷ []
read_nodes None ns = ns

abbrev mutual
  pub nodes_of : List Place → Scope → ℕ → Ex → List Node
  nodes_of rs s i (lit p l) = literal_node l ∷ []
  nodes_of rs s i (name f es) = read_nodes (slot_of s (Written f.text)) (all_nodes rs s i es ++ n.Call (place_of rs f.text (count es) (record { 0 = i + length (all_nodes rs s i es) })) (ids_of rs s i es) ∷ [])
  nodes_of rs s i (unary f p e) = own1 i (nodes_of rs s i e) (n.Unary f)
  nodes_of rs s i (binary f p e g) = own2 i (nodes_of rs s i e) (nodes_of rs s (i + length (nodes_of rs s i e)) g) (n.Binary f)
  nodes_of rs s i (chain e ks) = (nodes_of rs s i e ++ link_nodes rs s (i + length (nodes_of rs s i e)) ks) ++ n.Chain (last_at i (nodes_of rs s i e)) (node_links rs s (i + length (nodes_of rs s i e)) ks) ∷ []
  nodes_of rs s i (conses e ks) = (nodes_of rs s i e ++ link_nodes rs s (i + length (nodes_of rs s i e)) ks) ++ n.Conses (last_at i (nodes_of rs s i e)) (node_links rs s (i + length (nodes_of rs s i e)) ks) ∷ []
  nodes_of rs s i (choose p e f g) = own3 i (nodes_of rs s i e) (nodes_of rs s (i + length (nodes_of rs s i e)) f) (nodes_of rs s (i + length (nodes_of rs s i e) + length (nodes_of rs s (i + length (nodes_of rs s i e)) f)) g) n.If
  nodes_of rs s i (items p es) = all_nodes rs s i es ++ n.List (ids_of rs s i es) ∷ []
  nodes_of rs s i (empty f p w) = n.Empty f ∷ []
  nodes_of rs s i (side f p w v e) = own1 i (nodes_of rs s i e) (n.Side f)
  nodes_of rs s i (given y e f) = own2 i (nodes_of rs s i e) (nodes_of rs (Written y.text ∷ s) (i + length (nodes_of rs s i e)) f) n.Let
  nodes_of rs s i (case p e arms) = nodes_of rs s i e ++ arm_nodes rs s (i + length (nodes_of rs s i e)) (last_at i (nodes_of rs s i e)) arms

  pub all_nodes : List Place → Scope → ℕ → Exs → List Node
  all_nodes rs s i none = []
  all_nodes rs s i (more e es) = nodes_of rs s i e ++ all_nodes rs s (i + length (nodes_of rs s i e)) es

  pub ids_of : List Place → Scope → ℕ → Exs → List ExprId
  ids_of rs s i none = []
  ids_of rs s i (more e es) = last_at i (nodes_of rs s i e) ∷ ids_of rs s (i + length (nodes_of rs s i e)) es

  pub link_nodes : List Place → Scope → ℕ → Links → List Node
  link_nodes rs s i end = []
  link_nodes rs s i (link f p e ks) = nodes_of rs s i e ++ link_nodes rs s (i + length (nodes_of rs s i e)) ks

  pub node_links : List Place → Scope → ℕ → Links → List NodeLink
  node_links rs s i end = []
  node_links rs s i (link f p e ks) = record { form = f; operand = last_at i (nodes_of rs s i e) } ∷ node_links rs s (i + length (nodes_of rs s i e)) ks

  -- the nodes of arms, after those of what they look at
  pub arm_nodes : List Place → Scope → ℕ → ExprId → Arms → List Node
  arm_nodes rs s i h (maybe_arms e y f) = own2 i (nodes_of rs s i e) (nodes_of rs (Written y.text ∷ s) (i + length (nodes_of rs s i e)) f) (n.CaseMaybe h)
  arm_nodes rs s i h (either_arms y e z f) = own2 i (nodes_of rs (Written y.text ∷ s) i e) (nodes_of rs (Written z.text ∷ s) (i + length (nodes_of rs (Written y.text ∷ s) i e)) f) (n.CaseEither h)
  arm_nodes rs s i h (list_arms e y z f) = own2 i (nodes_of rs s i e) (nodes_of rs (Written z.text ∷ Written y.text ∷ s) (i + length (nodes_of rs s i e)) f) (n.CaseList h)
  arm_nodes rs s i h (pair_arms y z e) = own1 i (nodes_of rs (Written z.text ∷ Written y.text ∷ s) i e) (n.CasePair h)

-- the nodes of two expressions, and then the node of a form that has them
abbrev pub two_nodes : List Place → Scope → ℕ → Ex → Ex → (ExprId → ExprId → Node) → List Node
two_nodes rs s i e g k = own2 i (nodes_of rs s i e) (nodes_of rs s (i + length (nodes_of rs s i e)) g) k

-- the slot of a name that the scope has, or the nodes of the arguments of a call and then the call's own
abbrev pub call_nodes : List Place → Scope → ℕ → List ℕ → Exs → List Node
call_nodes rs s i f es = read_nodes (slot_of s (Written f)) (all_nodes rs s i es ++ n.Call (place_of rs f (count es) (record { 0 = i + length (all_nodes rs s i es) })) (ids_of rs s i es) ∷ [])

-- the nodes of the items of a list, and then the list's own
abbrev pub list_nodes : List Place → Scope → ℕ → Exs → List Node
list_nodes rs s i es = all_nodes rs s i es ++ n.List (ids_of rs s i es) ∷ []

-- the nodes of the operands of links, and then the node that has those links after what stands before them
abbrev pub chain_nodes : List Place → Scope → ℕ → Links → (List NodeLink → Node) → List Node
chain_nodes rs s i ks k = link_nodes rs s i ks ++ k (node_links rs s i ks) ∷ []

pub record Emitted (old new : Emitter) (id : ExprId) (ns : List Node) : Type 0 where
  pub nodes : new.nodes ≡ old.nodes ++ ns
  pub scope : new.scope ≡ old.scope
  pub last : id ≡ last_at (length old.nodes) ns

-- Where memory sufficed, these nodes were added in the scope that stood before, and the number of the last was answered.
abbrev pub EmittedAs : Places → Emitter → Emitter → Result ExprId NoMemory → (List Place → Scope → ℕ → List Node) → Type 0
EmittedAs places old new result nodes = IfOk result (λ id. Emitted old new id (nodes places.all (scope_of old.scope) (length old.nodes)))

-- the nodes of expressions in a row were added, and these are the numbers of the last of each
abbrev pub EmittedAll : Places → Emitter → Emitter → List ExprId → Exs → Type 0
EmittedAll places old new ids es = (new.nodes ≡ old.nodes ++ all_nodes places.all (scope_of old.scope) (length old.nodes) es) × (new.scope ≡ old.scope) × (ids ≡ ids_of places.all (scope_of old.scope) (length old.nodes) es)
