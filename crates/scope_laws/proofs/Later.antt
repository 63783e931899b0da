-- A term stays in its phase where more cells are known and cells go on in their scopes.
use Rattle.std.proofs.Common.{◌≡◌, ℕ, List, ◌∷◌, Option, Some}
use Rattle.rules_expansion.specs.Names.{Added}
use Rattle.rules_expansion.specs.declared.hidden.Hidden.TheVariants.{TheCell}
use Rattle.rules_expansion.specs.declared.primitive.Primitive.{Primitive}
use Rattle.rules_expansion.specs.declared.primitive.Primitive.TheVariants.{PutMVar}
use Rattle.rules_meaning.specs.Values.{V, Cell, Env, value_at}
use Rattle.hs_rules.specs.Terms.{Operation, Calls, Forks, ForksUnmask, Part, Frame}
use Rattle.scope_laws.specs.ScopePhases.{Role, Fresh, Running, Ended, IsOf, IsChild, OfValues, Clean, PutsInto, FineOp, Named, Below, no_frames, below_bind, below_catch, below_mask, below_guarded, below_child, After, after_exit, after_handler}
use Rattle.scope_laws.specs.ScopePhases.{Stopping, stop_whole, stop_kills, stop_throws, stop_throwing, stop_thrown, stop_awaits, stop_reads, stop_reading, stop_has_read, stop_gives, stop_leaves}
use Rattle.scope_laws.specs.ScopePhases.{Held, held_ret, held_throw, held_do, held_op, held_new, held_new_op, held_new_throw, held_new_cell, held_made, held_masked, held_fork, held_fork_op, held_forked, held_named, held_run, held_guarded, held_result, held_exit, held_handler, held_stop, held_stopped, held_return, held_rethrow, held_thrown, held_passing, held_child, held_action, held_fault, held_told, held_ending, held_put, held_put_op}

-- for a thread: cells that were known are, and what is of its scopes stays so
pub record Nearly (values values' : ℕ → Type 0) (roles roles' : ℕ → Role) (t : ℕ) : Type 0 where
  pub known : (m : ℕ) → values m → values' m
  pub own : (m : ℕ) → IsOf t (roles m) → IsOf t (roles' m)
  pub child : (m c : ℕ) → IsChild c (roles m) → IsChild c (roles' m)
  pub runs : (m p : ℕ) → roles m ≡ Running p t → roles' m ≡ Running p t

-- the same, and what it has made stays fresh, and what has ended stays so
pub record Later (values values' : ℕ → Type 0) (roles roles' : ℕ → Role) (t : ℕ) : Type 0 where
  pub nearly : Nearly values values' roles roles' t
  pub fresh : (m : ℕ) → roles m ≡ Fresh t → roles' m ≡ Fresh t
  pub ended : (m : ℕ) → roles m ≡ Ended t → roles' m ≡ Ended t

module _ {values values' : ℕ → Type 0} (known : (m : ℕ) → values m → values' m) where
  of_more : (o : Option V) → OfValues values o → OfValues values' o
  of_more (Some (Cell m)) h = known m h
  of_more _ h = tt

  clean_more : (env : Env) → Clean values env → Clean values' env
  clean_more env h = of_more (value_at (Added TheCell) env) h

  puts_more : (vs : List V) → PutsInto values vs → PutsInto values' vs
  puts_more (Cell m ∷ vs) h = known m h
  puts_more _ h = tt

  call_more : (w : Primitive) (vs : List V) → FineOp values (Calls w vs) → FineOp values' (Calls w vs)
  call_more PutMVar vs h = puts_more vs h
  call_more _ vs h = tt

  op_more : (op : Operation) → FineOp values op → FineOp values' op
  op_more (Calls w vs) h = call_more w vs h
  op_more (Forks a env) h = (h.0, clean_more env h.1)
  op_more (ForksUnmask r a env) h = (h.0, h.1, clean_more env h.2)

module _ {values values' : ℕ → Type 0} {roles roles' : ℕ → Role} {t : ℕ} (k : Nearly values values' roles roles' t) where
  clean : (env : Env) → Clean values env → Clean values' env
  clean env h = clean_more k.known env h

  named_more : (env : Env) {m : ℕ} → Named values roles t env m → Named values' roles' t env m
  named_more env {m} n = (n.0, n.1, n.2, n.3, k.child m n.1 n.4)

  pub below_more : {j : Option ℕ} {fs : List Frame} {o : List ℕ} → Below values roles t j fs o → Below values' roles' t j fs o
  below_more (no_frames e) = no_frames e
  below_more (below_bind {env = env} c f w r) = below_bind c f (clean env w) (below_more r)
  below_more (below_catch {env = env} c f w r) = below_catch c f (clean env w) (below_more r)
  below_more (below_mask r) = below_mask (below_more r)
  below_more (below_guarded {m} {env} i n w r) = below_guarded (k.own m i) (named_more env n) w (below_more r)
  below_more (below_child {m} {p} e n s) = below_child (k.runs m p e.0, e.1) n s

  after_more : {j : Option ℕ} {m : ℕ} {fs : List Frame} {o : List ℕ} → After values roles t j m fs o → After values' roles' t j m fs o
  after_more (after_exit n w r) = after_exit n w (below_more r)
  after_more (after_handler s n w r) = after_handler s n w (below_more r)

module _ {values values' : ℕ → Type 0} {roles roles' : ℕ → Role} {t : ℕ} (k : Later values values' roles roles' t) where
  stop_more : {j : Option ℕ} {m : ℕ} {p : Part} {fs gs : List Frame} → Stopping values roles t j m fs p gs → Stopping values' roles' t j m fs p gs
  stop_more (stop_whole {env} n) = stop_whole (named_more k.nearly env n)
  stop_more (stop_kills {env} n) = stop_kills (named_more k.nearly env n)
  stop_more (stop_throws {env} n) = stop_throws (named_more k.nearly env n)
  stop_more {m = m} (stop_throwing {c = c} n a y) = stop_throwing n a (k.nearly.child m c y)
  stop_more (stop_thrown n) = stop_thrown n
  stop_more (stop_awaits n) = stop_awaits n
  stop_more (stop_reads n) = stop_reads n
  stop_more stop_reading = stop_reading
  stop_more {m = m} (stop_has_read e) = stop_has_read (k.ended m e)
  stop_more {m = m} (stop_gives e) = stop_gives (k.ended m e)
  stop_more {m = m} (stop_leaves e) = stop_leaves (k.ended m e)

  pub held_more : {j : Option ℕ} {p : Part} {fs : List Frame} {o : List ℕ} → Held values roles t j p fs o → Held values' roles' t j p fs o
  held_more (held_ret r) = held_ret (below_more k.nearly r)
  held_more (held_throw r) = held_throw (below_more k.nearly r)
  held_more (held_do {env = env} f w r) = held_do f (clean k.nearly env w) (below_more k.nearly r)
  held_more (held_op {op} f r) = held_op (op_more k.nearly.known op f) (below_more k.nearly r)
  held_more (held_new {env' = env'} c f g w r) = held_new c f g (clean k.nearly env' w) (below_more k.nearly r)
  held_more (held_new_op {env' = env'} c f g w r) = held_new_op c f g (clean k.nearly env' w) (below_more k.nearly r)
  held_more (held_new_throw r) = held_new_throw (below_more k.nearly r)
  held_more (held_new_cell {m} {env' = env'} e c f g w r) = held_new_cell (k.fresh m e) c f g (clean k.nearly env' w) (below_more k.nearly r)
  held_more (held_made {m} {env = env} e n c f g w r) = held_made (k.fresh m e) n c f g (clean k.nearly env w) (below_more k.nearly r)
  held_more (held_masked {m} {env = env} e n c f g w s r) = held_masked (k.fresh m e) n c f g (clean k.nearly env w) s (below_more k.nearly r)
  held_more (held_fork {m} {env = env} e n c f g w s r) = held_fork (k.fresh m e) n c f g (clean k.nearly env w) s (below_more k.nearly r)
  held_more (held_fork_op {m} {env = env} e n c f g w s r) = held_fork_op (k.fresh m e) n c f g (clean k.nearly env w) s (below_more k.nearly r)
  held_more (held_forked {m} {c = d} {env = env} i n a y c g w s r) = held_forked (k.nearly.own m i) n a (k.nearly.child m d y) c g (clean k.nearly env w) s (below_more k.nearly r)
  held_more (held_named {m} {env = env} i n c g w s r) = held_named (k.nearly.own m i) (named_more k.nearly env n) c g (clean k.nearly env w) s (below_more k.nearly r)
  held_more (held_run {m} {env = env} i n g w s r) = held_run (k.nearly.own m i) (named_more k.nearly env n) g (clean k.nearly env w) s (below_more k.nearly r)
  held_more (held_guarded {m} {env = env} i n g w s r) = held_guarded (k.nearly.own m i) (named_more k.nearly env n) g (clean k.nearly env w) s (below_more k.nearly r)
  held_more (held_result {m} {env = env} i n s r) = held_result (k.nearly.own m i) (named_more k.nearly env n) s (below_more k.nearly r)
  held_more (held_exit {m} {env} i n s r) = held_exit (k.nearly.own m i) (named_more k.nearly env n) s (below_more k.nearly r)
  held_more (held_handler {m} {env} i n s q w r) = held_handler (k.nearly.own m i) (named_more k.nearly env n) s q w (below_more k.nearly r)
  held_more (held_stop {m} i s a) = held_stop (k.nearly.own m i) (stop_more s) (after_more k.nearly a)
  held_more (held_stopped {m} e a) = held_stopped (k.ended m e) (after_more k.nearly a)
  held_more (held_return r) = held_return (below_more k.nearly r)
  held_more (held_rethrow {m} e s q w r) = held_rethrow (k.ended m e) s q w (below_more k.nearly r)
  held_more (held_thrown {m} e q w r) = held_thrown (k.ended m e) q w (below_more k.nearly r)
  held_more (held_passing {m} e q w r) = held_passing (k.ended m e) q w (below_more k.nearly r)
  held_more (held_child {m} {p} {env = env} e n f w s) = held_child (k.nearly.runs m p e.0, e.1) n f (clean k.nearly env w) s
  held_more (held_action {m} {p} {env' = env'} e n f w s) = held_action (k.nearly.runs m p e.0, e.1) n f (clean k.nearly env' w) s
  held_more (held_fault {m} {p} e n q s) = held_fault (k.nearly.runs m p e.0, e.1) n q s
  held_more (held_told {m} {p} e n q s) = held_told (k.nearly.runs m p e.0, e.1) n q s
  held_more (held_ending {m} {p} e n s) = held_ending (k.nearly.runs m p e.0, e.1) n s
  held_more (held_put {m} {p} e n s) = held_put (k.nearly.runs m p e.0, e.1) n s
  held_more (held_put_op {m} {p} e s) = held_put_op (k.nearly.runs m p e.0, e.1) s
