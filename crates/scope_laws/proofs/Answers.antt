-- What a thread in its phase may be answered, and where an exception may reach it.
use Rattle.std.proofs.Common.{◌≡◌, ℕ, List, [], ◌∷◌, true, false, Option, refl, sym, ap, ◌∙◌}
use Rattle.hs_base.specs.declared.mask.Mask.{Mask}
use Rattle.hs_base.specs.declared.mask.Mask.TheVariants.{Unmasked, Masked, Uninterruptible}
use Rattle.hs_base.specs.declared.exn.Exn.{Exn}
use Rattle.rules_expansion.specs.declared.primitive.Primitive.TheVariants.{TakeMVar, PutMVar, ReadMVar, ThreadDelay, ThrowTo}
use Rattle.rules_expansion.specs.Core.{Core}
use Rattle.rules_expansion.specs.Expansion.{child_block}
use Rattle.rules_meaning.specs.Values.{V, Cell, Env}
use Rattle.rules_meaning.specs.Values as val
use Rattle.rules_waiting.specs.Waiting.{Reason, Sleeping}
use Rattle.hs_rules.specs.Terms.{Operation, Calls, Forks, Part, Ret, Throw, Do, Performs, Frame, mask_at}
use Rattle.hs_rules.specs.Entries.{is_throw, is_unmasked, is_interruptible}
use Rattle.hs_laws.specs.BracketLaw.{IsMasked}
use Rattle.hs_laws.specs.BracketPhases.{Blocks}
use Rattle.scope_laws.specs.ScopePhases.{Role, Running, Ended, IsOf}
use Rattle.scope_laws.specs.ScopePhases.{Stopping, stop_whole, stop_throwing, stop_thrown, stop_reading, stop_has_read}
use Rattle.scope_laws.specs.ScopePhases.{Held, held_ret, held_throw, held_do, held_op, held_new, held_new_op, held_new_throw, held_new_cell, held_made, held_masked, held_fork, held_fork_op, held_forked, held_named, held_run, held_guarded, held_result, held_exit, held_handler, held_stop, held_stopped, held_return, held_rethrow, held_thrown, held_passing, held_child, held_action, held_fault, held_told, held_ending, held_put, held_put_op}
use Rattle.scope_laws.proofs.Phases.{after_masked, stop_masked}

-- a part of STOP: of operations only its throw and its read
abbrev pub StopPart : Part → Type 0
StopPart (Performs (Calls ThrowTo vs)) = Unit {0}
StopPart (Performs (Calls ReadMVar vs)) = Unit {0}
StopPart (Performs op) = ⊥
StopPart (Ret v) = Unit {0}
StopPart (Throw e) = ⊥
StopPart (Do a env) = Unit {0}

abbrev HardPart : Part → Mask → Type 0
HardPart (Performs op) m = m ≡ Uninterruptible
HardPart _ m = Unit {0}

-- the operation of a fork blocks nobody
no_fork : (r : Reason V) (a : Core) (env : Env) → Blocks r (Forks a env) → ⊥
no_fork (Sleeping due) a env e = cc e.1
no_fork _ a env e = cc e

soft_is : {A : Type 0} (m : Mask) → m ≡ Uninterruptible → is_interruptible m ≡ true → A
soft_is m e f = let q : false ≡ true = sym (ap is_interruptible e) ∙ f in absurd (cc q)

open_is : {A : Type 0} (m : Mask) → is_unmasked m ≡ true → IsMasked m → A
open_is Unmasked e h = absurd h
open_is Masked e h = absurd (cc e)
open_is Uninterruptible e h = absurd (cc e)

module _ (values : ℕ → Type 0) (roles : ℕ → Role) (t : ℕ) (j : Option ℕ) where
  pub stop_part : {m : ℕ} {p : Part} {fs gs : List Frame} → Stopping values roles t j m fs p gs → StopPart p
  stop_part (stop_whole n) = tt
  stop_part _ = tt

  stop_hard : {m : ℕ} {p : Part} {fs gs : List Frame} → Stopping values roles t j m fs p gs → HardPart p (mask_at gs)
  stop_hard (stop_throwing n a y) = refl
  stop_hard stop_reading = refl
  stop_hard _ = tt

  -- ---- answers

  pub throw_answered : {vs : List V} {fs : List Frame} {o : List ℕ} (v : V) → Held values roles t j (Performs (Calls ThrowTo vs)) fs o → Held values roles t j (Ret v) fs o
  throw_answered v (held_op f r) = held_ret r
  throw_answered v (held_stop k (stop_throwing n a y) r) = held_stop k (stop_thrown n) r

  pub delay_answered : {vs : List V} {fs : List Frame} {o : List ℕ} (v : V) → Held values roles t j (Performs (Calls ThreadDelay vs)) fs o → Held values roles t j (Ret v) fs o
  delay_answered v (held_op f r) = held_ret r
  delay_answered v (held_stop k s r) = absurd (stop_part s)

  pub take_answered : {vs : List V} {fs : List Frame} {o : List ℕ} (v : V) → Held values roles t j (Performs (Calls TakeMVar vs)) fs o → Held values roles t j (Ret v) fs o
  take_answered v (held_op f r) = held_ret r
  take_answered v (held_stop k s r) = absurd (stop_part s)

  -- where it is no put of a child
  pub put_answered : {m : ℕ} {a : V} {fs : List Frame} {o : List ℕ} (v : V) → ((p : ℕ) → roles m ≡ Running p t → ⊥) → Held values roles t j (Performs (Calls PutMVar (Cell m ∷ a ∷ []))) fs o → Held values roles t j (Ret v) fs o
  put_answered v n (held_op f r) = held_ret r
  put_answered v n (held_stop k s r) = absurd (stop_part s)
  put_answered v n (held_put_op {p = p} e s) = absurd (n p e.0)

  -- where the child, if it is the cell of a scope, has ended
  pub read_answered : {m : ℕ} {fs : List Frame} {o : List ℕ} (v : V) → (IsOf t (roles m) → roles m ≡ Ended t) → Held values roles t j (Performs (Calls ReadMVar (Cell m ∷ []))) fs o → Held values roles t j (Ret v) fs o
  read_answered v f (held_op g r) = held_ret r
  read_answered v f (held_stop k stop_reading r) = held_stop k (stop_has_read (f k)) r

  -- ---- exceptions

  -- a throw at oneself
  pub throws_itself : {u : ℕ} {x : V} {fs : List Frame} {o : List ℕ} (e : Exn) → u ≡ t → Held values roles t j (Performs (Calls ThrowTo (val.Thread u ∷ x ∷ []))) fs o → Held values roles t j (Throw e) fs o
  throws_itself e same (held_op f r) = held_throw r
  throws_itself e same (held_stop k (stop_throwing n a y) r) = absurd (a same)

  -- where it waits and can be interrupted: that is no put of a child
  pub interrupted : (r : Reason V) {op : Operation} {fs : List Frame} {o : List ℕ} (e : Exn) → Blocks r op → ((m p : ℕ) (a : V) → op ≡ Calls PutMVar (Cell m ∷ a ∷ []) → roles m ≡ Running p t → ⊥) → is_interruptible (mask_at fs) ≡ true → Held values roles t j (Performs op) fs o → Held values roles t j (Throw e) fs o
  interrupted r e b z i (held_op f h) = held_throw h
  interrupted r e b z i (held_new_op c f g w h) = held_new_throw h
  interrupted r e b z i (held_fork_op {a = a} {env = env} q n c f g w m h) = absurd (no_fork r (child_block a) env b)
  interrupted r {fs = fs} e b z i (held_stop k s h) = soft_is (mask_at fs) (stop_hard s) i
  interrupted r e b z i (held_put_op {m} {p} {v} q s) = absurd (z m p v refl q.0)

  -- where it isn't masked
  pub unmasked : {p : Part} {fs : List Frame} {o : List ℕ} (e : Exn) → is_unmasked (mask_at fs) ≡ true → is_throw p ≡ false → Held values roles t j p fs o → Held values roles t j (Throw e) fs o
  unmasked e i n (held_ret r) = held_throw r
  unmasked e i n (held_throw r) = held_throw r
  unmasked e i n (held_do f w r) = held_throw r
  unmasked e i n (held_op f r) = held_throw r
  unmasked e i n (held_new c f g w r) = held_new_throw r
  unmasked e i n (held_new_op c f g w r) = held_new_throw r
  unmasked e i n (held_new_throw r) = held_new_throw r
  unmasked e i n (held_new_cell q c f g w r) = held_new_throw r
  unmasked e i n (held_made q z c f g w r) = held_throw r
  unmasked {fs = fs} e i n (held_masked q z c f g w m r) = open_is (mask_at fs) i m
  unmasked {fs = fs} e i n (held_fork q z c f g w m r) = open_is (mask_at fs) i m
  unmasked {fs = fs} e i n (held_fork_op q z c f g w m r) = open_is (mask_at fs) i m
  unmasked {fs = fs} e i n (held_forked k z a y c g w m r) = open_is (mask_at fs) i m
  unmasked {fs = fs} e i n (held_named k z c g w m r) = open_is (mask_at fs) i m
  unmasked {fs = fs} e i n (held_run k z g w m r) = open_is (mask_at fs) i m
  unmasked {fs = fs} e i n (held_guarded k z g w m r) = open_is (mask_at fs) i m
  unmasked {fs = fs} e i n (held_result k z m r) = open_is (mask_at fs) i m
  unmasked {fs = fs} e i n (held_exit k z m r) = open_is (mask_at fs) i m
  unmasked {fs = fs} e i n (held_handler k z s q m r) = open_is (mask_at fs) i s
  unmasked {fs = fs} e i n (held_stop k s a) = open_is (mask_at fs) i (stop_masked values roles t j s (after_masked values roles t j a))
  unmasked {fs = fs} e i n (held_stopped q a) = open_is (mask_at fs) i (after_masked values roles t j a)
  unmasked e i n (held_return r) = held_throw r
  unmasked {fs = fs} e i n (held_rethrow q s z m r) = open_is (mask_at fs) i s
  unmasked e i n (held_thrown q z m r) = absurd (cc n)
  unmasked e i n (held_passing q z m r) = absurd (cc n)
  unmasked {fs = fs} e i n (held_child q z f w s) = open_is (mask_at fs) i s
  unmasked {fs = fs} e i n (held_action q z f w s) = open_is (mask_at fs) i s
  unmasked {fs = fs} e i n (held_fault q z w s) = open_is (mask_at fs) i w
  unmasked {fs = fs} e i n (held_told q z w s) = open_is (mask_at fs) i w
  unmasked {fs = fs} e i n (held_ending q z s) = open_is (mask_at fs) i s
  unmasked {fs = fs} e i n (held_put q z s) = open_is (mask_at fs) i s
  unmasked {fs = fs} e i n (held_put_op q s) = open_is (mask_at fs) i s
