-- The expansion of an action has the action's type, in every scope with the names that a script sees.
use Rattle.std.proofs.Common.{◌≡◌, inl, inr, ℕ, ◌+◌, ◌==◌, List, [], ◌∷◌, length, Bool, true, false, cond, Option, Some, None, refl, sym, ap, ◌∙◌, subst, arith, bytes_eq, eqb-true}
use Rattle.std.proofs.lemmas.Slice.Eq.{bytes_eq-Decides}
use Rattle.plain_laws.proofs.Lists.{bytes_eq_sym}
use Rattle.hs_base.specs.declared.tree.expr.Name.{Name}
use Rattle.hs_base.specs.declared.pos.Pos.{Pos}
use Rattle.hs_base.specs.declared.tree.forms.BareAction.TheVariants as z
use Rattle.hs_base.specs.declared.tree.forms.UnaryAction.{UnaryAction}
use Rattle.hs_base.specs.declared.tree.forms.UnaryAction.TheVariants as u
use Rattle.hs_base.specs.declared.tree.forms.BinaryAction.{BinaryAction}
use Rattle.hs_base.specs.declared.tree.forms.BinaryAction.TheVariants as b
use Rattle.hs_base.specs.declared.tree.forms.BlockAction.TheVariants as k
use Rattle.hs_base.specs.declared.tree.forms.MaskingAction.TheVariants as m
use Rattle.hs_base.specs.declared.tree.forms.GuardAction.TheVariants as guards
use Rattle.rules_expansion.specs.trees.Trees.{T, unit, int, bool, text, thread, exn, pair, maybe, either, list, cell, async, Ex, Exs, none, more}
use Rattle.rules_expansion.specs.trees.Programs as tree
use Rattle.rules_expansion.specs.trees.Programs.{SurfaceAction, Bl, ActArms}
use Rattle.rules_expansion.specs.Names as names
use Rattle.rules_expansion.specs.Names.{Written, Added, same_name, Unread}
use Rattle.rules_expansion.specs.declared.hidden.Hidden.{Hidden}
use Rattle.rules_expansion.specs.declared.hidden.Hidden.TheVariants.{Restorer, Given, Caught, TheCell, Instance, BracketResult, BracketFault, Allowed, InTime, Owner, Expiry, Helper, ScopeCell, Child, Ended, ActionResult, FirstEnd, FirstSide, SecondSide, FirstResult, SecondResult}
use Rattle.rules_sorts.specs.Sorts.{Sort, a_value, a_masking_name, an_instance, a_scope_cell, sort_at, SortedName}
use Rattle.rules_typing.specs.Typing.{AllMet, Sig, inner_of, first_of, second_of}
use Rattle.rules_typing.specs.Typing as typing
use Rattle.rules_typing.specs.TypingActions.{form_of_acts, type_of_bare, row_unary_act, row_binary_act, ActHas, BlHas, ActArmsHave}
use Rattle.rules_sorts.specs.TypedMeaning.{Well, WellAll}
use Rattle.rules_expansion.specs.Core.{CoreEx, OfScript, Read, JustRead, Core, Return, ThrowIo, Bind, CaseEither, Call, MaskWith}
use Rattle.rules_expansion.specs.declared.template.Derived.TheVariants as form
use Rattle.rules_expansion.specs.declared.primitive.Primitive.TheVariants.{TakeMVar}
use Rattle.rules_expansion.specs.declared.template.Binder.{Binder}
use Rattle.rules_expansion.specs.declared.template.Binder.TheVariants as binder
use Rattle.rules_expansion.specs.declared.template.Operand.{Operand}
use Rattle.rules_expansion.specs.declared.template.Operand.TheVariants as operands
use Rattle.rules_expansion.specs.declared.template.FormBlock.TheVariants as part
use Rattle.rules_expansion.specs.Templates.{Template, hole, give, bind, perform_one, ended, scoping, unless_thrown, waiting, racing_side, concurrent_side, both_sides, Filling, operand, named, fill}
use Rattle.rules_expansion.specs.Expansion.{bare_core, core, block_core, arms_core, bracket_masked, scope_stop, derived, on_bound, on_both, on_two, on_named, on_subject, guard_core, unary_core, binary_core}
use Rattle.hs_soundness.specs.CoreSorts.{seen_as, written_in, IsThere, CoreHas}
use Rattle.hs_soundness.specs.WellActions.{WellAct, WellBl, WellActArms}
use Rattle.hs_progress.specs.CoreTyping.{Binds, with_bound, Tidy, Sees, asks_put_str, asks_put_str_ln, asks_h_put_str_ln, asks_new, asks_new_empty, asks_new_scope_cell, asks_take, asks_put, asks_put_end, asks_read, asks_read_end, asks_try_take, asks_try_put, asks_my_thread, asks_masking, asks_clock, asks_delay, asks_throw_to, asks_new_timeout, asks_acquired, asks_release, no_more, one_more, Does, does_return, does_throw, does_let, does_bind, does_then, does_if, does_maybe, does_either, does_list, does_pair, does_call, does_perform, does_fork, does_fork_unmask, does_catch, does_mask, does_mask_hard, does_restore}

-- ---- scopes

eq_refl : (x : List ℕ) → bytes_eq x x ≡ true
eq_refl x = (bytes_eq-Decides x x).1 refl

hides : {g : List SortedName} {s : List typing.TypedName} (h : Hidden) (j : Sort) → Binds (Added h) j → Sees g s → Sees (with_bound (Added h) j g) s
hides h j p w = record { tidy = (p, w.tidy); same = w.same }

pub binds : {g : List SortedName} {s : List typing.TypedName} (x : Name) (t : T) → Sees g s → Sees (with_bound (Written x.text) (a_value t) g) (typing.bound x t ∷ s)
binds x t w = record { tidy = (tt, w.tidy); same = ap (λ z. typing.bound x t ∷ z) w.same }

masks : {g : List SortedName} {s : List typing.TypedName} (x : Name) → Sees g s → Sees (with_bound (Written x.text) a_masking_name g) (typing.masked x ∷ s)
masks x w = record { tidy = (tt, w.tidy); same = ap (λ z. typing.masked x ∷ z) w.same }

mask_cond : (y : List ℕ) (o : Option typing.Sort) (r : Option Sort) (i : Sort) (t : Bool) → Binds (Written y) i → (o ≡ Some typing.masking_name → r ≡ Some a_masking_name) → cond t (Some (seen_as i)) o ≡ Some typing.masking_name → cond t (Some i) r ≡ Some a_masking_name
mask_cond y o r (a_value t) true p h e = absurd (let z : Some (typing.value t) ≡ Some typing.masking_name = e in cc z)
mask_cond y o r a_masking_name true p h e = refl
mask_cond y o r an_instance true p h e = absurd p
mask_cond y o r (a_scope_cell t) true p h e = absurd p
mask_cond y o r i false p h e = h e

mask_step : (g : List SortedName) (y : names.Name) (j : Sort) (x : List ℕ) → Binds y j → (typing.look (written_in g) x ≡ Some typing.masking_name → sort_at (Written x) g ≡ Some a_masking_name)
    → typing.look (written_in (record { name = y; sort = j } ∷ g)) x ≡ Some typing.masking_name → cond (same_name (Written x) y) (Some j) (sort_at (Written x) g) ≡ Some a_masking_name
mask_step g (Added h) j x p r e = r e
mask_step g Unread j x p r e = absurd p
mask_step g (Written y) j x p r e =
    mask_cond y (typing.look (written_in g) x) (sort_at (Written x) g) j (bytes_eq x y) p r (subst (λ t. cond t (Some (seen_as j)) (typing.look (written_in g) x) ≡ Some typing.masking_name) (bytes_eq_sym y x) e)

mask_there : (g : List SortedName) (x : List ℕ) → Tidy g → typing.look (written_in g) x ≡ Some typing.masking_name → sort_at (Written x) g ≡ Some a_masking_name
mask_there [] x t e = let z : None ≡ Some typing.masking_name = e in absurd (cc z)
mask_there (c ∷ g) x t e = mask_step g c.name c.sort x t.0 (mask_there g x t.1) e

no_fault : (c : typing.Ctx) (x : Name) (o : Option typing.Sort) → typing.unmask_sort c x o ≡ None → o ≡ Some typing.masking_name
no_fault c x None e = absurd (by (typing.find c.sigs x.text) e)
  where
    by : (q : Option Sig) → typing.unmask_sig x.pos q ≡ None → ⊥
    by None h = cc h
    by (Some f) h = cc h
no_fault c x (Some typing.masking_name) e = refl
no_fault c x (Some (typing.value t)) e = absurd (let w : Some (typing.kind x.pos) ≡ None = e in cc w)

-- ---- types of a form, and heads

cell_is : (v : T) → typing.Has typing.a_cell v → cell (inner_of v) ≡ v
cell_is v h = ap (λ z. cell (inner_of z)) h.1 ∙ sym h.1

async_is : (v : T) → typing.Has typing.an_async v → async (inner_of v) ≡ v
async_is v h = ap (λ z. async (inner_of z)) h.1 ∙ sym h.1

each_same : (ps us : List T) → length ps ≡ length us → AllMet (typing.is_each ps us) → ps ≡ us
each_same [] [] e h = refl
each_same [] (v ∷ us) e h = absurd (omega arith)
each_same (p ∷ ps) [] e h = absurd (omega arith)
each_same (p ∷ ps) (v ∷ us) e h = ap (λ z. z ∷ ps) h.0 ∙ ap (λ z. v ∷ z) (each_same ps us (omega arith) h.1)

-- what a call means, where it means an action function
abbrev Head : List Sig → List ℕ → ℕ → List T → T → Type 0
Head sigs f n ps t = (sig : Sig) × (typing.find sigs f ≡ Some sig) × (sig.acts ≡ true) × (sig.params ≡ ps) × (length sig.params ≡ n) × (sig.result ≡ t)

meant_is : (c : typing.Ctx) (x : Name) (n : ℕ) (o : Option typing.Sort) (ps : List T) (t : T) → typing.meant_act_sort c x n o ≡ typing.takes ps t → Head c.sigs x.text n ps t
meant_is c x n (Some j) ps t e = absurd (let z : typing.wrong (typing.kind x.pos) ≡ typing.takes ps t = e in cc z)
meant_is c x n None ps t e = by (typing.find c.sigs x.text) refl e
  where
    args : (sig : Sig) (d : Bool) → (length sig.params == n) ≡ d → typing.find c.sigs x.text ≡ Some sig → sig.acts ≡ true
        → cond d (typing.takes sig.params sig.result) (typing.wrong (typing.arity x.pos (typing.shown_count (length sig.params)) (typing.shown_count n))) ≡ typing.takes ps t → Head c.sigs x.text n ps t
    args sig true d f a h = (sig, f, a, (let z : sig.params ≡ ps = cc in z), eqb-true (length sig.params) n d, (let z : sig.result ≡ t = cc in z))
    args sig false d f a h = absurd (let z : typing.wrong (typing.arity x.pos (typing.shown_count (length sig.params)) (typing.shown_count n)) ≡ typing.takes ps t = h in cc z)

    acts : (sig : Sig) (d : Bool) → sig.acts ≡ d → typing.find c.sigs x.text ≡ Some sig → cond d (typing.meant_args x.pos n sig.params sig.result) (typing.wrong (typing.kind x.pos)) ≡ typing.takes ps t → Head c.sigs x.text n ps t
    acts sig true a f h = args sig (length sig.params == n) refl f a h
    acts sig false a f h = absurd (let z : typing.wrong (typing.kind x.pos) ≡ typing.takes ps t = h in cc z)

    by : (q : Option Sig) → typing.find c.sigs x.text ≡ q → typing.meant_act_sig x.pos n q ≡ typing.takes ps t → Head c.sigs x.text n ps t
    by None f h = absurd (let z : typing.wrong (typing.unknown x.pos) ≡ typing.takes ps t = h in cc z)
    by (Some sig) f h = acts sig sig.acts refl f h

-- ---- an action in every scope with those names

module _ (c : typing.Ctx) where
  abbrev pub AllIn : List typing.TypedName → Core → Sort → Type 0
  AllIn s a j = (g : List SortedName) → Sees g s → Does c g a j

  arg : {g : List SortedName} {s : List typing.TypedName} (e : Ex) (v w : T) → Sees g s → Well e → typing.HasType c s e v → w ≡ v → CoreHas c g (OfScript e) (a_value w)
  arg e v w p q h d = (v, q, subst (λ s. typing.HasType c s e v) (sym p.same) h, ap a_value d)

  cast : {s : List typing.TypedName} {a : Core} (t v : T) → t ≡ v → AllIn s a (a_value v) → AllIn s a (a_value t)
  cast {s} {a} t v e h g w = subst (λ z. Does c g a (a_value z)) (sym e) (h g w)

  -- ---- what expansions write
  on_exception_does : {s : List typing.TypedName} {a d : Core} {j i : Sort} → AllIn s a j → AllIn s d i → AllIn s (guard_core guards.OnException a d) j
  on_exception_does A B g w = does_catch tt (A g w) (does_then (B _ (hides Caught (a_value exn) tt w)) (does_throw (refl, refl)))

  finally_does : {s : List typing.TypedName} {a d : Core} {t : T} {i : Sort} → AllIn s a (a_value t) → AllIn s d i → AllIn s (guard_core guards.Finally a d) (a_value t)
  finally_does {t} A B g w =
      let r = hides Restorer a_masking_name tt w in
      does_mask tt
      (does_bind tt
      (does_catch tt (does_restore (refl, refl) (A _ r)) (does_then (B _ (hides Caught (a_value exn) tt r)) (does_throw (refl, refl))))
      (does_then (B _ (hides Given (a_value t) tt r)) (does_return (refl, refl))))

  bracket_does : {g : List SortedName} {a d f : Core} {x : names.Name} {j i : Sort} {t : T} → Binds x j → same_name (Added Restorer) x ≡ false
      → Does c (with_bound (Added Restorer) a_masking_name g) a j
      → Does c (with_bound (Added BracketFault) (a_value exn) (with_bound (Added Instance) an_instance (with_bound x j (with_bound (Added Restorer) a_masking_name g)))) d i
      → Does c (with_bound (Added BracketResult) (a_value t) (with_bound (Added Instance) an_instance (with_bound x j (with_bound (Added Restorer) a_masking_name g)))) d i
      → Does c (with_bound (Added Instance) an_instance (with_bound x j (with_bound (Added Restorer) a_masking_name g))) f (a_value t)
      → Does c g (MaskWith (Added Restorer) (bracket_masked a x d f)) (a_value t)
  bracket_does {g} {j} p n A B B' C =
      does_mask tt
      (does_bind p A
      (does_bind tt (does_perform asks_acquired no_more)
      (does_bind tt
      (does_catch tt (does_restore (refl, ap (λ z. cond z (Some j) (Some a_masking_name)) n) C)
      (does_then (does_perform asks_release (one_more (refl, refl) no_more)) (does_then B (does_throw (refl, refl)))))
      (does_then (does_perform asks_release (one_more (refl, refl) no_more)) (does_then B' (does_return (refl, refl)))))))

  modify_does : {g : List SortedName} {e : CoreEx} {d : Core} (x : List ℕ) (t : T) → CoreHas c g e (a_value (cell t))
      → Does c (with_bound (Written x) (a_value t) (with_bound (Added Restorer) a_masking_name (with_bound (Added TheCell) (a_value (cell t)) g))) d (a_value t)
      → Does c g (derived form.ModifyMVar (on_bound e x d)) (a_value unit)
  modify_does {g} x t h B =
      does_let tt h
      (does_mask tt
      (does_bind tt (does_perform asks_take (one_more (refl, refl) no_more))
      (does_bind tt
      (does_catch tt (does_restore (refl, refl) B)
      (does_then
      (does_perform asks_put (one_more (refl, refl) (one_more (refl, ap (λ z. cond z (Some (a_value t)) (sort_at (Written x) g)) (eq_refl x)) no_more)))
      (does_throw {k = a_value t} (refl, refl))))
      (does_perform asks_put (one_more (refl, refl) (one_more (refl, refl) no_more))))))

  in_time_does : {g : List SortedName} {d : Core} (t : T) → Does c g d (a_value t) → Does c g (Bind (Added InTime) d (Return (JustRead (Added InTime)))) (a_value (maybe t))
  in_time_does t B = does_bind tt B (does_return (t, (refl, refl), refl))

  timeout_does : {s : List typing.TypedName} {d : Core} (t : T) → AllIn s d (a_value t) → (g : List SortedName) → Sees g s → (e : CoreEx) → CoreHas c g e (a_value int) → Does c g (derived form.Timeout (on_both e d)) (a_value (maybe t))
  timeout_does t B g w e h =
      let n = hides Allowed (a_value int) tt w in
      let y = hides Expiry (a_value exn) tt (hides Owner (a_value thread) tt n) in
      let i = hides Instance an_instance tt (hides Helper (a_value thread) tt (hides Restorer a_masking_name tt y)) in
      does_let tt h
      (does_if ((refl, refl), refl) (in_time_does t (B _ n))
      (does_if ((refl, refl), refl) (does_return (t, refl))
      (does_bind tt (does_perform asks_my_thread no_more)
      (does_bind tt (does_perform asks_new_timeout no_more)
      (does_catch tt
      (bracket_does tt refl
      (does_fork_unmask tt (does_restore (refl, refl)
      (does_then (does_perform asks_delay (one_more (refl, refl) no_more)) (does_perform asks_throw_to (one_more (refl, refl) (one_more (refl, refl) no_more))))))
      (does_mask_hard tt (does_perform asks_throw_to (one_more (refl, refl) (one_more refl no_more))))
      (does_mask_hard tt (does_perform asks_throw_to (one_more (refl, refl) (one_more refl no_more))))
      (in_time_does t (B _ i)))
      (does_if ((refl, refl), (refl, refl), refl) (does_return (t, refl)) (does_throw (refl, refl))))))))

  -- ---- async scopes

  -- the scope of the thread of an async scope, whose action gives a value of type s, and that of what names the scope x
  abbrev child_scope : T → List SortedName → List SortedName
  child_scope s g = with_bound (Added Restorer) a_masking_name (with_bound (Added ScopeCell) (a_scope_cell s) g)

  abbrev async_scope : names.Name → T → List SortedName → List SortedName
  async_scope x s g = with_bound x (a_value (async s)) (with_bound (Added Child) (a_value thread) (child_scope s g))

  child_sees : {g : List SortedName} {u : List typing.TypedName} (s : T) → Sees g u → Sees (child_scope s g) u
  child_sees s w = hides Restorer a_masking_name tt (hides ScopeCell (a_scope_cell s) tt w)

  thread_sees : {g : List SortedName} {u : List typing.TypedName} (s : T) → Sees g u → Sees (with_bound (Added Child) (a_value thread) (child_scope s g)) u
  thread_sees s w = hides Child (a_value thread) tt (child_sees s w)

  -- a name that another one doesn't hide
  passed : (g : List SortedName) (y x : names.Name) (j k : Sort) → same_name y x ≡ false → IsThere g y k → IsThere (with_bound x j g) y k
  passed g y x j k n h = (h.0, ap (λ z. cond z (Some j) (sort_at y g)) n ∙ h.1)

  -- throwTo $t ThreadKilled; $w <- readMVar $v; return (), masked uninterruptibly
  stop_does : {g : List SortedName} (s : T) → IsThere g (Added Child) (a_value thread) → IsThere g (Added ScopeCell) (a_scope_cell s) → Does c g scope_stop (a_value unit)
  stop_does s child end =
      does_mask_hard tt
      (does_then (does_perform asks_throw_to (one_more child (one_more refl no_more)))
      (does_bind tt (does_perform asks_read_end (one_more end no_more)) (does_return refl)))

  -- case $z of { Left $e -> { throwIO $e }; Right $x -> A }
  unless_thrown_does : {g : List SortedName} {a : Core} {k : Sort} (t : T) → IsThere g (Added Ended) (a_value (either exn t)) → Does c (with_bound (Added ActionResult) (a_value t) g) a k
      → Does c g (CaseEither (Read (Added Ended)) (Added Caught) (ThrowIo (Read (Added Caught))) (Added ActionResult) a) k
  unless_thrown_does t h A = does_either tt tt h (does_throw (refl, refl)) A

  module _ (f : Filling) where
    ended_does : {g : List SortedName} (e : Operand) (a : Template) (s t : T) → IsThere g (Added Restorer) a_masking_name → Does c g (fill f a) (a_value s)
        → CoreHas c (with_bound (Added ActionResult) (a_value s) g) (operand f e) (a_value (either exn t)) → Does c g (fill f (ended e a)) (a_value (either exn t))
    ended_does e a s t r A h = does_catch tt (does_bind tt (does_restore r A) (does_return h)) (does_return (exn, t, (refl, refl), refl))

    scope_does : {g : List SortedName} (a : Template) (y : Binder) (d : Template) (s t : T) → Binds (named f.given y) (a_value (async s))
        → same_name (Added Restorer) (named f.given y) ≡ false → same_name (Added Child) (named f.given y) ≡ false → same_name (Added ScopeCell) (named f.given y) ≡ false
        → Does c (child_scope s g) (fill f a) (a_value s) → Does c (async_scope (named f.given y) s g) (fill f d) (a_value t) → Does c g (fill f (scoping a y d)) (a_value t)
    scope_does {g} a y d s t p restorer child end A B =
        let inside : List SortedName = with_bound (Added Child) (a_value thread) (child_scope s g) in
        let is_child : IsThere (async_scope (named f.given y) s g) (Added Child) (a_value thread) = passed inside (Added Child) (named f.given y) (a_value (async s)) (a_value thread) child (refl, refl) in
        let is_end : IsThere (async_scope (named f.given y) s g) (Added ScopeCell) (a_scope_cell s) = passed inside (Added ScopeCell) (named f.given y) (a_value (async s)) (a_scope_cell s) end (refl, refl) in
        does_bind tt (does_perform asks_new_scope_cell no_more)
        (does_mask tt
        (does_bind tt
        (does_fork
        (does_bind tt (ended_does (operands.RightRead (binder.Own ActionResult)) a s s (refl, refl) A (exn, s, (refl, refl), refl))
        (does_perform asks_put_end (one_more (refl, refl) (one_more (refl, refl) no_more)))))
        (does_let p (inl (s, (refl, refl), (refl, refl), refl))
        (does_bind tt
        (does_catch tt (does_restore (passed inside (Added Restorer) (named f.given y) (a_value (async s)) a_masking_name restorer (refl, refl)) B) (does_then (stop_does s is_child is_end) (does_throw (refl, refl))))
        (does_then (stop_does s is_child is_end) (does_return (refl, refl)))))))

    waiting_does : {g : List SortedName} (e : Operand) (t : T) → CoreHas c g (operand f e) (a_value (async t)) → Does c g (fill f (waiting e)) (a_value t)
    waiting_does e t h =
        does_let tt h
        (does_bind tt (does_perform asks_read_end (one_more (t, (refl, refl), refl) no_more))
        (unless_thrown_does t (refl, refl) (does_return (refl, refl))))

    racing_side_does : {g : List SortedName} (e : Operand) (a : Template) (s u : T) → IsThere g (Added FirstEnd) (a_value (cell (either exn u))) → Does c (with_bound (Added Restorer) a_masking_name g) (fill f a) (a_value s)
        → CoreHas c (with_bound (Added ActionResult) (a_value s) (with_bound (Added Restorer) a_masking_name g)) (operand f e) (a_value (either exn u)) → Does c g (fill f (racing_side e a)) (a_value unit)
    racing_side_does e a s u first A h =
        does_mask tt
        (does_bind tt (ended_does e a s u (refl, refl) A h)
        (does_bind tt (does_perform asks_try_put (one_more first (one_more (refl, refl) no_more))) (does_return refl)))

    concurrent_side_does : {g : List SortedName} (a : Template) (s : T) → IsThere g (Added FirstEnd) (a_value (cell (either exn unit))) → Does c (with_bound (Added Restorer) a_masking_name g) (fill f a) (a_value s)
        → Does c g (fill f (concurrent_side a)) (a_value s)
    concurrent_side_does a s first A =
        does_mask tt
        (does_bind tt (ended_does (operands.RightRead (binder.Own ActionResult)) a s s (refl, refl) A (exn, s, (refl, refl), refl))
        (does_either tt tt (refl, refl)
        (does_bind tt (does_perform asks_try_put (one_more first (one_more (exn, unit, (refl, refl), refl) no_more))) (does_throw (refl, refl)))
        (does_bind tt (does_perform asks_try_put (one_more first (one_more (exn, refl) no_more))) (does_return (refl, refl)))))

    -- the scope of the first side, and that of the second one
    abbrev first_scope : T → List SortedName → List SortedName
    first_scope u g = with_bound (Added FirstEnd) (a_value (cell (either exn u))) g

    abbrev second_scope : T → T → List SortedName → List SortedName
    second_scope u s g = async_scope (Added FirstSide) s (first_scope u g)

    -- what both sides are for
    abbrev first_taken : Template → Template
    first_taken e = bind (binder.Own Ended) (perform_one TakeMVar (operands.Read (binder.Own FirstEnd))) (unless_thrown (binder.Own ActionResult) e)

    both_sides_does : {g : List SortedName} (a d e : Template) (u s t v : T) → Does c (child_scope s (first_scope u g)) (fill f a) (a_value s) → Does c (child_scope t (second_scope u s g)) (fill f d) (a_value t)
        → Does c (with_bound (Added ActionResult) (a_value u) (with_bound (Added Ended) (a_value (either exn u)) (async_scope (Added SecondSide) t (second_scope u s g)))) (fill f e) (a_value v)
        → Does c g (fill f (both_sides a d (binder.Own ActionResult) e)) (a_value v)
    both_sides_does a d e u s t v A B C =
        does_bind tt (does_perform asks_new_empty no_more)
        (scope_does a (binder.Own FirstSide) (scoping d (binder.Own SecondSide) (first_taken e)) s v tt refl refl refl A
        (scope_does d (binder.Own SecondSide) (first_taken e) t v tt refl refl refl B
        (does_bind tt (does_perform asks_take (one_more (refl, refl) no_more))
        (unless_thrown_does u (refl, refl) C))))

  cancelling_does : {g : List SortedName} {e : CoreEx} (t : T) → CoreHas c g e (a_value (async t)) → Does c g (derived form.Cancel (on_subject e)) (a_value unit)
  cancelling_does t h =
      does_let tt h
      (does_then (does_perform asks_throw_to (one_more (t, (refl, refl), refl) (one_more refl no_more)))
      (does_bind tt (does_perform asks_read_end (one_more (t, (refl, refl), refl) no_more)) (does_return refl)))

  module _ {s : List typing.TypedName} {a d : Core} (u v : T) (A : AllIn s a (a_value u)) (B : AllIn s d (a_value v)) where
    race_does : AllIn s (guard_core guards.Race a d) (a_value (either u v))
    race_does g w =
        let f = on_two a d in
        let r = either u v in
        let first = hides FirstEnd (a_value (cell (either exn r))) tt w in
        let second = hides FirstSide (a_value (async unit)) tt (thread_sees unit first) in
        both_sides_does f
        (racing_side (operands.RightLeft (binder.Own ActionResult)) (hole part.First)) (racing_side (operands.RightRight (binder.Own ActionResult)) (hole part.Second)) (give (operands.Read (binder.Own ActionResult)))
        r unit unit r
        (racing_side_does f (operands.RightLeft (binder.Own ActionResult)) (hole part.First) u r (refl, refl) (A _ (hides Restorer a_masking_name tt (child_sees unit first))) (exn, u, v, (refl, refl), refl))
        (racing_side_does f (operands.RightRight (binder.Own ActionResult)) (hole part.Second) v r (refl, refl) (B _ (hides Restorer a_masking_name tt (child_sees unit second))) (exn, u, v, (refl, refl), refl))
        (does_return (refl, refl))

    concurrently_does : AllIn s (guard_core guards.Concurrently a d) (a_value (pair u v))
    concurrently_does g w =
        let f = on_two a d in
        let first = hides FirstEnd (a_value (cell (either exn unit))) tt w in
        let second = hides FirstSide (a_value (async u)) tt (thread_sees u first) in
        both_sides_does f (concurrent_side (hole part.First)) (concurrent_side (hole part.Second))
        (bind (binder.Own FirstResult) (waiting (operands.Read (binder.Own FirstSide)))
        (bind (binder.Own SecondResult) (waiting (operands.Read (binder.Own SecondSide)))
        (give (operands.PairRead (binder.Own FirstResult) (binder.Own SecondResult)))))
        unit u v (pair u v)
        (concurrent_side_does f (hole part.First) u (refl, refl) (A _ (hides Restorer a_masking_name tt (child_sees u first))))
        (concurrent_side_does f (hole part.Second) v (refl, refl) (B _ (hides Restorer a_masking_name tt (child_sees v second))))
        (does_bind tt (waiting_does f (operands.Read (binder.Own FirstSide)) u (refl, refl))
        (does_bind tt (waiting_does f (operands.Read (binder.Own SecondSide)) v (refl, refl))
        (does_return (inr (u, v, (refl, refl), (refl, refl), refl)))))

  -- ---- forms of one shape
  bare_does : (s : List typing.TypedName) (o : _) (t : T) → t ≡ type_of_bare o → AllIn s (bare_core o) (a_value t)
  bare_does s z.MyThreadId t e = cast t thread e (λ g w. does_perform asks_my_thread no_more)
  bare_does s z.ClockMicros t e = cast t int e (λ g w. does_perform asks_clock no_more)
  bare_does s z.GetMaskingState t e = cast t text e (λ g w. does_perform asks_masking no_more)

  unary_does : (s : List typing.TypedName) (o : UnaryAction) (e : Ex) (t v : T) → Well e → typing.HasType c s e v → typing.Gives (row_unary_act o v) t → AllIn s (unary_core o (OfScript e)) (a_value t)
  unary_does s u.Return e t v q h r = cast t v r.1.1 (λ g w. does_return (arg e v v w q h refl))
  unary_does s u.PutStr e t v q h r = cast t unit r.1.1 (λ g w. does_perform asks_put_str (one_more (arg e v text w q h r.0.0) no_more))
  unary_does s u.PutStrLn e t v q h r = cast t unit r.1.1 (λ g w. does_perform asks_put_str_ln (one_more (arg e v text w q h r.0.0) no_more))
  unary_does s u.HPutStrLn e t v q h r = cast t unit r.1.1 (λ g w. does_perform asks_h_put_str_ln (one_more (arg e v text w q h r.0.0) no_more))
  unary_does s u.NewMVar e t v q h r = cast t (cell v) r.1.1 (λ g w. does_perform asks_new (one_more (arg e v v w q h refl) no_more))
  unary_does s u.TakeMVar e t v q h r = cast t (inner_of v) r.1.1 (λ g w. does_perform asks_take (one_more (arg e v (cell (inner_of v)) w q h (cell_is v r.0.0)) no_more))
  unary_does s u.ReadMVar e t v q h r = cast t (inner_of v) r.1.1 (λ g w. does_perform asks_read (one_more (arg e v (cell (inner_of v)) w q h (cell_is v r.0.0)) no_more))
  unary_does s u.TryTakeMVar e t v q h r = cast t (maybe (inner_of v)) r.1.1 (λ g w. does_perform asks_try_take (one_more (arg e v (cell (inner_of v)) w q h (cell_is v r.0.0)) no_more))
  unary_does s u.KillThread e t v q h r = cast t unit r.1.1 (λ g w. does_perform asks_throw_to (one_more (arg e v thread w q h r.0.0) (one_more refl no_more)))
  unary_does s u.ThreadDelay e t v q h r = cast t unit r.1.1 (λ g w. does_perform asks_delay (one_more (arg e v int w q h r.0.0) no_more))
  unary_does s u.Wait e t v q h r = cast t (inner_of v) r.1.1 (λ g w. waiting_does (on_subject (OfScript e)) operands.Subject (inner_of v) (arg e v (async (inner_of v)) w q h (async_is v r.0.0)))
  unary_does s u.Cancel e t v q h r = cast t unit r.1.1 (λ g w. cancelling_does (inner_of v) (arg e v (async (inner_of v)) w q h (async_is v r.0.0)))

  binary_does : (s : List typing.TypedName) (o : BinaryAction) (e f : Ex) (t v i : T) → Well e → Well f → typing.HasType c s e v → typing.HasType c s f i → typing.Gives (row_binary_act o v i) t → AllIn s (binary_core o (OfScript e) (OfScript f)) (a_value t)
  binary_does s b.PutMVar e f t v i q p h d r =
      cast t unit r.1.1 (λ g w. does_perform asks_put (one_more (arg e v (cell (inner_of v)) w q h (cell_is v r.0.0)) (one_more (arg f i (inner_of v) w p d r.0.1.0) no_more)))
  binary_does s b.TryPutMVar e f t v i q p h d r =
      cast t bool r.1.1 (λ g w. does_perform asks_try_put (one_more (arg e v (cell (inner_of v)) w q h (cell_is v r.0.0)) (one_more (arg f i (inner_of v) w p d r.0.1.0) no_more)))
  binary_does s b.ThrowTo e f t v i q p h d r = cast t unit r.1.1 (λ g w. does_perform asks_throw_to (one_more (arg e v thread w q h r.0.0) (one_more (arg f i exn w p d r.0.1.0) no_more)))

  -- ---- calls
  count_is : (s : List typing.TypedName) (es : Exs) (us : List T) → typing.HaveTypes c s es us → length us ≡ typing.count es
  count_is s none us h = ap length h
  count_is s (more e es) us h = ap length h.4 ∙ (let r = count_is s es h.1 h.3 in let z : length (h.0 ∷ h.1) ≡ 1 + typing.count es = omega (arith, r) in z)

  call_does : (s : List typing.TypedName) (x : Name) (es : Exs) (us : List T) (t : T) → WellAll es → typing.HaveTypes c s es us → typing.Calls (typing.meant_act c s x (typing.count es)) us t → AllIn s (Call x.text es) (a_value t)
  call_does s x es us t q h d g w =
      let r = meant_is c x (typing.count es) (typing.look s x.text) d.0 t d.1 in
      let sig = r.0 in
      let n : length sig.params ≡ length us = r.4 ∙ sym (count_is s es us h) in
      let same : sig.params ≡ us = each_same sig.params us n (subst (λ z. AllMet (typing.is_each z us)) (sym r.3) d.2) in
      subst (λ z. Does c g (Call x.text es) (a_value z)) r.5
      (does_call sig r.1 r.2 q (subst (λ z. typing.HaveTypes c z es sig.params) (sym w.same) (subst (typing.HaveTypes c s es) (sym same) h)))

  -- ---- every action, block and choice of a block
  chosen_at : (s : List typing.TypedName) (t v : T) {a : Core} → AllIn s a (a_value v) → t ≡ v → AllIn s a (a_value t)
  chosen_at s t v h e = cast t v e h

  mutual
    pub act_does : (s : List typing.TypedName) (a : SurfaceAction) (t : T) → WellAct a → ActHas c s a t
        → AllIn s (core a) (a_value t)
    act_does s (tree.bare o p) t w h = bare_does s o t h
    act_does s (tree.unary_act o p e) t w h = unary_does s o e t h.0 w h.1 h.2
    act_does s (tree.binary_act o p e f) t w h = binary_does s o e f t h.0 h.1 w.0 w.1 h.2 h.3 h.4
    act_does s (tree.throw_io p r e) t w h = λ g q. does_throw (arg e h.1 exn q w h.3 h.4.0.0)
    act_does s (tree.new_empty p r) t w h = cast t (cell h.0) h.2.1.1 (λ g q. does_perform asks_new_empty no_more)
    act_does s (tree.call x es) t w h = call_does s x es h.0 t w h.1 h.2
    act_does s (tree.choose_act p e a d) t w h =
        cast t h.1 h.6.1.1 (λ g q. does_if (arg e h.0 bool q w.0 h.3 h.6.0.0) (bl_does s a h.1 w.1 h.4 g q) (cast h.1 h.2 h.6.0.1.0 (bl_does s d h.2 w.2 h.5) g q))
    act_does s (tree.case_act p e arms) t w h = λ g q. arms_does s p arms e h.0 t w.0 w.1 h.1 h.2.0 h.2.1 g q
    act_does s (tree.modify p e x a) t w h =
        cast t unit h.2.1.2.1.1 (λ g q. modify_does x.text (inner_of h.0) (arg e h.0 (cell (inner_of h.0)) q w.0 h.1 (cell_is h.0 h.2.0))
        (cast (inner_of h.0) h.2.1.0 h.2.1.2.0.0 (bl_does (typing.bound x (inner_of h.0) ∷ s) a h.2.1.0 w.1 h.2.1.1.1) _ (binds x (inner_of h.0) (hides Restorer a_masking_name tt (hides TheCell (a_value (cell (inner_of h.0))) tt q)))))
    act_does s (tree.scoped k.ForkIo p a) t w h = cast t thread h.2.1.1 (λ g q. does_fork (bl_does s a h.0 w h.1 g q))
    act_does s (tree.scoped k.MaskOnly p a) t w h = cast t h.0 h.2.1.1 (λ g q. does_mask tt (bl_does s a h.0 w h.1 _ (hides Restorer a_masking_name tt q)))
    act_does s (tree.scoped k.UninterruptibleMaskOnly p a) t w h = cast t h.0 h.2.1.1 (λ g q. does_mask_hard tt (bl_does s a h.0 w h.1 _ (hides Restorer a_masking_name tt q)))
    act_does s (tree.masking m.ForkIoWithUnmask p x a) t w h = cast t thread h.2.1.1 (λ g q. does_fork_unmask tt (bl_does (typing.masked x ∷ s) a h.0 w h.1.1 _ (masks x q)))
    act_does s (tree.masking m.Mask p x a) t w h = cast t h.0 h.2.1.1 (λ g q. does_mask tt (bl_does (typing.masked x ∷ s) a h.0 w h.1.1 _ (masks x q)))
    act_does s (tree.masking m.UninterruptibleMask p x a) t w h = cast t h.0 h.2.1.1 (λ g q. does_mask_hard tt (bl_does (typing.masked x ∷ s) a h.0 w h.1.1 _ (masks x q)))
    act_does s (tree.restore p x a) t w h =
        λ g q. does_restore (refl, mask_there g x.text q.tidy (ap (λ z. typing.look z x.text) q.same ∙ no_fault c x (typing.look s x.text) h.0)) (bl_does s a t w h.1 g q)
    act_does s (tree.catch p a x d) t w h =
        cast t h.0 h.4.1.1 (λ g q. does_catch tt (bl_does s a h.0 w.0 h.2 g q) (cast h.0 h.1 h.4.0.0 (bl_does (typing.bound x exn ∷ s) d h.1 w.1 h.3.1) _ (binds x exn q)))
    act_does s (tree.guard guards.OnException p a d) t w h = cast t h.0 h.4.1.1 (on_exception_does (bl_does s a h.0 w.0 h.2) (bl_does s d h.1 w.1 h.3))
    act_does s (tree.guard guards.Finally p a d) t w h = cast t h.0 h.4.1.1 (finally_does (bl_does s a h.0 w.0 h.2) (bl_does s d h.1 w.1 h.3))
    act_does s (tree.guard guards.Race p a d) t w h = cast t (either h.0 h.1) h.4.1.1 (race_does h.0 h.1 (bl_does s a h.0 w.0 h.2) (bl_does s d h.1 w.1 h.3))
    act_does s (tree.guard guards.Concurrently p a d) t w h = cast t (pair h.0 h.1) h.4.1.1 (concurrently_does h.0 h.1 (bl_does s a h.0 w.0 h.2) (bl_does s d h.1 w.1 h.3))
    act_does s (tree.bracket p a x d f) t w h =
        let v = h.0 in let y = h.2.1.0 in let o = h.2.1.1 in
        cast t o h.2.1.4.1.1 (λ g q.
        let r = hides Restorer a_masking_name tt q in
        let i = hides Instance an_instance tt (binds x v r) in
        let B = bl_does (typing.bound x v ∷ s) d y w.1 h.2.1.2 in
        bracket_does tt refl (bl_does s a v w.0 h.1 _ r) (B _ (hides BracketFault (a_value exn) tt i)) (B _ (hides BracketResult (a_value o) tt i)) (bl_does (typing.bound x v ∷ s) f o w.2 h.2.1.3 _ i))
    act_does s (tree.timeout p e a) t w h =
        cast t (maybe h.1) h.4.1.1 (λ g q. timeout_does h.1 (bl_does s a h.1 w.1 h.3) g q (OfScript e) (arg e h.0 int q w.0 h.2 h.4.0.0))
    act_does s (tree.with_async p a x d) t w h =
        let B = bl_does (typing.bound x (async h.0) ∷ s) d t w.1 (subst (λ z. BlHas c (typing.bound x z ∷ s) d t) h.2.1.1.1 h.2.2.1) in
        λ g q. scope_does (on_named (block_core a) x.text (block_core d)) (hole part.First) binder.Given (hole part.Second) h.0 t tt refl refl refl (bl_does s a h.0 w.0 h.1 _ (child_sees h.0 q)) (B _ (binds x (async h.0) (thread_sees h.0 q)))

    pub bl_does : (s : List typing.TypedName) (a : Bl) (t : T) → WellBl a → BlHas c s a t → AllIn s (block_core a) (a_value t)
    bl_does s (tree.last a) t w h = act_does s a t w h
    bl_does s (tree.then a d) t w h = λ g q. does_then (act_does s a h.0 w.0 h.1 g q) (bl_does s d t w.1 h.2 g q)
    bl_does s (tree.bind x a d) t w h = λ g q. does_bind tt (act_does s a h.0 w.0 h.1 g q) (bl_does (typing.bound x h.0 ∷ s) d t w.1 h.3 _ (binds x h.0 q))
    bl_does s (tree.let_in x e d) t w h = λ g q. does_let tt (arg e h.0 h.0 q w.0 h.1 refl) (bl_does (typing.bound x h.0 ∷ s) d t w.1 h.3 _ (binds x h.0 q))

    arms_does : (s : List typing.TypedName) (p : Pos) (arms : ActArms) (e : Ex) (v t : T) → Well e → WellActArms arms → typing.HasType c s e v → typing.Has (form_of_acts arms) v → ActArmsHave c s p v arms t → AllIn s (arms_core (OfScript e) arms) (a_value t)
    arms_does s p (tree.maybe_acts a x d) e v t w wa h f k =
        cast t k.0 k.4.1.1 (λ g q. does_maybe tt (arg e v (maybe (inner_of v)) q w h (ap (λ z. maybe (inner_of z)) f.1 ∙ sym f.1)) (bl_does s a k.0 wa.0 k.2 g q)
        (cast k.0 k.1 k.4.0.0 (bl_does (typing.bound x (inner_of v) ∷ s) d k.1 wa.1 k.3.1) _ (binds x (inner_of v) q)))
    arms_does s p (tree.either_acts x a y d) e v t w wa h f k =
        cast t k.0 k.4.1.1 (λ g q. does_either tt tt (arg e v (either (first_of v) (second_of v)) q w h (ap (λ z. either (first_of z) (second_of z)) f.2 ∙ sym f.2))
        (bl_does (typing.bound x (first_of v) ∷ s) a k.0 wa.0 k.2.1 _ (binds x (first_of v) q)) (cast k.0 k.1 k.4.0.0 (bl_does (typing.bound y (second_of v) ∷ s) d k.1 wa.1 k.3.1) _ (binds y (second_of v) q)))
    arms_does s p (tree.list_acts a x y d) e v t w wa h f k =
        let l : list (inner_of v) ≡ v = ap (λ z. list (inner_of z)) f.1 ∙ sym f.1 in
        cast t k.0 k.4.1.1 (λ g q. does_list tt tt (arg e v (list (inner_of v)) q w h l) (bl_does s a k.0 wa.0 k.2 g q)
        (cast k.0 k.1 k.4.0.0 (bl_does (typing.bound y (list (inner_of v)) ∷ typing.bound x (inner_of v) ∷ s) d k.1 wa.1 (subst (λ z. BlHas c (typing.bound y z ∷ typing.bound x (inner_of v) ∷ s) d k.1) (sym l) k.3.1.1)) _ (binds y (list (inner_of v)) (binds x (inner_of v) q))))
    arms_does s p (tree.pair_acts x y d) e v t w wa h f k =
        λ g q. does_pair tt tt (arg e v (pair (first_of v) (second_of v)) q w h (ap (λ z. pair (first_of z) (second_of z)) f.2 ∙ sym f.2))
        (bl_does (typing.bound y (second_of v) ∷ typing.bound x (first_of v) ∷ s) d t wa k.1.1 _ (binds y (second_of v) (binds x (first_of v) q)))
