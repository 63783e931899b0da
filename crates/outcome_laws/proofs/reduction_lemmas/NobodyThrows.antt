-- Where nobody throws at a thread nobody ever does.
use Rattle.std.proofs.Common.{◌≡◌, ℕ, zero, suc, ◌==◌, List, [], ◌∷◌, ◌++◌, length, slice_get, slice_set, Bool, true, false, cond, Option, Some, None, refl, sym, ap, ◌∙◌, subst, bytes_eq, ⊎_elim}
use Rattle.hs_base.specs.declared.mask.Mask.{Mask}
use Rattle.hs_base.specs.declared.mask.Mask.TheVariants.{Unmasked}
use Rattle.hs_base.specs.declared.exn.Exn.{Exn}
use Rattle.hs_base.specs.declared.exn.Exn.TheVariants.{Timeout, BlockedIndefinitely}
use Rattle.hs_rules.specs.declared.entry.Entry.{Entry}
use Rattle.hs_rules.specs.declared.entry.Entry.TheVariants as entry
use Rattle.rules_expansion.specs.Names.{Name}
use Rattle.rules_meaning.specs.Values as val
use Rattle.rules_meaning.specs.Values.{V, UnitValue, Truth, Nothing, Just, Left, Right, Pair, Nil, Cons, Exception, Restore, Inst, Env, with_name, value_at, Outcome, Gives, Throws, Stuck, Outcomes, AllGive, OneThrows, OneStuck}
use Rattle.rules_expansion.specs.Core.{Core, Return, ThrowIo, Let, Bind, If, CaseMaybe, CaseEither, CaseList, CasePair, Call, Perform, Catch, ActionFunction, action_named}
use Rattle.rules_expansion.specs.Core as core
use Rattle.rules_meaning.specs.CoreMeaning.{Code, value_of_core, values_of_core}
use Rattle.rules_meaning.specs.Meaning.{values_of_exs}
use Rattle.hs_rules.specs.Terms.{Operation, Part, Ret, Throw, Do, Performs, Frame, BindTo, CatchBy, MaskIn, Term, term, mask_at}
use Rattle.hs_rules.specs.LocalRules.{on_value, on_values, thrown, chosen, chosen_maybe, chosen_either, chosen_list, chosen_pair, with_params, entered, called, restored, first_step, ret_step, throw_step, on_top, local, on_term, locals}
use Rattle.rules_waiting.specs.Waiting.{Reason, Throwing, Waiting, Flying, leaves, with_flying, flight_of, flying_to}
use Rattle.hs_rules.specs.State.{AcquiredBy, ReleasedBy, Thread, State, with_term, move, frames_of, resume, answer, resume_all, block, thread_with, spawn, first}
use Rattle.hs_rules.specs.Primitives.{line_feed}
use Rattle.hs_rules.specs.Entries.{stranded, next}
use Rattle.hs_laws.specs.cases.Cases.{with_cell, printed, told}
use Rattle.hs_laws.proofs.cases_lemmas.Entering.{case_of}
use Rattle.hs_laws.specs.BracketPhases.{Blocks}
use Rattle.hs_laws.specs.Standing.{IsResult}
use Rattle.hs_laws.proofs.Lists.{cond_cases, equal_or, item_same, item_other, item_more, those}
use Rattle.hs_laws.proofs.Changes as change
use Rattle.hs_laws.proofs.Changes.{Stands, Changes, changes, receiving}
use Rattle.outcome_laws.specs.reduction.NoThrowTo.{NoThrowTo, NoThrowToOperation, NoThrowToPart, NoThrowToFrames, NoThrowToTerm, NoThrowToThread, NoThrowToActions, NoThrowToState, NobodyThrows}

-- ---- local rules

-- of a term, or of an action function, that may be there
abbrev NoThrowToResult : Option Term → Type 0
NoThrowToResult None = Unit {0}
NoThrowToResult (Some u) = NoThrowToTerm u

abbrev NoThrowToFunction : Option ActionFunction → Type 0
NoThrowToFunction None = Unit {0}
NoThrowToFunction (Some d) = NoThrowTo d.body

cond_known : (b : Bool) (d : ActionFunction) (o : Option ActionFunction) → NoThrowTo d.body → NoThrowToFunction o → NoThrowToFunction (cond b (Some d) o)
cond_known true d o f g = f
cond_known false d o f g = g

known_named : (f : List ℕ) (ds : List ActionFunction) → NoThrowToActions ds → NoThrowToFunction (action_named f ds)
known_named f [] h = tt
known_named f (d ∷ ds) h = cond_known (bytes_eq f d.name) d (action_named f ds) h.0 (known_named f ds h.1)

frames_both : (gs fs : List Frame) → NoThrowToFrames gs → NoThrowToFrames fs → NoThrowToFrames (gs ++ fs)
frames_both [] fs g f = f
frames_both (BindTo x b env ∷ gs) fs g f = (g.0, frames_both gs fs g.1 f)
frames_both (CatchBy x b env ∷ gs) fs g f = (g.0, frames_both gs fs g.1 f)
frames_both (MaskIn m ∷ gs) fs g f = frames_both gs fs g f

top_goes : (fs : List Frame) (o : Option Term) → NoThrowToFrames fs → NoThrowToResult o → NoThrowToResult (on_top fs o)
top_goes fs None f g = tt
top_goes fs (Some u) f g = (g.0, frames_both u.frames fs g.1 f)

value_goes : (r : Outcome) (k : V → Option Term) → ((v : V) → NoThrowToResult (k v)) → NoThrowToResult (on_value r k)
value_goes (Gives v) k h = h v
value_goes (Throws e) k h = (tt, tt)
value_goes Stuck k h = tt

values_go : (r : Outcomes) (k : List V → Option Term) → ((vs : List V) → NoThrowToResult (k vs)) → NoThrowToResult (on_values r k)
values_go (AllGive vs) k h = h vs
values_go (OneThrows e) k h = (tt, tt)
values_go OneStuck k h = tt

thrown_goes : (v : V) → NoThrowToResult (thrown v)
thrown_goes (Exception e) = (tt, tt)
thrown_goes _ = tt

chosen_goes : (a b : Core) (env : Env) → NoThrowTo a → NoThrowTo b → (v : V) → NoThrowToResult (chosen a b env v)
chosen_goes a b env f g (Truth true) = (f, tt)
chosen_goes a b env f g (Truth false) = (g, tt)
chosen_goes a b env f g _ = tt

maybe_goes : (a : Core) (x : Name) (b : Core) (env : Env) → NoThrowTo a → NoThrowTo b → (v : V) → NoThrowToResult (chosen_maybe a x b env v)
maybe_goes a x b env f g Nothing = (f, tt)
maybe_goes a x b env f g (Just u) = (g, tt)
maybe_goes a x b env f g _ = tt

either_goes : (x : Name) (a : Core) (y : Name) (b : Core) (env : Env) → NoThrowTo a → NoThrowTo b → (v : V) → NoThrowToResult (chosen_either x a y b env v)
either_goes x a y b env f g (Left u) = (f, tt)
either_goes x a y b env f g (Right u) = (g, tt)
either_goes x a y b env f g _ = tt

list_goes : (a : Core) (x y : Name) (b : Core) (env : Env) → NoThrowTo a → NoThrowTo b → (v : V) → NoThrowToResult (chosen_list a x y b env v)
list_goes a x y b env f g Nil = (f, tt)
list_goes a x y b env f g (Cons u w) = (g, tt)
list_goes a x y b env f g _ = tt

pair_goes : (x y : Name) (b : Core) (env : Env) → NoThrowTo b → (v : V) → NoThrowToResult (chosen_pair x y b env v)
pair_goes x y b env g (Pair u w) = (g, tt)
pair_goes x y b env g _ = tt

restored_goes : (a : Core) (env : Env) → NoThrowTo a → (o : Option V) → NoThrowToResult (restored a env o)
restored_goes a env f (Some (Restore m)) = (f, tt)
restored_goes a env f _ = tt

entered_goes : (body : Core) (o : Option Env) → NoThrowTo body → NoThrowToResult (entered body o)
entered_goes body None f = tt
entered_goes body (Some env) f = (f, tt)

called_goes : (d : Option ActionFunction) → NoThrowToFunction d → (vs : List V) → NoThrowToResult (called d vs)
called_goes None k vs = tt
called_goes (Some d) k vs = entered_goes d.body (with_params d.params vs []) k

first_goes : (code : Code) → NoThrowToActions code.actions → (m : Mask) (a : Core) (env : Env) → NoThrowTo a → NoThrowToResult (first_step code m a env)
first_goes code c m (Return e) env f = value_goes (value_of_core code.functions env e) _ (λ v. (tt, tt))
first_goes code c m (ThrowIo e) env f = value_goes (value_of_core code.functions env e) _ thrown_goes
first_goes code c m (Let x e a) env f = value_goes (value_of_core code.functions env e) _ (λ v. (f, tt))
first_goes code c m (Bind x a b) env f = (f.0, (f.1, tt))
first_goes code c m (If e a b) env f = value_goes (value_of_core code.functions env e) _ (chosen_goes a b env f.0 f.1)
first_goes code c m (CaseMaybe e a x b) env f = value_goes (value_of_core code.functions env e) _ (maybe_goes a x b env f.0 f.1)
first_goes code c m (CaseEither e x a y b) env f = value_goes (value_of_core code.functions env e) _ (either_goes x a y b env f.0 f.1)
first_goes code c m (CaseList e a x y b) env f = value_goes (value_of_core code.functions env e) _ (list_goes a x y b env f.0 f.1)
first_goes code c m (CasePair e x y b) env f = value_goes (value_of_core code.functions env e) _ (pair_goes x y b env f)
first_goes code c m (Call g es) env f = values_go (values_of_exs code.functions env es) _ (called_goes (action_named g code.actions) (known_named g code.actions c))
first_goes code c m (Perform p es) env f = values_go (values_of_core code.functions env es) _ (λ vs. (f, tt))
first_goes code c m (Catch a x b) env f = (f.0, (f.1, tt))
first_goes code c m (core.Restore r a) env f = restored_goes a env f (value_at r env)
first_goes code c m _ env f = (f, tt)

ret_goes : (v : V) (fs : List Frame) → NoThrowToFrames fs → NoThrowToResult (ret_step v fs)
ret_goes v [] h = tt
ret_goes v (BindTo x b env ∷ fs) h = h
ret_goes v (CatchBy x b env ∷ fs) h = (tt, h.1)
ret_goes v (MaskIn m ∷ fs) h = (tt, h)

throw_goes : (e : Exn) (fs : List Frame) → NoThrowToFrames fs → NoThrowToResult (throw_step e fs)
throw_goes e [] h = tt
throw_goes e (BindTo x b env ∷ fs) h = (tt, h.1)
throw_goes e (CatchBy x b env ∷ fs) h = h
throw_goes e (MaskIn m ∷ fs) h = (tt, h)

local_goes : (code : Code) → NoThrowToActions code.actions → (p : Part) (fs : List Frame) → NoThrowToPart p → NoThrowToFrames fs → NoThrowToResult (local code p fs)
local_goes code c (Ret v) fs p f = ret_goes v fs f
local_goes code c (Throw e) fs p f = throw_goes e fs f
local_goes code c (Do a env) fs p f = top_goes fs (first_step code (mask_at fs) a env) f (first_goes code c (mask_at fs) a env p)
local_goes code c (Performs o) fs p f = tt

term_goes : (o : Option Term) (k : Term → Option Term) → NoThrowToResult o → ((u : Term) → NoThrowToTerm u → NoThrowToResult (k u)) → NoThrowToResult (on_term o k)
term_goes None k h g = tt
term_goes (Some u) k h g = g u h

locals_go : (code : Code) → NoThrowToActions code.actions → (k : ℕ) (u : Term) → NoThrowToTerm u → NoThrowToResult (locals code k u)
locals_go code c zero u h = h
locals_go code c (suc k) u h = term_goes (local code u.part u.frames) (λ w. locals code k w) (local_goes code c u.part u.frames h.0 h.1) (λ w g. locals_go code c k w g)

-- ---- one thread moves

abbrev AllThreads : List Thread → Type 0
AllThreads ths = (t : ℕ) → NoThrowToThread (slice_get ths t)

set_threads : (ths : List Thread) (v : ℕ) (z y : Thread) → slice_get ths v ≡ Some z → AllThreads ths → NoThrowToTerm y.term → AllThreads (slice_set ths v y)
set_threads ths v z y e h g t =
    ⊎_elim
    (λ q. subst (λ i. NoThrowToThread (slice_get (slice_set ths v y) i)) (sym q.1) (subst NoThrowToThread (sym (item_same ths v z y e)) g))
    (λ q. subst NoThrowToThread (sym (item_other ths v t y q.1)) (h t))
    (equal_or t v)

at_thread : (ths : List Thread) (v : ℕ) (z : Thread) → slice_get ths v ≡ Some z → AllThreads ths → NoThrowToTerm z.term
at_thread ths v z e h = let k : NoThrowToThread (Some z) = subst NoThrowToThread e (h v) in k

with_threads : (ths : List Thread) (v : ℕ) (k : Option Thread → Term) (o : Option Thread) → slice_get ths v ≡ o → AllThreads ths → ((z : Thread) → o ≡ Some z → NoThrowToTerm (k o)) → AllThreads (with_term v o (k o) ths)
with_threads ths v k None e h g = h
with_threads ths v k (Some z) e h g = set_threads ths v z (record { term = k (Some z); finished = z.finished }) e h (g z refl)

flight_tail : (t : ℕ) (r : Reason V) (fs : List Flying) → with_flying t r fs ≡ [] → (fs ≡ []) × (with_flying t r [] ≡ [])
flight_tail t (Throwing u e) fs h = absurd (cc h)
flight_tail t _ fs h = (h, refl)

flight_left : (v : ℕ) (ws : List (Waiting V)) → flight_of ws ≡ [] → flight_of (leaves v ws) ≡ []
flight_left v [] h = refl
flight_left v (w ∷ ws) h =
    let k = flight_tail w.thread w.reason (flight_of ws) h in
    let r = flight_left v ws k.0 in
    cond_cases (λ vs. flight_of vs ≡ []) (w.thread == v) (leaves v ws) (w ∷ leaves v ws) (λ q. r) (λ q. ap (with_flying w.thread w.reason) r ∙ k.1)

flight_more : (w : Waiting V) (ws : List (Waiting V)) → with_flying w.thread w.reason [] ≡ [] → flight_of ws ≡ [] → flight_of (ws ++ w ∷ []) ≡ []
flight_more w [] n h = n
flight_more w (v ∷ ws) n h =
    let k = flight_tail v.thread v.reason (flight_of ws) h in
    ap (with_flying v.thread v.reason) (flight_more w ws n k.0) ∙ k.1

resume_keeps : (v : ℕ) (p : Part) (s : State) → NoThrowToPart p → NoThrowToState s → NoThrowToState (resume v p s)
resume_keeps v p s g h = record {
  threads = with_threads s.threads v (λ o. term p (frames_of o)) (slice_get s.threads v) refl h.threads (by (slice_get s.threads v) refl);
  flight = flight_left v s.blocked h.flight;
}
  where
    by : (o : Option Thread) → slice_get s.threads v ≡ o → (z : Thread) → o ≡ Some z → NoThrowToTerm (term p (frames_of o))
    by None e z q = absurd (cc q)
    by (Some y) e z q = (g, (at_thread s.threads v y e h.threads).1)

resumed_keeps : (us : List ℕ) (p : Part) (s : State) → NoThrowToPart p → NoThrowToState s → NoThrowToState (resume_all us p s)
resumed_keeps [] p s g h = h
resumed_keeps (u ∷ us) p s g h = resumed_keeps us p (resume u p s) g (resume_keeps u p s g h)

answer_keeps : (v : ℕ) (a : V) (s : State) → NoThrowToState s → NoThrowToState (answer v a s)
answer_keeps v a s h = resume_keeps v (Ret a) s tt h

move_keeps : (v : ℕ) (x : Term) (s : State) → NoThrowToTerm x → NoThrowToState s → NoThrowToState (move v x s)
move_keeps v x s g h = record { threads = with_threads s.threads v (λ o. x) (slice_get s.threads v) refl h.threads (λ z e. g); flight = h.flight }

block_keeps : (v : ℕ) (r : Reason V) (s : State) → with_flying v r [] ≡ [] → NoThrowToState s → NoThrowToState (block v r s)
block_keeps v r s n h = record { threads = h.threads; flight = flight_more (record { thread = v; reason = r }) s.blocked n h.flight }

spawn_keeps : (x : Term) (s : State) → NoThrowToTerm x → NoThrowToState s → NoThrowToState (spawn x s)
spawn_keeps x s g h = record { threads = λ t. item_more NoThrowToThread s.threads (thread_with x) t (h.threads t) (λ e. g); flight = h.flight }

-- ---- an entry

-- who blocks without a throw at a thread sends no exception
none_sent : (t : ℕ) (r : Reason V) (op : Operation) → Blocks r op → NoThrowToOperation op → with_flying t r [] ≡ []
none_sent t (Throwing u e) op b n = absurd (subst NoThrowToOperation b n)
none_sent t _ op b n = refl

result_none : (p : Part) → IsResult p → NoThrowToPart p
result_none (Ret v) i = tt
result_none (Throw e) i = tt
result_none (Do a env) i = absurd i
result_none (Performs op) i = absurd i

module _ (code : Code) (c : NoThrowToActions code.actions) (s : State) (h : NoThrowToState s) where
  stands_none : {t : ℕ} {op : Operation} → Stands s t op → NoThrowToOperation op
  stands_none {t} a = subst NoThrowToPart a.part (at_thread s.threads t a.th a.is h.threads).0

  -- a thread is answered in a state with the same threads, of whom the same wait
  answered : (t : ℕ) (v : V) (u : State) → u.threads ≡ s.threads → u.blocked ≡ s.blocked → NoThrowToState (answer t v u)
  answered t v u e f = answer_keeps t v u (record { threads = λ i. subst (λ ths. NoThrowToThread (slice_get ths i)) (sym e) (h.threads i); flight = ap flight_of f ∙ h.flight })

  forked : (t : ℕ) (m : Mask) (a : Core) (env : Env) → NoThrowTo a → NoThrowToState (spawn (term (Do a env) (MaskIn m ∷ [])) (answer t (val.Thread (length s.threads)) s))
  forked t m a env n = spawn_keeps (term (Do a env) (MaskIn m ∷ [])) (answer t (val.Thread (length s.threads)) s) (n, tt) (answer_keeps t (val.Thread (length s.threads)) s h)

  changed_keeps : {e : Entry} {u : State} → Changes code s e u → NoThrowToState u
  changed_keeps (change.moves {t} {k} {th} {x} a b l) = move_keeps t x s (subst NoThrowToResult l (locals_go code c (suc k) th.term (at_thread s.threads t th a.0 h.threads))) h
  changed_keeps (change.blocks {t} {op} r a k b n) = block_keeps t r s (none_sent t r op b (stands_none a)) h
  changed_keeps (change.ends {t} p a k i) = resume_keeps t p s (result_none p i) h
  changed_keeps (change.prints {t} {x} a) = answered t UnitValue (printed x s) refl refl
  changed_keeps (change.prints_a_line {t} {x} a) = answered t UnitValue (printed line_feed (printed x s)) refl refl
  changed_keeps (change.tells_a_line {t} {x} a) = answered t UnitValue (told line_feed (told x s)) refl refl
  changed_keeps (change.makes {t} v o a m) = answered t v (with_cell o s) refl refl
  changed_keeps (change.makes_a_timeout {t} a) = answered t (Exception (Timeout s.next_timeout)) (record s { next_timeout = suc s.next_timeout }) refl refl
  changed_keeps (change.acquires {t} a) = answered t (Inst s.next_instance) (record s { marks = AcquiredBy s.next_instance t ∷ s.marks; next_instance = suc s.next_instance }) refl refl
  changed_keeps (change.releases {t} {i} a) = answered t UnitValue (record s { marks = ReleasedBy i t ∷ s.marks }) refl refl
  changed_keeps (change.forks {t} m {a} {env} k) = forked t m a env (stands_none k)
  changed_keeps (change.forks_unmasked {t} m {r} {a} {env} k) = forked t m a (with_name r (Restore Unmasked) env) (stands_none k)
  changed_keeps (change.receives {t} {f} a o q) = resume_keeps t (Throw f.exn) (answer f.thrower UnitValue s) tt (answer_keeps f.thrower UnitValue s h)
  changed_keeps (change.wakes {t} q) = answer_keeps t UnitValue s h
  changed_keeps (change.finishes {t} {th} line a f b) = record {
    threads = set_threads s.threads t th (record { term = th.term; finished = true }) a.0 h.threads (at_thread s.threads t th a.0 h.threads);
    flight = h.flight;
  }
  changed_keeps (change.ticks q) = record { threads = h.threads; flight = h.flight }
  changed_keeps change.strands = resumed_keeps (stranded s) (Throw BlockedIndefinitely) s tt h
  changed_keeps (change.holds i o u k) = let g = changed_keeps k in record { threads = g.threads; flight = g.flight }
  changed_keeps (change.serves w v u r a k) = answer_keeps w v u (changed_keeps k)
  changed_keeps (change.all p v u k) = resumed_keeps (those p u.blocked) (Ret v) u tt (changed_keeps k)

pub nobody_throws_kept : (code : Code) (s : State) (e : Entry) (u : State) → NobodyThrows code s → next code s e ≡ Some u → NobodyThrows code u
nobody_throws_kept code s e u h l = (h.0, changed_keeps code h.0 s h.1 (changes code s e u l))

pub none_receives : (code : Code) (s : State) (t : ℕ) (u : State) → NobodyThrows code s → next code s (entry.Receive t) ≡ Some u → ⊥
none_receives code s t u h l = let r = receiving (case_of code s (entry.Receive t) u l) in let z : [] ≡ r.first ∷ r.others = ap (flying_to t) (sym h.1.flight) ∙ r.flying in cc z

pub first_throws_none : (code : Code) (main : Core) → NoThrowToActions code.actions → NoThrowTo main → NobodyThrows code (first main)
first_throws_none code main c m = (c, record { threads = by; flight = refl })
  where
    by : (t : ℕ) → NoThrowToThread (slice_get (first main).threads t)
    by zero = (m, tt)
    by (suc t) = tt
