-- Each expansion is a fine action, and what follows for the runs of a script.
use Rattle.std.proofs.Common.{◌≡◌, ℕ, List, [], ◌∷◌, Option, Some, None, false, slice_get, refl, sym, ap, subst, arith, ◌≤◌, ◌+◌, codes}
use Rattle.hs_rules.specs.declared.entry.Entry.{Entry}
use Rattle.hs_base.specs.declared.tree.forms.BareAction.{BareAction}
use Rattle.hs_base.specs.declared.tree.forms.BareAction.TheVariants as z
use Rattle.hs_base.specs.declared.tree.forms.UnaryAction.{UnaryAction}
use Rattle.hs_base.specs.declared.tree.forms.UnaryAction.TheVariants as u
use Rattle.hs_base.specs.declared.tree.forms.BinaryAction.{BinaryAction}
use Rattle.hs_base.specs.declared.tree.forms.BinaryAction.TheVariants as b
use Rattle.hs_base.specs.declared.tree.forms.BlockAction.{BlockAction}
use Rattle.hs_base.specs.declared.tree.forms.BlockAction.TheVariants as k
use Rattle.hs_base.specs.declared.tree.forms.MaskingAction.{MaskingAction}
use Rattle.hs_base.specs.declared.tree.forms.MaskingAction.TheVariants as m
use Rattle.hs_base.specs.declared.tree.forms.GuardAction.{GuardAction}
use Rattle.hs_base.specs.declared.tree.forms.GuardAction.TheVariants as g
use Rattle.rules_expansion.specs.trees.Programs as tree
use Rattle.rules_expansion.specs.trees.Programs.{SurfaceAction, Bl, ActArms, Par, Bd, Fn}
use Rattle.rules_expansion.specs.Names.{Name, Added}
use Rattle.rules_expansion.specs.declared.hidden.Hidden.TheVariants.{Restorer, Caught, InTime, ActionResult, SideEnding, WasFirst, FirstEnd}
use Rattle.rules_expansion.specs.Core.{CoreEx, Read, JustRead, Nil, LeftRead, RightRead, RightNil, Core, Return, ThrowIo, Bind, CaseEither, Perform, Catch, MaskWith, Restore, ActionFunction, action_named}
use Rattle.rules_expansion.specs.declared.primitive.Primitive.TheVariants.{TryPutMVar}
use Rattle.rules_expansion.specs.declared.template.Derived.TheVariants as form
use Rattle.rules_expansion.specs.Expansion.{derived, on_both, on_subject, scope_stop, scope, bare_core, unary_core, binary_core, scoped_core, masking_core, guard_core, core, block_core, arms_core, with_action, actions_of}
use Rattle.hs_rules.specs.State.{Thread, State, resume_all, first}
use Rattle.hs_rules.specs.Entries.{stranded, next, IsIdle, Leads}
use Rattle.hs_rules.specs.Terms.{Throw}
use Rattle.rules_waiting.specs.Waiting.{sleepers_of}
use Rattle.hs_base.specs.declared.exn.Exn.TheVariants.{BlockedIndefinitely}
use Rattle.hs_rules.specs.Runs.{Run, begun, first_of, IsRun}
use Rattle.rules_meaning.specs.CoreMeaning.{code_of}
use Rattle.rules_expansion.specs.Expansion.{body_of, main_of}
use Rattle.hs_laws.specs.BracketLaw.{Brackets}
use Rattle.hs_laws.specs.BracketPhases.{Owing, BracketsKept, Fine, fine_return, fine_throw, fine_let, fine_bind, fine_if, fine_maybe, fine_either, fine_list, fine_pair, fine_call, fine_primitive, fine_fork, fine_fork_unmask, fine_catch, fine_mask, fine_mask_hard, fine_restore, fine_bracket, FineCode}
use Rattle.hs_laws.proofs.Steps.{FineDef, def_fine}
use Rattle.hs_rules.specs.declared.entry.Entry.TheVariants as entry
use Rattle.hs_laws.specs.MaskLaw.{Received, ReceivedAfter, MasksKept}
use Rattle.hs_rules.specs.Endings.{AllWait, IsQuiet}
use Rattle.hs_laws.proofs.NothingLegal.{quiet, idle, may_strand}
use Rattle.hs_laws.proofs.WaitsBegan.{mask_law}
use Rattle.hs_laws.specs.CellLaw.{calls, CellsKept}
use Rattle.hs_laws.proofs.CellHistories.{Tracks, tracks, kept_cell, answers_calls}
use Rattle.hs_laws.proofs.RunParts.{prefix_runs}
use Rattle.hs_laws.proofs.Stranding.{are_stranded}
use Rattle.hs_laws.specs.Standing.{Standing, NoneWorks, made_so_far}
use Rattle.hs_rules.specs.Histories.{steps_of}
use Rattle.hs_laws.proofs.Growing.{run_most}
use Rattle.std.proofs.lemmas.Option.{same_Some}
use Rattle.hs_laws.proofs.States.{Holds, first_holds, run_kept, brackets, owing, standing}

-- ---- the forms

fine_in_time : {a : Core} → Fine a → Fine (Bind (Added InTime) a (Return (JustRead (Added InTime))))
fine_in_time f = fine_bind tt f fine_return

fine_timeout : {a : Core} (e : CoreEx) → Fine a → Fine (derived form.Timeout (on_both e a))
fine_timeout e f =
    fine_let
    (fine_if (fine_in_time f)
    (fine_if fine_return
    (fine_bind tt (fine_primitive tt)
    (fine_bind tt (fine_primitive tt)
    (fine_catch tt
    (fine_bracket tt (fine_fork_unmask (fine_restore (fine_bind tt (fine_primitive tt) (fine_primitive tt)))) (fine_mask_hard (fine_primitive tt)) (fine_in_time f))
    (fine_if fine_return fine_throw))))))

-- the parts of async scopes
fine_stop : Fine scope_stop
fine_stop = fine_mask_hard (fine_bind tt (fine_primitive tt) (fine_bind tt (fine_primitive tt) fine_return))

fine_ended : {a : Core} (e : CoreEx) → Fine a → Fine (Catch (Bind (Added ActionResult) (Restore (Added Restorer) a) (Return e)) (Added Caught) (Return (LeftRead (Added Caught))))
fine_ended e f = fine_catch tt (fine_bind tt (fine_restore f) fine_return) fine_return

fine_scope : {a c : Core} {x : Name} → Fine a → Fine c → Fine (scope a x c)
fine_scope f h =
    fine_bind tt (fine_primitive tt)
    (fine_mask
    (fine_bind tt (fine_fork (fine_bind tt (fine_ended (RightRead (Added ActionResult)) f) (fine_primitive tt)))
    (fine_let
    (fine_bind tt (fine_catch tt (fine_restore h) (fine_bind tt fine_stop fine_throw))
    (fine_bind tt fine_stop fine_return)))))

fine_wait : (e : CoreEx) → Fine (derived form.Wait (on_subject e))
fine_wait e = fine_let (fine_bind tt (fine_primitive tt) (fine_either fine_throw fine_return))

fine_racing_side : {a : Core} (e : CoreEx) → Fine a
    → Fine (MaskWith (Added Restorer)
    (Bind (Added SideEnding) (Catch (Bind (Added ActionResult) (Restore (Added Restorer) a) (Return e)) (Added Caught) (Return (LeftRead (Added Caught))))
    (Bind (Added WasFirst) (Perform TryPutMVar (Read (Added FirstEnd) ∷ Read (Added SideEnding) ∷ [])) (Return Nil))))
fine_racing_side e f = fine_mask (fine_bind tt (fine_ended e f) (fine_bind tt (fine_primitive tt) fine_return))

fine_concurrent_side : {a : Core} → Fine a
    → Fine (MaskWith (Added Restorer)
    (Bind (Added SideEnding) (Catch (Bind (Added ActionResult) (Restore (Added Restorer) a) (Return (RightRead (Added ActionResult)))) (Added Caught) (Return (LeftRead (Added Caught))))
    (CaseEither (Read (Added SideEnding))
    (Added Caught) (Bind (Added WasFirst) (Perform TryPutMVar (Read (Added FirstEnd) ∷ LeftRead (Added Caught) ∷ [])) (ThrowIo (Read (Added Caught))))
    (Added ActionResult) (Bind (Added WasFirst) (Perform TryPutMVar (Read (Added FirstEnd) ∷ RightNil ∷ [])) (Return (Read (Added ActionResult)))))))
fine_concurrent_side f =
    fine_mask
    (fine_bind tt (fine_ended (RightRead (Added ActionResult)) f)
    (fine_either (fine_bind tt (fine_primitive tt) fine_throw) (fine_bind tt (fine_primitive tt) fine_return)))

fine_bare : (w : BareAction) → Fine (bare_core w)
fine_bare z.ClockMicros = fine_primitive tt
fine_bare _ = fine_primitive tt

fine_unary : (w : UnaryAction) (e : CoreEx) → Fine (unary_core w e)
fine_unary u.Return e = fine_return
fine_unary u.Wait e = fine_wait e
fine_unary u.Cancel e = fine_let (fine_bind tt (fine_primitive tt) (fine_bind tt (fine_primitive tt) fine_return))
fine_unary _ e = fine_primitive tt

fine_binary : (w : BinaryAction) (e f : CoreEx) → Fine (binary_core w e f)
fine_binary b.PutMVar e f = fine_primitive tt
fine_binary b.TryPutMVar e f = fine_primitive tt
fine_binary b.ThrowTo e f = fine_primitive tt

fine_scoped : (w : BlockAction) {a : Core} → Fine a → Fine (scoped_core w a)
fine_scoped k.ForkIo f = fine_fork f
fine_scoped k.MaskOnly f = fine_mask f
fine_scoped k.UninterruptibleMaskOnly f = fine_mask_hard f

fine_masking : (w : MaskingAction) (r : Name) {a : Core} → Fine a → Fine (masking_core w r a)
fine_masking m.ForkIoWithUnmask r f = fine_fork_unmask f
fine_masking m.Mask r f = fine_mask f
fine_masking m.UninterruptibleMask r f = fine_mask_hard f

fine_guard : (w : GuardAction) {a c : Core} → Fine a → Fine c → Fine (guard_core w a c)
fine_guard g.OnException f h = fine_catch tt f (fine_bind tt h fine_throw)
fine_guard g.Finally f h = fine_mask (fine_bind tt (fine_catch tt (fine_restore f) (fine_bind tt h fine_throw)) (fine_bind tt h fine_return))
fine_guard g.Race f h =
    fine_bind tt (fine_primitive tt)
    (fine_scope (fine_racing_side _ f)
    (fine_scope (fine_racing_side _ h)
    (fine_bind tt (fine_primitive tt) (fine_either fine_throw fine_return))))
fine_guard g.Concurrently f h =
    fine_bind tt (fine_primitive tt)
    (fine_scope (fine_concurrent_side f)
    (fine_scope (fine_concurrent_side h)
    (fine_bind tt (fine_primitive tt)
    (fine_either fine_throw (fine_bind tt (fine_wait _) (fine_bind tt (fine_wait _) fine_return))))))

-- ---- actions and blocks

mutual
  pub fine_core : (a : SurfaceAction) → Fine (core a)
  fine_core (tree.bare w p) = fine_bare w
  fine_core (tree.unary_act w p e) = fine_unary w _
  fine_core (tree.binary_act w p e f) = fine_binary w _ _
  fine_core (tree.throw_io p t e) = fine_throw
  fine_core (tree.new_empty p t) = fine_primitive tt
  fine_core (tree.call f es) = fine_call
  fine_core (tree.choose_act p e a c) = fine_if (fine_block a) (fine_block c)
  fine_core (tree.case_act p e arms) = fine_arms _ arms
  fine_core (tree.modify p e x a) =
      fine_let (fine_mask (fine_bind tt (fine_primitive tt) (fine_bind tt (fine_catch tt (fine_restore (fine_block a)) (fine_bind tt (fine_primitive tt) fine_throw)) (fine_primitive tt))))
  fine_core (tree.scoped w p a) = fine_scoped w (fine_block a)
  fine_core (tree.masking w p x a) = fine_masking w _ (fine_block a)
  fine_core (tree.restore p x a) = fine_restore (fine_block a)
  fine_core (tree.catch p a x c) = fine_catch tt (fine_block a) (fine_block c)
  fine_core (tree.guard w p a c) = fine_guard w (fine_block a) (fine_block c)
  fine_core (tree.bracket p a x c d) = fine_bracket tt (fine_block a) (fine_block c) (fine_block d)
  fine_core (tree.timeout p e a) = fine_timeout _ (fine_block a)
  fine_core (tree.with_async p a x c) = fine_scope (fine_block a) (fine_block c)

  pub fine_block : (a : Bl) → Fine (block_core a)
  fine_block (tree.last a) = fine_core a
  fine_block (tree.then a c) = fine_bind tt (fine_core a) (fine_block c)
  fine_block (tree.bind x a c) = fine_bind tt (fine_core a) (fine_block c)
  fine_block (tree.let_in x e c) = fine_let (fine_block c)

  pub fine_arms : (e : CoreEx) (arms : ActArms) → Fine (arms_core e arms)
  fine_arms e (tree.maybe_acts a x c) = fine_maybe (fine_block a) (fine_block c)
  fine_arms e (tree.either_acts x a y c) = fine_either (fine_block a) (fine_block c)
  fine_arms e (tree.list_acts a x y c) = fine_list (fine_block a) (fine_block c)
  fine_arms e (tree.pair_acts x y a) = fine_pair (fine_block a)

-- ---- scripts

fine_with : (f : List ℕ) (ps : List Par) (d : Bd) (rest : List ActionFunction) → FineCode rest → FineCode (with_action f ps d rest)
fine_with f ps (tree.pure_body w e) rest h = h
fine_with f ps (tree.io_body w a) rest h = (fine_block a, h)

pub fine_actions : (ds : List Fn) → FineCode (actions_of ds)
fine_actions [] = tt
fine_actions (d ∷ ds) = fine_with d.name.text d.params d.body (actions_of ds) (fine_actions ds)

fine_body : (o : Option ActionFunction) (main : Core) → FineDef o → body_of o ≡ Some main → Fine main
fine_body None main f e = absurd (cc e)
fine_body (Some d) main f e = let same : d.body ≡ main = cc e in subst Fine same f

pub fine_main : (ds : List Fn) (main : Core) → main_of ds ≡ Some main → Fine main
fine_main ds main e = fine_body (action_named (codes "main") (actions_of ds)) main (def_fine (codes "main") (actions_of ds) (fine_actions ds)) e

-- ---- runs

begun_is : (o : Option Core) (s : State) → begun o ≡ Some s → (main : Core) × (o ≡ Some main) × (first main ≡ s)
begun_is None s e = absurd (cc e)
begun_is (Some main) s e = (main, refl, same_Some (first main) s e)

-- a run of a script begins with a main
pub run_from_main : (ds : List Fn) (es : List Entry) (s : State) → IsRun ds es s → (main : Core) × (main_of ds ≡ Some main) × Run (code_of ds) (first main) es s
run_from_main ds es s r = let k = begun_is (main_of ds) r.0 r.1 in (k.0, k.1, subst (λ x. Run (code_of ds) x es s) (sym k.2) r.2)

pub start_holds : (ds : List Fn) (s : State) → first_of ds ≡ Some s → Holds s
start_holds ds s e = let k = begun_is (main_of ds) s e in subst Holds k.2 (first_holds k.0 (fine_main ds k.0 k.1))

pub run_holds : (ds : List Fn) (es : List Entry) (s : State) → IsRun ds es s → Holds s
run_holds ds es s r = run_kept (code_of ds) (fine_actions ds) es r.0 s r.2 (start_holds ds r.0 r.1)

pub brackets_of : (ds : List Fn) (es : List Entry) (s : State) → IsRun ds es s → Brackets s
brackets_of ds es s r = brackets s (run_holds ds es s r)

pub owing_of : (ds : List Fn) (es : List Entry) (s : State) → IsRun ds es s → Owing s
owing_of ds es s r = owing s (run_holds ds es s r)

pub standing_of : (ds : List Fn) (es : List Entry) (s : State) → IsRun ds es s → Standing s
standing_of ds es s r = standing s (run_holds ds es s r)

pub made_of : (ds : List Fn) (es : List Entry) (s : State) → IsRun ds es s → made_so_far s ≤ steps_of es + 1
made_of ds es s r =
    let k = begun_is (main_of ds) r.0 r.1 in
    omega (arith, run_most (code_of ds) es r.0 s r.2, ap made_so_far (sym k.2))

-- where a thread receives an exception in a run
pub received_of : (ds : List Fn) (es : List Entry) (u v : State) (t : ℕ) → IsRun ds es u → next (code_of ds) u (entry.Receive t) ≡ Some v → ReceivedAfter ds es u t
received_of ds es u v t r n =
    let k = begun_is (main_of ds) r.0 r.1 in
    record {
      start = r.0;
      begins = r.1;
      received = subst (λ x. Received (code_of ds) x es u t) k.2 (mask_law (code_of ds) (fine_actions ds) k.0 (fine_main ds k.0 k.1) es u v t (subst (λ x. Run (code_of ds) x es u) (sym k.2) r.2) n);
    }

-- in a run's state where all wait, nothing but a Tick is legal
pub quiet_of : (ds : List Fn) (es : List Entry) (s : State) → IsRun ds es s → AllWait s → IsQuiet (code_of ds) s
quiet_of ds es s r w = quiet (code_of ds) s w (owing_of ds es s r)

-- in one where they wait so, there is no work, and who is to be stranded may be
pub idle_of : (ds : List Fn) (es : List Entry) (s : State) → IsRun ds es s → NoneWorks s → IsIdle (code_of ds) s
idle_of ds es s r w = idle (code_of ds) s w (owing_of ds es s r)

pub strands_of : (ds : List Fn) (es : List Entry) (s : State) → IsRun ds es s → NoneWorks s → (main : Thread) → slice_get s.threads 0 ≡ Some main → main.finished ≡ false → sleepers_of s.blocked ≡ [] →
    (t : ℕ) (ts : List ℕ) → stranded s ≡ t ∷ ts → Leads (code_of ds) s entry.Stranded (resume_all (stranded s) (Throw BlockedIndefinitely) s)
strands_of ds es s r w = may_strand (code_of ds) s w (owing_of ds es s r)

-- ---- the laws of a history

pub brackets_law : (ds : List Fn) (es : List Entry) (u : State) → IsRun ds es u → BracketsKept ds es
brackets_law ds es u r = record {
  released = λ front back s split a. brackets_of ds front s (prefix_runs ds es front back u s r split a).0;
  owed = λ front back s split a. owing_of ds front s (prefix_runs ds es front back u s r split a).0;
}

cell_tracks : (ds : List Fn) (es : List Entry) (u : State) (m : ℕ) → IsRun ds es u → Tracks m u None (calls ds es m)
cell_tracks ds es u m r = let k = begun_is (main_of ds) r.0 r.1 in tracks ds (fine_actions ds) es r.0 u k.0 m r.1 (sym k.2) r.2 (start_holds ds r.0 r.1)

pub cells_law : (ds : List Fn) (es : List Entry) (u : State) → IsRun ds es u → CellsKept ds es
cells_law ds es u r = record {
  kept = λ front back s m c split a some. let p = prefix_runs ds es front back u s r split a in kept_cell ds front s m (cell_tracks ds front s m p.0) c some;
  answers = λ front back e s v m split a n. let p = prefix_runs ds es front (e ∷ back) u s r split a in answers_calls ds front s m (cell_tracks ds front s m p.0) (code_of ds) e v (run_holds ds front s p.0) n;
}

pub masks_law : (ds : List Fn) (es : List Entry) (u : State) → IsRun ds es u → MasksKept ds es
masks_law ds es u r = record {
  received = λ front back t s split a.
      let p = prefix_runs ds es front (entry.Receive t ∷ back) u s r split a in
      received_of ds front s p.1.0 t p.0 p.1.1.0;
  stranded = λ front back s v split a n. are_stranded (code_of ds) s v n;
}
