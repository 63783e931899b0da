-- Worked runs, computed in the definitions: what each prints, its marks, who has finished.
use Rattle.std.proofs.Common.{◌≡◌, ℕ, Bool, true, List, [], ◌∷◌, ◌++◌, Option, Some, None, refl, codes}
use Rattle.hs_base.specs.declared.exn.Exn.TheVariants.{UserInterrupt, ThreadKilled}
use Rattle.hs_rules.specs.declared.entry.Entry.{Entry}
use Rattle.hs_rules.specs.declared.entry.Entry.TheVariants.{Local, Op, Receive, Wake, Finish, Tick}
use Rattle.hs_base.specs.declared.tree.forms.UnaryForm.TheVariants.{Show}
use Rattle.hs_base.specs.declared.tree.forms.BareAction.TheVariants.{MyThreadId, GetMaskingState}
use Rattle.hs_base.specs.declared.tree.forms.UnaryAction.TheVariants.{Return, PutStrLn, NewMVar, TakeMVar, ReadMVar}
use Rattle.hs_base.specs.declared.tree.forms.BinaryAction.TheVariants.{PutMVar, ThrowTo}
use Rattle.hs_base.specs.declared.tree.forms.BlockAction.TheVariants.{ForkIo, MaskOnly, UninterruptibleMaskOnly}
use Rattle.hs_base.specs.declared.tree.forms.GuardAction.TheVariants.{Finally}
use Rattle.rules_expansion.specs.trees.Trees.{lit, unary, nothing_more, exception}
use Rattle.rules_expansion.specs.trees.Programs.{SurfaceAction, bare, unary_act, binary_act, throw_io, new_empty, scoped, catch, guard, bracket, timeout, case_act, maybe_acts, Bl, last, then, bind}
use Rattle.hs_rules.specs.State.{State, Mark, AcquiredBy, ReleasedBy, Thread}
use Rattle.hs_rules.specs.Entries.{uncaught_line}
use Rattle.hs_rules.specs.Runs.{after}
use Rattle.hs_rules.proofs.SmallScripts.{here, named, text, int, var, ty, say, say_it, script, nap, driven}

abbrev ended : List Thread → List Bool
ended [] = []
ended (th ∷ ths) = th.finished ∷ ended ths

-- what a state shows
pub record Seen : Type 0 where
  pub out : List ℕ
  pub err : List ℕ
  pub marks : List Mark
  pub finished : List Bool

abbrev seen : Option State → Option Seen
seen None = None
seen (Some s) = Some (record { out = s.output; err = s.errors; marks = s.marks; finished = ended s.threads })

-- ---- given histories

-- main :: IO () = { putStrLn "hello" };
hello : seen (after (script (last (say (codes "hello")))) (Local 0 1 ∷ Op 0 ∷ Finish 0 ∷ [])) ≡ Some (record { out = codes "hello\n"; err = []; marks = []; finished = true ∷ [] })
hello = refl

-- two statements take seven steps
two : seen (after (script (then (say (codes "a")) (last (say (codes "b"))))) (Local 0 2 ∷ Op 0 ∷ Local 0 2 ∷ Op 0 ∷ Finish 0 ∷ [])) ≡ Some (record { out = codes "a\nb\n"; err = []; marks = []; finished = true ∷ [] })
two = refl

-- nothing is legal after the end of main
after_main : seen (after (script (last (say (codes "hello")))) (Local 0 1 ∷ Op 0 ∷ Finish 0 ∷ Tick 5 ∷ [])) ≡ None
after_main = refl

-- ---- scheduled ones

abbrev one_thread : List Entry
one_thread = Local 0 1 ∷ Op 0 ∷ Finish 0 ∷ Wake 0 ∷ []

-- the other thread first
abbrev two_threads : List Entry
two_threads = Receive 0 ∷ Receive 1 ∷ Local 1 1 ∷ Op 1 ∷ Finish 1 ∷ Local 0 1 ∷ Op 0 ∷ Finish 0 ∷ Wake 1 ∷ Wake 0 ∷ []

abbrev state_now : List ℕ → Bl → Bl
state_now x b = bind (named x) (bare GetMaskingState here) (then (say_it x) b)

-- getMaskingState outside, in a mask_, and in an uninterruptibleMask_
masking : seen (driven (script (state_now (codes "s") (then (scoped MaskOnly here (state_now (codes "s") (last (unary_act Return here (text []))))) (last (scoped UninterruptibleMaskOnly here (state_now (codes "s") (last (unary_act Return here (lit here nothing_more))))))))) one_thread 100) ≡ Some (record { out = codes "Unmasked\nMaskedInterruptible\nMaskedUninterruptible\n"; err = []; marks = []; finished = true ∷ [] })
masking = refl

-- a bracket: acquire, use, release
bracketed : seen (driven (script (last (bracket here (last (say (codes "a"))) (named (codes "x")) (last (say (codes "c"))) (last (say (codes "b")))))) one_thread 100) ≡ Some (record { out = codes "a\nb\nc\n"; err = []; marks = ReleasedBy 0 0 ∷ AcquiredBy 0 0 ∷ []; finished = true ∷ [] })
bracketed = refl

-- a bracket whose middle throws: released once, and main's line
bracket_throws : seen (driven (script (last (bracket here (last (say (codes "a"))) (named (codes "x")) (last (say (codes "c"))) (last (throw_io here ty (lit here (exception UserInterrupt))))))) one_thread 100) ≡ Some (record { out = codes "a\nc\n"; err = codes "uncaught exception in main: user interrupt\n"; marks = ReleasedBy 0 0 ∷ AcquiredBy 0 0 ∷ []; finished = true ∷ [] })
bracket_throws = refl

-- finally
finally_runs : seen (driven (script (last (guard Finally here (last (throw_io here ty (lit here (exception UserInterrupt)))) (last (say (codes "c")))))) one_thread 100) ≡ Some (record { out = codes "c\n"; err = codes "uncaught exception in main: user interrupt\n"; marks = []; finished = true ∷ [] })
finally_runs = refl

-- a handler runs masked
handler : seen (driven (script (last (catch here (last (throw_io here ty (lit here (exception UserInterrupt)))) (named (codes "e")) (bind (named (codes "s")) (bare GetMaskingState here) (then (say_it (codes "s")) (last (unary_act PutStrLn here (unary Show here (var (codes "e")))))))))) one_thread 100) ≡ Some (record { out = codes "MaskedInterruptible\nuser interrupt\n"; err = []; marks = []; finished = true ∷ [] })
handler = refl

-- an exception that nothing catches in a forked thread has a line, and ThreadKilled has none
uncaught : seen (driven (script (then (scoped ForkIo here (last (throw_io here ty (lit here (exception UserInterrupt))))) (then (scoped ForkIo here (last (throw_io here ty (lit here (exception ThreadKilled))))) (last (nap 5))))) (Local 1 1 ∷ Op 1 ∷ Finish 1 ∷ Local 2 1 ∷ Finish 2 ∷ one_thread) 100) ≡ Some (record { out = []; err = (uncaught_line 1 UserInterrupt ++ []) ++ []; marks = []; finished = true ∷ true ∷ true ∷ [] })
uncaught = refl

-- two threads that throw at each other: one of them receives, and its own throw is withdrawn
abbrev mutual_throw : Bl
mutual_throw =
    bind (named (codes "m")) (bare MyThreadId here)
    (bind (named (codes "c")) (scoped ForkIo here (last (binary_act ThrowTo here (var (codes "m")) (lit here (exception UserInterrupt)))))
    (then (binary_act ThrowTo here (var (codes "c")) (lit here (exception ThreadKilled)))
    (last (say (codes "main lives")))))

-- both throw, and then thread 1 receives: main goes on
thrown_at : seen (driven (script mutual_throw) (Receive 1 ∷ Finish 1 ∷ Local 1 1 ∷ Op 1 ∷ Local 0 1 ∷ Op 0 ∷ Finish 0 ∷ []) 100) ≡ Some (record { out = codes "main lives\n"; err = []; marks = []; finished = true ∷ true ∷ [] })
thrown_at = refl

-- ---- timeouts

abbrev told : SurfaceAction → Bl
told a = bind (named (codes "y")) a (last (case_act here (var (codes "y")) (maybe_acts (last (say (codes "late"))) (named (codes "z")) (last (say (codes "in time"))))))

late : seen (driven (script (told (timeout here (int 5) (last (nap 90))))) two_threads 300) ≡ Some (record { out = codes "late\n"; err = []; marks = ReleasedBy 0 0 ∷ AcquiredBy 0 0 ∷ []; finished = true ∷ true ∷ [] })
late = refl

early : seen (driven (script (told (timeout here (int 50) (last (nap 5))))) two_threads 300) ≡ Some (record { out = codes "in time\n"; err = []; marks = ReleasedBy 0 0 ∷ AcquiredBy 0 0 ∷ []; finished = true ∷ true ∷ [] })
early = refl

-- a timeout of no time doesn't run its action
at_once : seen (driven (script (told (timeout here (int 0) (last (say (codes "never")))))) one_thread 300) ≡ Some (record { out = codes "late\n"; err = []; marks = []; finished = true ∷ [] })
at_once = refl

-- ---- cells

-- a take that waits is served by a put; a read leaves the value
cells : seen (driven (script (bind (named (codes "m")) (new_empty here ty) (then (scoped ForkIo here (bind (named (codes "x")) (unary_act TakeMVar here (var (codes "m"))) (last (say_it (codes "x"))))) (then (nap 5) (then (binary_act PutMVar here (var (codes "m")) (text (codes "v"))) (last (nap 5))))))) two_threads 300) ≡ Some (record { out = codes "v\n"; err = []; marks = []; finished = true ∷ true ∷ [] })
cells = refl

read_back : seen (driven (script (bind (named (codes "m")) (unary_act NewMVar here (text (codes "v"))) (bind (named (codes "x")) (unary_act ReadMVar here (var (codes "m"))) (bind (named (codes "y")) (unary_act TakeMVar here (var (codes "m"))) (then (say_it (codes "x")) (last (say_it (codes "y")))))))) one_thread 300) ≡ Some (record { out = codes "v\nv\n"; err = []; marks = []; finished = true ∷ [] })
read_back = refl
