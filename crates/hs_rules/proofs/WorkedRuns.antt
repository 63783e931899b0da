-- Larger worked runs, computed in the definitions under several schedules.
use Rattle.std.proofs.Common.{◌≡◌, ℕ, Bool, true, false, List, [], ◌∷◌, Option, Some, None, refl, codes}
use Rattle.hs_base.specs.declared.exn.Exn.TheVariants.{ThreadKilled}
use Rattle.hs_rules.specs.declared.entry.Entry.{Entry}
use Rattle.hs_rules.specs.declared.entry.Entry.TheVariants.{Local, Op, Receive, Wake, Finish}
use Rattle.hs_base.specs.declared.tree.forms.UnaryForm.TheVariants.{ErrorCall}
use Rattle.hs_base.specs.declared.tree.forms.BinaryForm.TheVariants.{Equal}
use Rattle.hs_base.specs.declared.tree.forms.MaskingAction.TheVariants as mask
use Rattle.hs_base.specs.declared.tree.forms.BareAction.TheVariants.{MyThreadId, GetMaskingState}
use Rattle.hs_base.specs.declared.tree.forms.UnaryAction.TheVariants.{ThreadDelay}
use Rattle.hs_base.specs.declared.tree.forms.BinaryAction.TheVariants.{ThrowTo}
use Rattle.hs_base.specs.declared.tree.forms.BlockAction.TheVariants.{MaskOnly, UninterruptibleMaskOnly}
use Rattle.rules_expansion.specs.trees.Trees.{lit, none, more, unary, binary, exception}
use Rattle.rules_expansion.specs.trees.Programs.{bare, unary_act, binary_act, call, choose_act, scoped, masking, restore, catch, bracket, last, then, bind, Fn}
use Rattle.hs_rules.specs.State.{State, Thread}
use Rattle.hs_rules.proofs.SmallScripts.{here, named, text, int, var, say, say_it, def, run_it, throwing, show_it, new, fork, take, put, nothing, return_unit, kill, nap, driven}

-- the same for each of three threads, in this order
abbrev turns : ℕ → List Entry → List Entry
turns t es = Receive t ∷ Wake t ∷ Local t 1 ∷ Op t ∷ Finish t ∷ es

abbrev up : List Entry
up = turns 0 (turns 1 (turns 2 []))

abbrev down : List Entry
down = turns 2 (turns 1 (turns 0 []))

-- what is printed, and whether main has finished
pub record Told : Type 0 where
  pub out : List ℕ
  pub err : List ℕ
  pub main : Bool

abbrev main_ended : List Thread → Bool
main_ended [] = false
main_ended (th ∷ ths) = th.finished

abbrev told : Option State → Option Told
told None = None
told (Some s) = Some (record { out = s.output; err = s.errors; main = main_ended s.threads })

abbrev done : List ℕ → Option Told
done x = Some (record { out = x; err = []; main = true })

-- ---- masking states: in a handler, outside, under mask, under restore, in a thread forked under mask
abbrev states : List Fn
states =
    def (codes "say") [] (bind (named (codes "s")) (bare GetMaskingState here) (last (say_it (codes "s"))))
    ∷ def (codes "main") []
    (then (catch here (last (throwing (codes "x"))) (named (codes "e")) (last (run_it (codes "say"))))
    (then (run_it (codes "say"))
    (last (masking mask.Mask here (named (codes "r"))
    (then (run_it (codes "say"))
    (then (restore here (named (codes "r")) (last (run_it (codes "say"))))
    (new (codes "d")
    (fork (codes "_") (then (run_it (codes "say")) (last (put (codes "d") nothing)))
    (last (take (codes "d")))))))))))
    ∷ []

states_up : told (driven states up 100) ≡ done (codes "MaskedInterruptible\nUnmasked\nMaskedInterruptible\nUnmasked\nMaskedInterruptible\n")
states_up = refl

-- ---- the waiters of a cell are served in the order in which they came
abbrev waiters : List Fn
waiters =
    def (codes "taker") (codes "m" ∷ codes "d" ∷ codes "w" ∷ codes "s" ∷ [])
    (then (unary_act ThreadDelay here (var (codes "w"))) (bind (named (codes "x")) (take (codes "m")) (then (say_it (codes "s")) (then (say_it (codes "x")) (last (put (codes "d") nothing))))))
    ∷ def (codes "main") []
    (new (codes "m") (new (codes "d")
    (fork (codes "_") (last (call (named (codes "taker")) (more (var (codes "m")) (more (var (codes "d")) (more (int 20) (more (text (codes "b")) none))))))
    (fork (codes "_") (last (call (named (codes "taker")) (more (var (codes "m")) (more (var (codes "d")) (more (int 10) (more (text (codes "a")) none))))))
    (then (nap 30) (then (put (codes "m") (text (codes "1"))) (then (take (codes "d")) (then (put (codes "m") (text (codes "2"))) (last (take (codes "d")))))))))))
    ∷ []

waiters_up : told (driven waiters up 200) ≡ done (codes "a\n1\nb\n2\n")
waiters_up = refl

waiters_down : told (driven waiters down 200) ≡ done (codes "a\n1\nb\n2\n")
waiters_down = refl

-- ---- a thread that is blocked under mask is interrupted there
abbrev blocked : List Fn
blocked =
    def (codes "main") []
    (new (codes "m") (new (codes "d")
    (fork (codes "t") (last (scoped MaskOnly here (then (put (codes "d") nothing) (then (catch here (last (take (codes "m"))) (named (codes "e")) (last (show_it (codes "e")))) (last (put (codes "d") nothing))))))
    (then (take (codes "d")) (then (kill (codes "t")) (last (take (codes "d"))))))))
    ∷ []

blocked_up : told (driven blocked up 200) ≡ done (codes "thread killed\n")
blocked_up = refl

blocked_down : told (driven blocked down 200) ≡ done (codes "thread killed\n")
blocked_down = refl

-- and under uninterruptibleMask it isn't: nobody goes on
abbrev stuck : List Fn
stuck =
    def (codes "main") []
    (new (codes "m") (new (codes "d")
    (fork (codes "t") (last (scoped UninterruptibleMaskOnly here (then (put (codes "d") nothing) (last (take (codes "m"))))))
    (then (take (codes "d")) (last (kill (codes "t")))))))
    ∷ []

stuck_up : told (driven stuck up 100) ≡ Some (record { out = []; err = []; main = false })
stuck_up = refl

-- ---- two threads that throw at each other: one of them lives
abbrev duels : List Fn
duels =
    def (codes "duel") (codes "a" ∷ codes "d" ∷ []) (bind (named (codes "t")) (take (codes "a")) (then (kill (codes "t")) (last (put (codes "d") (text (codes "won"))))))
    ∷ def (codes "main") []
    (new (codes "a") (new (codes "b") (new (codes "d")
    (then (masking mask.Mask here (named (codes "r"))
    (fork (codes "s") (last (catch here (last (restore here (named (codes "r")) (last (call (named (codes "duel")) (more (var (codes "a")) (more (var (codes "d")) none)))))) (named (codes "e")) (last (put (codes "d") (text (codes "lost"))))))
    (fork (codes "t") (last (catch here (last (restore here (named (codes "r")) (last (call (named (codes "duel")) (more (var (codes "b")) (more (var (codes "d")) none)))))) (named (codes "e")) (last (put (codes "d") (text (codes "lost"))))))
    (then (put (codes "a") (var (codes "t"))) (last (put (codes "b") (var (codes "s"))))))))
    (bind (named (codes "x")) (take (codes "d")) (bind (named (codes "y")) (take (codes "d"))
    (last (choose_act here (binary Equal here (var (codes "x")) (var (codes "y"))) (last (say (codes "both"))) (last (say (codes "one")))))))))))
    ∷ []

duels_up : told (driven duels up 300) ≡ done (codes "one\n")
duels_up = refl

duels_down : told (driven duels down 300) ≡ done (codes "one\n")
duels_down = refl

-- no Receive before both have thrown
abbrev late_receive : List Entry
late_receive = Local 0 1 ∷ Op 0 ∷ Local 1 1 ∷ Op 1 ∷ Local 2 1 ∷ Op 2 ∷ Receive 1 ∷ Receive 2 ∷ Finish 1 ∷ Finish 2 ∷ Finish 0 ∷ []

duels_late : told (driven duels late_receive 300) ≡ done (codes "one\n")
duels_late = refl

-- ---- throwTo at oneself, also under mask, and at a finished thread
abbrev oneself : List Fn
oneself =
    def (codes "main") []
    (bind (named (codes "t")) (bare MyThreadId here)
    (then (catch here (last (scoped MaskOnly here (then (binary_act ThrowTo here (var (codes "t")) (unary ErrorCall here (text (codes "self")))) (last (say (codes "no")))))) (named (codes "e")) (last (show_it (codes "e"))))
    (fork (codes "u") (last return_unit)
    (then (nap 5) (then (binary_act ThrowTo here (var (codes "u")) (lit here (exception ThreadKilled))) (last (say (codes "back"))))))))
    ∷ []

oneself_down : told (driven oneself down 200) ≡ done (codes "self\nback\n")
oneself_down = refl

-- ---- releases: where the body ends, where it throws, where the release itself throws
abbrev jobs : List Fn
jobs =
    def (codes "job") (codes "n" ∷ [])
    (last (bracket here (last (say (codes "acquire"))) (named (codes "x"))
    (then (say (codes "release")) (last (choose_act here (binary Equal here (var (codes "n")) (int 2)) (last (throwing (codes "late"))) (last return_unit))))
    (last (choose_act here (binary Equal here (var (codes "n")) (int 0)) (last return_unit) (last (throwing (codes "body")))))))
    ∷ def (codes "try1") (codes "n" ∷ []) (last (catch here (last (call (named (codes "job")) (more (var (codes "n")) none))) (named (codes "e")) (last (show_it (codes "e")))))
    ∷ def (codes "main") [] (then (call (named (codes "try1")) (more (int 0) none)) (then (call (named (codes "try1")) (more (int 1) none)) (last (call (named (codes "try1")) (more (int 2) none)))))
    ∷ []

jobs_up : told (driven jobs up 400) ≡ done (codes "acquire\nrelease\nacquire\nrelease\nbody\nacquire\nrelease\nlate\n")
jobs_up = refl

-- a body that is killed
abbrev killed : List Fn
killed =
    def (codes "main") []
    (new (codes "d")
    (fork (codes "t") (last (bracket here (last return_unit) (named (codes "x")) (then (say (codes "release")) (last (put (codes "d") nothing))) (then (put (codes "d") nothing) (last (nap 1000000)))))
    (then (take (codes "d")) (then (kill (codes "t")) (last (take (codes "d")))))))
    ∷ []

killed_up : told (driven killed up 300) ≡ done (codes "release\n")
killed_up = refl

killed_down : told (driven killed down 300) ≡ done (codes "release\n")
killed_down = refl

-- an acquire that is interrupted while it is blocked: nothing was acquired
abbrev interrupted : List Fn
interrupted =
    def (codes "main") []
    (new (codes "m") (new (codes "d")
    (fork (codes "t") (last (catch here (last (bracket here (then (put (codes "d") nothing) (last (take (codes "m")))) (named (codes "x")) (last (say (codes "release"))) (last return_unit))) (named (codes "e")) (then (show_it (codes "e")) (last (put (codes "d") nothing)))))
    (then (take (codes "d")) (then (kill (codes "t")) (last (take (codes "d"))))))))
    ∷ []

interrupted_up : told (driven interrupted up 300) ≡ done (codes "thread killed\n")
interrupted_up = refl

interrupted_down : told (driven interrupted down 300) ≡ done (codes "thread killed\n")
interrupted_down = refl
