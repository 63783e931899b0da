-- Worked runs in which threads read cells and are stranded, computed in the definitions under several orders of threads.
-- Each is a run of its script, with the ending and the bytes that it says.
use Rattle.std.proofs.Common.{◌≡◌, ℕ, suc, List, [], ◌∷◌, length, Option, Some, None, refl, codes}
use Rattle.std.specs.Int.{int_wrap}
use Rattle.std.specs.Fmt.{digits}
use Rattle.hs_rules.specs.declared.entry.Entry.{Entry}
use Rattle.hs_rules.specs.declared.entry.Entry.TheVariants as entry
use Rattle.hs_base.specs.declared.tree.forms.UnaryForm.TheVariants.{Show}
use Rattle.hs_base.specs.declared.tree.forms.BinaryForm.TheVariants.{Plus}
use Rattle.hs_base.specs.declared.tree.forms.UnaryAction.TheVariants.{PutStrLn, ReadMVar, TryTakeMVar}
use Rattle.hs_base.specs.declared.tree.forms.BlockAction.TheVariants.{UninterruptibleMaskOnly}
use Rattle.hs_base.specs.declared.tree.forms.GuardAction.TheVariants.{Finally}
use Rattle.rules_expansion.specs.trees.Trees.{Ex, unary, chain, link, end}
use Rattle.rules_expansion.specs.trees.Programs.{SurfaceAction, unary_act, scoped, catch, guard, case_act, maybe_acts, Bl, last, then, bind, Fn}
use Rattle.rules_meaning.specs.CoreMeaning.{code_of}
use Rattle.rules_waiting.specs.Waiting.{sleepers_of}
use Rattle.hs_rules.specs.State.{State}
use Rattle.hs_rules.specs.Entries.{stranded, strand_entry, IsLegal}
use Rattle.hs_rules.specs.Runs.{first_of}
use Rattle.hs_rules.specs.Endings.{Done, Uncaught, Deadlock}
use Rattle.hs_rules.proofs.SmallScripts.{here, named, text, int, var, say, script, throwing, show_it, new, fork, take, put, nothing, kill, nap}
use Rattle.hs_laws.proofs.cases_lemmas.Driving.{Worked, drive, worked}

abbrev read : List ℕ → SurfaceAction
read m = unary_act ReadMVar here (var m)

abbrev uninterruptibly : Bl → SurfaceAction
uninterruptibly b = scoped UninterruptibleMaskOnly here b

-- orders of up to four threads
abbrev up : List ℕ
up = 0 ∷ 1 ∷ 2 ∷ 3 ∷ []

abbrev down : List ℕ
down = 3 ∷ 2 ∷ 1 ∷ 0 ∷ []

abbrev mixed : List ℕ
mixed = 2 ∷ 0 ∷ 3 ∷ 1 ∷ []

abbrev crossed : List ℕ
crossed = 1 ∷ 3 ∷ 0 ∷ 2 ∷ []

-- ---- main alone

-- main waits at a cell that nobody else has: it is stranded
abbrev alone : List Fn
alone = script (new (codes "m") (last (take (codes "m"))))

main_alone_is_stranded : Worked alone Uncaught [] (codes "uncaught exception in main: thread blocked indefinitely in an MVar operation\n")
main_alone_is_stranded = worked alone up 100 Uncaught [] _ refl

-- so is main where another thread has ended by an exception that nothing caught
abbrev left_alone : List Fn
left_alone = script (new (codes "d") (fork (codes "_") (last (throwing (codes "oh"))) (last (take (codes "d")))))

abbrev two_lines : List ℕ
two_lines = codes "uncaught exception in thread 1: oh\nuncaught exception in main: thread blocked indefinitely in an MVar operation\n"

main_is_stranded_after_a_thread_failed_up : Worked left_alone Uncaught [] two_lines
unfolding digits
main_is_stranded_after_a_thread_failed_up = worked left_alone up 100 Uncaught [] two_lines refl

main_is_stranded_after_a_thread_failed_down : Worked left_alone Uncaught [] two_lines
unfolding digits
main_is_stranded_after_a_thread_failed_down = worked left_alone down 100 Uncaught [] two_lines refl

-- a handler gets the exception, and main goes on
abbrev caught : List Fn
caught = script (new (codes "m") (then (catch here (last (take (codes "m"))) (named (codes "e")) (last (show_it (codes "e")))) (last (say (codes "on")))))

who_catches_it_goes_on : Worked caught Done (codes "thread blocked indefinitely in an MVar operation\non\n") []
who_catches_it_goes_on = worked caught up 100 Done _ [] refl

-- ---- who isn't stranded

-- who is masked uninterruptibly isn't
abbrev hard : List Fn
hard = script (new (codes "m") (last (uninterruptibly (last (take (codes "m"))))))

the_uninterruptible_wait_on : Worked hard Deadlock [] []
the_uninterruptible_wait_on = worked hard up 100 Deadlock [] [] refl

-- neither is who throws at such a thread
abbrev hard_target : List Fn
hard_target =
    script
    (new (codes "m") (new (codes "d")
    (fork (codes "t") (last (uninterruptibly (then (put (codes "d") nothing) (last (take (codes "m"))))))
    (then (take (codes "d")) (last (kill (codes "t")))))))

who_throws_waits_on_up : Worked hard_target Deadlock [] []
who_throws_waits_on_up = worked hard_target up 100 Deadlock [] [] refl

who_throws_waits_on_down : Worked hard_target Deadlock [] []
who_throws_waits_on_down = worked hard_target down 100 Deadlock [] [] refl

-- the state that is left after at most so many steps
abbrev state_of : List Fn → ℕ → Option State
state_of ds n = elim (first_of ds) [ None ↦ None | Some s ↦ Some (drive (code_of ds) up n s).state ]

-- what a Stranded leaves there
abbrev strands_at : List Fn → ℕ → Option (Option State)
strands_at ds n = elim (state_of ds n) [ None ↦ None | Some s ↦ Some (strand_entry (sleepers_of s.blocked) s) ]

-- who is to be stranded there, and how many sleep
abbrev waiting_at : List Fn → ℕ → Option (List ℕ × ℕ)
waiting_at ds n = elim (state_of ds n) [ None ↦ None | Some s ↦ Some (stranded s, length (sleepers_of s.blocked)) ]

nobody_is_stranded_who_is_masked_uninterruptibly : strands_at hard 100 ≡ Some None
nobody_is_stranded_who_is_masked_uninterruptibly = refl

nobody_is_stranded_for_a_throw : strands_at hard_target 100 ≡ Some None
nobody_is_stranded_for_a_throw = refl

-- main waits at a cell, and thread 1 sleeps and will put there: nobody is stranded, though main would be if nobody slept
abbrev served_late : List Fn
served_late =
    script
    (new (codes "d")
    (fork (codes "_") (then (nap 10) (last (put (codes "d") (text (codes "late")))))
    (bind (named (codes "x")) (take (codes "d")) (last (unary_act PutStrLn here (var (codes "x")))))))

main_waits_while_one_sleeps : waiting_at served_late 14 ≡ Some (0 ∷ [], 1)
main_waits_while_one_sleeps = refl

nobody_is_stranded_while_one_sleeps : strands_at served_late 14 ≡ Some None
nobody_is_stranded_while_one_sleeps = refl

-- before thread 1 sleeps, main alone waits and nobody sleeps; but there is work, so a Stranded isn't in time
abbrev LegalAt : List Fn → ℕ → Type 0
LegalAt ds n = elim (state_of ds n) [ None ↦ Unit {0} | Some s ↦ IsLegal (code_of ds) s entry.Stranded ]

nobody_sleeps_yet : waiting_at served_late 13 ≡ Some (0 ∷ [], 0)
nobody_sleeps_yet = refl

nobody_is_stranded_beside_work : ¬ LegalAt served_late 13
nobody_is_stranded_beside_work (u, l) = cc (l.1 (entry.Op 1) tt)

who_waits_for_a_sleeper_is_served : Worked served_late Done (codes "late\n") []
who_waits_for_a_sleeper_is_served = worked served_late up 100 Done _ [] refl

-- ---- two are stranded at once, and the one serves the other

abbrev rescued : List Fn
rescued =
    script
    (new (codes "m") (new (codes "d")
    (fork (codes "_") (last (guard Finally here (last (take (codes "m"))) (last (put (codes "d") nothing))))
    (then (catch here (last (take (codes "d"))) (named (codes "e")) (last (take (codes "d")))) (last (say (codes "x")))))))

-- how many Strandeds a history has
abbrev strandings : List Entry → ℕ
strandings [] = 0
strandings (entry.Stranded ∷ es) = suc (strandings es)
strandings (_ ∷ es) = strandings es

abbrev strandings_of : List Fn → ℕ → Option ℕ
strandings_of ds n = elim (first_of ds) [ None ↦ None | Some s ↦ Some (strandings (drive (code_of ds) up n s).entries) ]

main_and_thread_1_are_stranded : waiting_at rescued 22 ≡ Some (0 ∷ 1 ∷ [], 0)
main_and_thread_1_are_stranded = refl

they_are_stranded_at_once : strandings_of rescued 200 ≡ Some 1
they_are_stranded_at_once = refl

a_stranded_finally_serves_main_up : Worked rescued Done (codes "x\n") []
a_stranded_finally_serves_main_up = worked rescued up 200 Done _ [] refl

a_stranded_finally_serves_main_down : Worked rescued Done (codes "x\n") []
a_stranded_finally_serves_main_down = worked rescued down 200 Done _ [] refl

-- ---- one value for a take and two reads that wait

abbrev sum : Ex
sum = chain (var (codes "a")) (link Plus here (var (codes "b")) (link Plus here (var (codes "c")) end))

abbrev later : ℕ → SurfaceAction → Bl → Bl
later n a b = fork (codes "_") (then (nap n) (bind (named (codes "x")) a (last (put (codes "d") (var (codes "x")))))) b

abbrev read_by_two : List Fn
read_by_two =
    script
    (new (codes "m") (new (codes "d")
    (later 10 (take (codes "m"))
    (later 20 (read (codes "m"))
    (later 30 (read (codes "m"))
    (then (nap 40) (then (put (codes "m") (int 7))
    (bind (named (codes "a")) (take (codes "d")) (bind (named (codes "b")) (take (codes "d")) (bind (named (codes "c")) (take (codes "d"))
    (bind (named (codes "e")) (unary_act TryTakeMVar here (var (codes "m")))
    (last (case_act here (var (codes "e")) (maybe_acts (last (unary_act PutStrLn here (unary Show here sum))) (named (codes "x")) (last (say (codes "full")))))))))))))))))

one_value_is_read_by_two_and_taken_up : Worked read_by_two Done (codes "21\n") []
unfolding int_wrap digits
one_value_is_read_by_two_and_taken_up = worked read_by_two up 300 Done _ [] refl

one_value_is_read_by_two_and_taken_down : Worked read_by_two Done (codes "21\n") []
unfolding int_wrap digits
one_value_is_read_by_two_and_taken_down = worked read_by_two down 300 Done _ [] refl

one_value_is_read_by_two_and_taken_mixed : Worked read_by_two Done (codes "21\n") []
unfolding int_wrap digits
one_value_is_read_by_two_and_taken_mixed = worked read_by_two mixed 300 Done _ [] refl

one_value_is_read_by_two_and_taken_crossed : Worked read_by_two Done (codes "21\n") []
unfolding int_wrap digits
one_value_is_read_by_two_and_taken_crossed = worked read_by_two crossed 300 Done _ [] refl
