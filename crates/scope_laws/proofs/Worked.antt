-- A worked run of a scope, computed in the definitions: which cells its two threads act on and guard, moment by moment.
use Rattle.std.proofs.Common.{◌≡◌, ℕ, List, [], ◌∷◌, ◌++◌, Option, Some, None, slice_get, refl}
use Rattle.hs_rules.specs.declared.entry.Entry.{Entry}
use Rattle.hs_rules.specs.declared.entry.Entry.TheVariants.{Local, Op, Receive}
use Rattle.rules_expansion.specs.Names.{Written}
use Rattle.rules_expansion.specs.Core.{Nil, Core, Return}
use Rattle.rules_expansion.specs.Expansion.{scope}
use Rattle.rules_meaning.specs.CoreMeaning.{code_of}
use Rattle.hs_rules.specs.State.{Thread, State, first}
use Rattle.hs_rules.specs.Runs.{after_from}
use Rattle.scope_laws.specs.ScopeLaw.{acting, guards, ending}

abbrev acts : Option Thread → List ℕ
acts None = []
acts (Some th) = acting th.term.part th.term.frames

abbrev guarded : Option Thread → List ℕ
guarded None = []
guarded (Some th) = guards th.term.part th.term.frames

abbrev ends : Option Thread → List ℕ
ends None = []
ends (Some th) = ending th.term.part th.term.frames

-- what thread 1 is about to put into
abbrev put_into : Option State → List ℕ
put_into None = []
put_into (Some s) = ends (slice_get s.threads 1)

-- what thread 1 acts on, and what thread 0 guards
abbrev both : Option State → List ℕ × List ℕ
both None = ([], [])
both (Some s) = (acts (slice_get s.threads 1), guarded (slice_get s.threads 0))

-- withAsync { return () } x { return () }
abbrev main : Core
main = scope (Return Nil) (Written []) (Return Nil)

abbrev about : List Entry → List ℕ
about es = put_into (after_from (code_of []) (first main) es)

abbrev at : List Entry → List ℕ × List ℕ
at es = both (after_from (code_of []) (first main) es)

-- up to the fork
abbrev made : List Entry
made = Local 0 2 ∷ Op 0 ∷ Local 0 4 ∷ []

abbrev forked : List Entry
forked = made ++ Op 0 ∷ []

-- the second block has ended, and its STOP throws at the child, which may be interrupted
abbrev stopping : List Entry
stopping = forked ++ Local 0 13 ∷ Op 0 ∷ Local 1 4 ∷ []

-- the child has caught that, and has its end, but for one rule
abbrev caught : List Entry
caught = stopping ++ Receive 1 ∷ Local 1 4 ∷ []

-- that comes to its put, which is made and read, and the STOP has ended
abbrev stopped : List Entry
stopped = caught ++ Local 1 3 ∷ Op 1 ∷ Local 0 3 ∷ Op 0 ∷ Local 0 3 ∷ []

before_the_fork : at made ≡ ([], [])
before_the_fork = refl

after_the_fork : at forked ≡ (0 ∷ [], 0 ∷ [])
after_the_fork = refl

while_it_stops : at stopping ≡ (0 ∷ [], 0 ∷ [])
while_it_stops = refl

where_the_child_has_caught : at caught ≡ (0 ∷ [], 0 ∷ [])
where_the_child_has_caught = refl

where_its_action_has_ended : at (caught ++ Local 1 1 ∷ []) ≡ ([], 0 ∷ [])
where_its_action_has_ended = refl

-- from then to its put it is about to put
where_it_has_caught_it_puts_nothing : about caught ≡ []
where_it_has_caught_it_puts_nothing = refl

where_it_comes_to_its_put : about (caught ++ Local 1 1 ∷ []) ≡ 0 ∷ []
where_it_comes_to_its_put = refl

where_it_stands_at_its_put : about (caught ++ Local 1 3 ∷ []) ≡ 0 ∷ []
where_it_stands_at_its_put = refl

where_it_has_put : about (caught ++ Local 1 3 ∷ Op 1 ∷ []) ≡ []
where_it_has_put = refl

where_the_stop_has_ended : at stopped ≡ ([], 0 ∷ [])
where_the_stop_has_ended = refl

where_the_scope_is_left : at (stopped ++ Local 0 1 ∷ []) ≡ ([], [])
where_the_scope_is_left = refl
