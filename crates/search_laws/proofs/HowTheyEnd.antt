-- How a run that comes to a state of a search has ended.
use Rattle.std.proofs.Common.{◌≡◌, ℕ, Bool, true, false, cond, List, [], Option, Some, None, slice_get, refl, sym, ap, ◌∙◌, subst, inl, inr, ⊎_elim}
use Rattle.hs_base.specs.declared.clock_choice.ClockChoice.{ClockChoice}
use Rattle.hs_base.specs.declared.clock_choice.ClockChoice.TheVariants.{Real, Virtual}
use Rattle.hs_base.specs.declared.tree.script.Script.{Script}
use Rattle.hs_rules.specs.declared.entry.Entry.{Entry}
use Rattle.hs_rules.specs.declared.entry.Entry.TheVariants as entry
use Rattle.rules_expansion.specs.trees.Programs.{Fn, script_of}
use Rattle.rules_meaning.specs.CoreMeaning.{code_of}
use Rattle.rules_typing.specs.TypingScripts.{Accepted}
use Rattle.rules_sorts.specs.Sorts.{Sort}
use Rattle.rules_expansion.specs.trees.Trees.{T}
use Rattle.rules_code.specs.CodeTrees.{SlottedFunction, code_trees}
use Rattle.rules_waiting.specs.Waiting.{sorted_sleepers, is_blocked}
use Rattle.hs_rules.specs.Terms.{Part}
use Rattle.hs_rules.specs.State.{Thread, State}
use Rattle.hs_rules.specs.Endings.{IsDone, IsUncaught, IsTick, IsQuiet, IsDeadlock, is_ret, result_of}
use Rattle.hs_rules.specs.Endings as endings
use Rattle.hs_rules.specs.Runs.{IsRun}
use Rattle.outcome_laws.specs.Outcomes.{Final, Done, Uncaught, Deadlock, EndsBy}
use Rattle.slot_laws.specs.SlotRules.{SlotPart}
use Rattle.slot_laws.specs.Standing.{PartStands, ret_stands}
use Rattle.hs_progress.specs.TypedStates.{has}
use Rattle.slot_states.specs.SlotStates.{SlotThread, SlotState, Represents, SameThread}
use Rattle.slot_states.proofs.AtRest.{nobody_sleeps}
use Rattle.slot_states.proofs.Settled.{none_asleep}
use Rattle.slot_states.proofs.Reading.{named_of}
use Rattle.slot_states.specs.entering.Entering.{next}
use Rattle.slot_states.proofs.entering_lemmas.Passing.{none_or}
use Rattle.search_laws.specs.time.WithoutTime.{untimed, undue, ticked_to, due_first}
use Rattle.exn_flight.specs.Asleep.{due_of}
use Rattle.search_laws.proofs.time_lemmas.Sleepers.{none_sleeps}
use Rattle.search_laws.specs.Shown.{forget, Shown}
use Rattle.search_laws.specs.Found.{is_value, ended_by, IsStuck, EndsAs, HasKind, MayHaveKind}
use Rattle.search_laws.proofs.Cited.{entered, legal, reads, back}
use Rattle.search_laws.proofs.Reading.{reads_or, reads_any, next_forgotten}

-- ---- by the main thread

same_value : (cells : ℕ → T → Type 0) (ds : List Fn) (p : SlotPart) (q : Part) (k : Sort) → PartStands cells ds p q k → is_ret q ≡ is_value p
same_value cells ds _ _ _ (ret_stands h) = refl
same_value cells ds _ _ _ _ = refl

-- what a thread with this part has ended by
abbrev final_by : Bool → Bool → Option Final
final_by finished value = cond finished (Some (cond value Done Uncaught)) None

-- the main thread has ended as a final says
abbrev MainEnds : State → Option Final → Type 0
MainEnds s None = ¬ IsDone s × ¬ IsUncaught s
MainEnds s (Some Done) = IsDone s
MainEnds s (Some Uncaught) = ¬ IsDone s × IsUncaught s
MainEnds s (Some Deadlock) = ⊥

main_ends_so : (s : State) (th : Thread) → slice_get s.threads 0 ≡ Some th → (finished value : Bool) → th.finished ≡ finished → is_ret th.term.part ≡ value → MainEnds s (final_by finished value)
main_ends_so s th is true true f v = subst (λ o. endings.ended_by (result_of o) true) (sym is) (subst (λ b. endings.ended_by (cond b (Some th.term.part) None) true) (sym f) v)
main_ends_so s th is true false f v =
    let at : (w : Bool) → endings.ended_by (result_of (slice_get s.threads 0)) w → is_ret th.term.part ≡ w = λ w h. subst (λ b. endings.ended_by (cond b (Some th.term.part) None) w) f (subst (λ o. endings.ended_by (result_of o) w) is h) in (
      λ d. let z : true ≡ false = sym (at true d) ∙ v in cc z,
      subst (λ o. endings.ended_by (result_of o) false) (sym is) (subst (λ b. endings.ended_by (cond b (Some th.term.part) None) false) (sym f) v),
    )
main_ends_so s th is false value f v =
    let none : (w : Bool) → endings.ended_by (result_of (slice_get s.threads 0)) w → ⊥ = λ w h. subst (λ b. endings.ended_by (cond b (Some th.term.part) None) w) f (subst (λ o. endings.ended_by (result_of o) w) is h) in
    (none true, none false)

module _ (ds : List Fn) (x : SlotState) (s : State) (r : Represents ds x s) where
  -- nobody is there
  no_main : (o : Option SlotThread) (q : Option Thread) (b : Bool) → o ≡ None → SameThread o q b → q ≡ None
  no_main None None b e h = refl
  no_main None (Some th) b e h = absurd h
  no_main (Some f) q b e h = absurd (cc e)

  main_none : slice_get s.threads 0 ≡ None → MainEnds s None
  main_none e = (λ d. subst (λ o. endings.ended_by (result_of o) true) e d, λ d. subst (λ o. endings.ended_by (result_of o) false) e d)

  main_of : (o : Option SlotThread) → slice_get x.threads 0 ≡ o → MainEnds s (ended_by o)
  main_of None e = main_none (no_main (slice_get x.threads 0) (slice_get s.threads 0) (is_blocked 0 s.blocked) e (r.agrees.threads 0))
  main_of (Some th) e =
      let n = named_of ds x s r 0 th e in
      main_ends_so s n.thread n.is th.finished (is_value th.term.part) (sym n.finished) (same_value (has r.stacks.store) ds th.term.part n.thread.term.part _ n.stands.0)

  -- main has ended as it has with slots
  pub main_ends : MainEnds s (ended_by (slice_get x.threads 0))
  main_ends = main_of (slice_get x.threads 0) refl

-- ---- since nothing can go on

none_forgotten : (clock : ClockChoice) (x : SlotState) → (forget clock x).sleepers ≡ [] → x.sleepers ≡ []
none_forgotten Real x e = none_sleeps x.sleepers e
none_forgotten Virtual x e = e

none_kept : (clock : ClockChoice) (x : SlotState) → x.sleepers ≡ [] → (forget clock x).sleepers ≡ []
none_kept Real x e = ap (λ ss. sorted_sleepers (undue ss)) e
none_kept Virtual x e = e

-- where nobody sleeps no Tick is waited for
none_due : (x : SlotState) (e : Entry) → x.sleepers ≡ [] → due_first x e ≡ x
none_due x (entry.Wake t) none = ap (λ ss. ticked_to (due_of t ss) x) none
none_due x _ none = refl

next_exact : (clock : ClockChoice) (funs : List SlottedFunction) (x z : SlotState) (e : Entry) → x.sleepers ≡ [] → ¬ IsTick e → next funs (forget clock x) e ≡ Some z → (y : SlotState) × (next funs x e ≡ Some y)
next_exact Virtual funs x z e none plain h = (z, h)
next_exact Real funs x z e none plain h =
    ⊎_elim
    (λ r. reads_any funs (untimed x) x z e refl ((reads x e).0 r) h)
    (λ r. let k = back funs x z e h plain r in (k.0, subst (λ q. next funs q e ≡ Some k.0) (none_due x e none) k.1))
    (reads_or x e)

module _ (clock : ClockChoice) (script : Script) (accepted : Accepted script) (es : List Entry) (s : State) (run : IsRun (script_of script) es s) (x : SlotState) (r : Represents (script_of script) x s) where
  abbrev ds : List Fn
  ds = script_of script

  abbrev funs : List SlottedFunction
  funs = code_trees ds

  stuck_is : IsStuck funs (forget clock x) → IsDeadlock (code_of ds) s
  stuck_is (still, none) = (
    λ e plain l.
        let k = legal script accepted es s l.0 run x r e l.1 in
        let z = next_forgotten clock funs x k.0 e k.1 plain in
        let q : ◌≡◌ {A = Option SlotState} None (Some z.0) = sym (still e plain) ∙ z.1 in cc q,
    nobody_sleeps ds x s r (none_forgotten clock x none),
  )

  is_stuck : IsDeadlock (code_of ds) s → IsStuck funs (forget clock x)
  is_stuck (quiet, none) =
      let awake = none_asleep ds x s r none in (
        λ e plain. none_or (next funs (forget clock x) e) (λ z h.
            let k = next_exact clock funs x z e awake plain h in
            let l = entered script accepted x k.0 e k.1 es s run r in
            quiet e plain (l.0, l.1)),
        none_kept clock x awake,
      )

  -- ---- both
  same_main : slice_get (forget clock x).threads 0 ≡ slice_get x.threads 0
  same_main = elim clock as (λ c. slice_get (forget c x).threads 0 ≡ slice_get x.threads 0) [ Real ↦ refl | Virtual ↦ refl ]

  -- what main has ended by
  by_main : (o : Option Final) → MainEnds s o → (f : Final) → o ≡ Some f → EndsBy f (code_of ds) s
  by_main (Some Done) m Done e = m
  by_main (Some Uncaught) m Uncaught e = m
  by_main (Some Deadlock) m f e = absurd m
  by_main _ m _ e = absurd (cc e)

  kind_right : (o : Option Final) (end : Option Final) → MainEnds s o → EndsAs funs (forget clock x) o end → (f : Final) → end ≡ Some f → EndsBy f (code_of ds) s
  kind_right (Some g) end m h f e = by_main (Some g) m f (sym h ∙ e)
  kind_right None None m h f e = absurd (cc e)
  kind_right None (Some Done) m h f e = absurd h
  kind_right None (Some Uncaught) m h f e = absurd h
  kind_right None (Some Deadlock) m h f e = subst (λ o. of_some o) e (m.0, m.1, stuck_is h)
    where
      of_some : Option Final → Type 0
      of_some None = Unit {0}
      of_some (Some g) = EndsBy g (code_of ds) s

  kind_there : (o : Option Final) (end : Option Final) → MainEnds s o → EndsAs funs (forget clock x) o end → (f : Final) → EndsBy f (code_of ds) s → end ≡ Some f
  kind_there (Some Done) end m h Done e = h
  kind_there (Some Done) end m h Uncaught e = absurd (e.0 m)
  kind_there (Some Done) end m h Deadlock e = absurd (e.0 m)
  kind_there (Some Uncaught) end m h Done e = absurd (m.0 e)
  kind_there (Some Uncaught) end m h Uncaught e = h
  kind_there (Some Uncaught) end m h Deadlock e = absurd (e.1 m.1)
  kind_there (Some Deadlock) end m h f e = absurd m
  kind_there None end m h Done e = absurd (m.0 e)
  kind_there None end m h Uncaught e = absurd (m.1 e.1)
  kind_there None None m h Deadlock e = absurd (h (is_stuck e.2))
  kind_there None (Some Deadlock) m h Deadlock e = refl
  kind_there None _ m h Deadlock e = absurd h

  abbrev main_end : Shown → Option Final
  main_end c = ended_by (slice_get c.slots.threads 0)

  main_at : (c : Shown) → forget clock x ≡ c.slots → MainEnds s (main_end c)
  main_at c e = subst (λ o. MainEnds s (ended_by o)) (sym same_main ∙ ap (λ (z : SlotState). slice_get z.threads 0) e) (main_ends ds x s r)

  -- of a state of a search, in both directions
  pub ends_right : (c : Shown) → forget clock x ≡ c.slots → (end : Option Final) → HasKind funs c end → (f : Final) → end ≡ Some f → EndsBy f (code_of ds) s
  ends_right c e end h f q =
      kind_right (main_end c) end (main_at c e) (subst (λ z. EndsAs funs z (main_end c) end) (sym e) h) f q

  pub ends_there : (c : Shown) → forget clock x ≡ c.slots → (end : Option Final) → HasKind funs c end → (f : Final) → EndsBy f (code_of ds) s → end ≡ Some f
  ends_there c e end h f q = kind_there (main_end c) end (main_at c e) (subst (λ z. EndsAs funs z (main_end c) end) (sym e) h) f q

  -- where nobody has looked whether it is stuck
  pub main_right : (c : Shown) → forget clock x ≡ c.slots → (end : Option Final) → MayHaveKind funs c end → (f : Final) → end ≡ Some f → EndsBy f (code_of ds) s
  main_right c e end (inl h) f q = ends_right c e end h f q
  main_right c e end (inr h) f q = by_main (main_end c) (main_at c e) f (sym h ∙ q)
