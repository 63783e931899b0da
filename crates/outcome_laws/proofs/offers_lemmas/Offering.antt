-- What is legal is offered, since it asks more, and any sleeper that is due wakes.
use Rattle.std.proofs.Common.{◌≡◌, ◌≤◌, ◌<◌, ℕ, zero, suc, ◌==◌, List, [], ◌∷◌, length, true, inl, inr, ⊎_elim, Option, Some, None, refl, sym, ap, ◌∙◌, subst, arith}
use Rattle.std.proofs.lemmas.Option.{same_Some}
use Rattle.hs_base.specs.declared.mask.Mask.{Mask}
use Rattle.hs_base.specs.declared.mask.Mask.TheVariants.{Unmasked}
use Rattle.hs_base.specs.declared.exn.Exn.{Exn}
use Rattle.hs_base.specs.declared.tree.script.Script.{Script}
use Rattle.hs_rules.specs.declared.entry.Entry.{Entry}
use Rattle.hs_rules.specs.declared.entry.Entry.TheVariants as entry
use Rattle.rules_expansion.specs.trees.Programs.{Fn, script_of}
use Rattle.rules_meaning.specs.CoreMeaning.{code_of}
use Rattle.rules_typing.specs.TypingScripts.{Accepted}
use Rattle.rules_code.specs.CodeTrees.{SlottedFunction, code_trees}
use Rattle.rules_waiting.specs.Waiting.{Sleeper, first_thrown, sleepers_of, sorted_sleepers}
use Rattle.hs_rules.specs.State.{State}
use Rattle.hs_rules.specs.Entries.{IsLegal}
use Rattle.hs_rules.specs.Runs.{IsRun}
use Rattle.hs_laws.proofs.Lists.{equal_or, cond_true, cond_false}
use Rattle.hs_laws.proofs.Expanded.{standing_of}
use Rattle.hs_laws.proofs.Later.{AllAsleep, WaitsAsleep}
use Rattle.exn_flight.specs.Asleep.{due_of}
use Rattle.slot_laws.specs.SlotRules.{SlotPart, ret, throw, doing, SlotFrame, SlotTerm, local, on_term, locals}
use Rattle.slot_states.specs.SlotStates.{SlotState, wakes, Represents, Enters, StandsBare, MainGoes}
use Rattle.slot_states.proofs.Asleep.{each_asleep}
use Rattle.slot_states.proofs.Waking.{wake_until}
use Rattle.slot_states.specs.demands.Demands.{Asks}
use Rattle.slot_states.proofs.demands_lemmas.Demanding.{asked}
use Rattle.outcome_laws.specs.offers.Offers.{SleepsUntil, has_local_rule, stands_at_operation, is_result, Offers}

-- ---- a term that moves has a local rule
some_moves : (funs : List SlottedFunction) (s : Mask) (p : SlotPart) (fs : List SlotFrame) (u : SlotTerm) → local funs s p fs ≡ Some u → has_local_rule p (length fs) ≡ true
some_moves funs s (ret v) (f ∷ fs) u e = refl
some_moves funs s (throw z) (f ∷ fs) u e = refl
some_moves funs s (doing a vs) fs u e = refl
some_moves funs s _ _ u e = absurd (cc e)

first_moves : (o : Option SlotTerm) (k : SlotTerm → Option SlotTerm) (u : SlotTerm) → on_term o k ≡ Some u → (v : SlotTerm) × (o ≡ Some v)
first_moves None k u e = absurd (cc e)
first_moves (Some v) k u e = (v, refl)

moves : (funs : List SlottedFunction) (k : ℕ) (t u : SlotTerm) → 0 < k → locals funs Unmasked k t ≡ Some u → has_local_rule t.part (length t.frames) ≡ true
moves funs zero t u lt e = absurd (omega (arith, lt))
moves funs (suc k) t u lt e = let f = first_moves (local funs Unmasked t.part t.frames) (λ v. locals funs Unmasked k v) u e in some_moves funs Unmasked t.part t.frames f.0 f.1

-- ---- sleepers
due_sleeps : (t due : ℕ) (ss : List Sleeper) → due_of t ss ≡ Some due → SleepsUntil t due ss
due_sleeps t due [] e = absurd (cc e)
due_sleeps t due (s ∷ ss) e =
    ⊎_elim
    (λ q. inl (q.1, same_Some s.due due (sym (cond_true (s.thread == t) (Some s.due) (due_of t ss) q.0) ∙ e)))
    (λ q. inr (due_sleeps t due ss (sym (cond_false (s.thread == t) (Some s.due) (due_of t ss) q.0) ∙ e)))
    (equal_or s.thread t)

one_of_all : (P : Sleeper → Type 0) (t due : ℕ) (ss : List Sleeper) → AllAsleep P ss → SleepsUntil t due ss → P (record { thread = t; due = due })
one_of_all P t due [] h k = absurd k
one_of_all P t due (s ∷ ss) h (inl e) = subst (λ y. P (record { thread = y; due = due })) e.0 (subst (λ y. P (record { thread = s.thread; due = y })) e.1 h.0)
one_of_all P t due (s ∷ ss) h (inr k) = one_of_all P t due ss h.1 k

pub any_wakes : (script : Script) → Accepted script → (x : SlotState) (t due : ℕ) → SleepsUntil t due x.sleepers → due ≤ x.clock → MainGoes x → Enters script (entry.Wake t) x (wakes t x)
any_wakes script accepted x t due asleep come m es s run r =
    let all = each_asleep s.blocked (standing_of (script_of script) es s run).once in
    wake_until script accepted x t due m es s run r
    (one_of_all (WaitsAsleep s.blocked) t due (sorted_sleepers (sleepers_of s.blocked)) all (subst (SleepsUntil t due) r.agrees.sleepers asleep))
    (subst (λ n. due ≤ n) r.agrees.clock come)

-- ---- entries
module _ (ds : List Fn) (x : SlotState) where
  bare : (t : ℕ) (p : SlotPart) → is_result p 0 ≡ true → StandsBare x t p → Offers x (entry.Finish t)
  bare t p e h = (record { thread = h.thread; is = h.is; unfinished = h.unfinished }, h.free, ap (λ (z : SlotTerm). is_result z.part (length z.frames)) h.term ∙ e)

  offered_by : (e : Entry) → Asks ds e x → Offers x e
  offered_by (entry.Local t k) (th, is, f, b, more, (st, goes)) = (record { thread = th; is = is; unfinished = f }, b, moves (code_trees ds) k th.term st more goes)
  offered_by (entry.Op t) (p, h) = (record { thread = h.thread; is = h.is; unfinished = h.unfinished }, h.free, ap stands_at_operation h.part)
  offered_by (entry.Receive t) (th, is, f, c, (w, e, hit)) = (
    record { thread = th; is = is; unfinished = f },
    c,
    λ none. let z : ◌≡◌ {A = Option (ℕ × Exn)} None (Some (w, e)) = sym (ap first_thrown none) ∙ hit in cc z,
  )
  offered_by (entry.Wake t) (due, is, come) = (due, due_sleeps t due x.sleepers is, come)
  offered_by (entry.Finish t) (inl (v, h)) = bare t (ret v) refl h
  offered_by (entry.Finish t) (inr (z, h)) = bare t (throw z) refl h
  offered_by (entry.Tick at) a = a
  offered_by entry.Stranded a = a

pub offered : (script : Script) → Accepted script → (es : List Entry) (s : State) → IsRun (script_of script) es s → (x : SlotState) → Represents (script_of script) x s → (e : Entry) → IsLegal (code_of (script_of script)) s e → Offers x e
offered script accepted es s run x r e l = offered_by (script_of script) x e (asked script accepted es s run x r e l).1
