use Rattle.std.proofs.Common.{◌≡◌, ◌≤◌, ◌<◌, ◌+◌, ◌++◌, ◌∷◌, [], ℕ, false, List, length, drop, map, get_or, sym, ap, ◌∙◌, arith, add-one, append_assoc, append-nil, drop-cons}
use Rattle.std.proofs.lemmas.List.{drop_all}
use Rattle.hs_rules.specs.declared.entry.Entry.{Entry}
use Rattle.hs_rules.specs.declared.entry.Entry.TheVariants as entry
use Rattle.number_states.specs.declared.waits.sleepers.Asleep.{Asleep}
use Rattle.number_states.specs.waits.Sleeping.{sleepers}
use Rattle.rules_code.specs.declared.code.CodeBody.{CodeBody}
use Rattle.number_states.specs.declared.state.NumberThread.{NumberThread}
use Rattle.number_states.specs.Stocks.{Stock}
use Rattle.number_states.specs.States.{thread_of}
use Rattle.search_laws.specs.Found.{entries_at, entries_from, wake_of}
use Rattle.state_search.proofs.candidates.candidates.Goals as goal

module _ (g : Stock) (b : CodeBody) where
  -- those of so many threads
  abbrev rest : (t : ℕ) (ths : List NumberThread) → List Entry
  rest t ths = entries_from t (map (thread_of g b) ths)

  -- one more thread
  thread_more : (out more : List Entry) (ths : List NumberThread) (t : ℕ) (d : NumberThread) → t < length ths → more ≡ out ++ entries_at t (thread_of g b (get_or ths t d)) → more ++ rest (t + 1) (drop (t + 1) ths) ≡ out ++ rest t (drop t ths)
  thread_more out more ths t d h is =
      let next : rest t (drop t ths) ≡ entries_at t (thread_of g b (get_or ths t d)) ++ rest (t + 1) (drop (t + 1) ths) = rw add-one (ap (rest t) (drop-cons ths t d h)) in
      ap (λ es. es ++ rest (t + 1) (drop (t + 1) ths)) is
      ∙ (append_assoc out (entries_at t (thread_of g b (get_or ths t d))) (rest (t + 1) (drop (t + 1) ths)) ∙ ap (λ es. out ++ es) (sym next))

-- the Wake of one more sleeper
one_more : (out more : List Entry) (xs : List Asleep) (i : ℕ) (d : Asleep) → i < length xs → more ≡ out ++ entry.Wake (get_or xs i d).thread ∷ [] → more ++ map wake_of (sleepers (drop (i + 1) xs)) ≡ out ++ map wake_of (sleepers (drop i xs))
one_more out more xs i d h is =
    let next : sleepers (drop i xs) ≡ sleepers (get_or xs i d ∷ drop (i + 1) xs) = rw add-one (ap sleepers (drop-cons xs i d h)) in
    ap (λ es. es ++ map wake_of (sleepers (drop (i + 1) xs))) is
    ∙ (append_assoc out (entry.Wake (get_or xs i d).thread ∷ []) (map wake_of (sleepers (drop (i + 1) xs))) ∙ ap (λ zs. out ++ map wake_of zs) (sym next))

none_left : (out : List Entry) (xs : List Asleep) (i : ℕ) → length xs ≤ i → out ++ map wake_of (sleepers (drop i xs)) ≡ out
none_left out xs i h = ap (λ zs. out ++ map wake_of (sleepers zs)) (drop_all i xs h) ∙ append-nil out

-- src/candidates.rt
pub loop-t-preserved : goal.loop-t-preserved
loop-t-preserved c g b =
    thread_more g b c.loop-t.out.items c.push_own.new.out.items c.args.threads.now c.loop-t.t (record { term = 0; blocked = false; finished = false }) (omega arith) (c.in_ok-push_own.ensures {u = tt} g b)
    ∙ c.loop-t.invariant g b

pub loop-sleeper-preserved : goal.loop-sleeper-preserved
loop-sleeper-preserved c g b =
    let reserved = c.in_ok-reserve.ensures.items in
    one_more c.loop-sleeper.out.items c.push_reserved.new.self.items c.args.sleepers.now c.loop-sleeper.sleeper-index (record { thread = 0; due = 0 }) (omega arith)
    (c.push_reserved.ensures.items ∙ ap (λ es. es ++ entry.Wake (get_or c.args.sleepers.now c.loop-sleeper.sleeper-index (record { thread = 0; due = 0 })).thread ∷ []) reserved)
    ∙ c.loop-sleeper.invariant g b

pub returns : goal.returns
returns c g b =
    let reserved = c.in_ok-reserve-2.ensures.items in
    c.push_reserved-2.ensures.items
    ∙ ap (λ es. es ++ entry.Stranded ∷ []) (reserved ∙ (sym (none_left c.loop-sleeper.out.items c.args.sleepers.now c.loop-sleeper.sleeper-index (omega arith)) ∙ c.loop-sleeper.invariant g b))
