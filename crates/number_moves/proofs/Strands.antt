-- Who rests, who waits at a cell, and what a Stranded makes.
use Rattle.std.proofs.Common.{◌≡◌, ℕ, suc, ◌+◌, ◌<◌, Bool, true, false, cond, not, ◌&&◌, ◌||◌, List, [], ◌∷◌, ◌++◌, Some, None, length, get_or, drop, map, refl, sym, ap, ap₂, ◌∙◌, append_assoc, add-one, drop-cons, arith}
use Rattle.hs_base.specs.declared.exn.Exn.{Exn}
use Rattle.hs_base.specs.declared.value.Value.{Value}
use Rattle.rules_meaning.specs.Values as val
use Rattle.rules_meaning.specs.Values.{V, value_of, values_of}
use Rattle.rules_expansion.specs.declared.primitive.Primitive.TheVariants.{TakeMVar, PutMVar, ReadMVar}
use Rattle.rules_waiting.specs.Waiting.{Flying, flying_to}
use Rattle.slot_states.specs.SlotStates.{SlotThread, SlotState, strands}
use Rattle.slot_states.specs.Resting.{is_receptive}
use Rattle.slot_states.specs.entering.Entering.{is_empty, rests, rest_from, waits_to, waits_open, waiting_from, stranded, strand_entry}
use Rattle.number_states.specs.declared.waits.flight.Thrown.{Thrown}
use Rattle.number_states.specs.declared.waits.sleepers.Asleep.{Asleep}
use Rattle.number_states.specs.waits.Throwing.{thrown_to, first_of, map_flight}
use Rattle.number_states.specs.waits.Sleeping.{sleepers}
use Rattle.number_states.proofs.waits_lemmas.Without.{flight_to}
use Rattle.number_states.specs.declared.state.NumberThread.{NumberThread}
use Rattle.number_moves.specs.Lines.{is_cell_first}

-- ---- values of an operation

one_take : (w : V) → is_cell_first (w ∷ []) ≡ waits_to TakeMVar (w ∷ [])
one_take (val.Cell m) = refl
one_take _ = refl

one_read : (w : V) → is_cell_first (w ∷ []) ≡ waits_to ReadMVar (w ∷ [])
one_read (val.Cell m) = refl
one_read _ = refl

two_put : (w u : V) → is_cell_first (w ∷ u ∷ []) ≡ waits_to PutMVar (w ∷ u ∷ [])
two_put (val.Cell m) u = refl
two_put _ u = refl

more_take : (w u : V) (vs : List V) → false ≡ waits_to TakeMVar (w ∷ u ∷ vs)
more_take (val.Cell m) u vs = refl
more_take _ u vs = refl

more_read : (w u : V) (vs : List V) → false ≡ waits_to ReadMVar (w ∷ u ∷ vs)
more_read (val.Cell m) u vs = refl
more_read _ u vs = refl

less_put : (w : V) → false ≡ waits_to PutMVar (w ∷ [])
less_put (val.Cell m) = refl
less_put _ = refl

more_put : (w u t : V) (vs : List V) → false ≡ waits_to PutMVar (w ∷ u ∷ t ∷ vs)
more_put (val.Cell m) u t vs = refl
more_put _ u t vs = refl

pub takes_one : (vs : List Value) → length vs ≡ 1 → is_cell_first (values_of vs) ≡ waits_to TakeMVar (values_of vs)
takes_one [] e = absurd (omega (arith, e))
takes_one (v ∷ []) e = one_take (value_of v)
takes_one (v ∷ w ∷ vs) e = absurd (omega (arith, e))

pub reads_one : (vs : List Value) → length vs ≡ 1 → is_cell_first (values_of vs) ≡ waits_to ReadMVar (values_of vs)
reads_one [] e = absurd (omega (arith, e))
reads_one (v ∷ []) e = one_read (value_of v)
reads_one (v ∷ w ∷ vs) e = absurd (omega (arith, e))

pub puts_two : (vs : List Value) → length vs ≡ 2 → is_cell_first (values_of vs) ≡ waits_to PutMVar (values_of vs)
puts_two [] e = absurd (omega (arith, e))
puts_two (v ∷ []) e = absurd (omega (arith, e))
puts_two (v ∷ w ∷ []) e = two_put (value_of v) (value_of w)
puts_two (v ∷ w ∷ u ∷ vs) e = absurd (omega (arith, e))

pub takes_none : (vs : List Value) → (length vs ≡ 1 → ⊥) → false ≡ waits_to TakeMVar (values_of vs)
takes_none [] h = refl
takes_none (v ∷ []) h = absurd (h refl)
takes_none (v ∷ w ∷ vs) h = more_take (value_of v) (value_of w) (values_of vs)

pub reads_none : (vs : List Value) → (length vs ≡ 1 → ⊥) → false ≡ waits_to ReadMVar (values_of vs)
reads_none [] h = refl
reads_none (v ∷ []) h = absurd (h refl)
reads_none (v ∷ w ∷ vs) h = more_read (value_of v) (value_of w) (values_of vs)

pub puts_none : (vs : List Value) → (length vs ≡ 2 → ⊥) → false ≡ waits_to PutMVar (values_of vs)
puts_none [] h = refl
puts_none (v ∷ []) h = less_put (value_of v)
puts_none (v ∷ w ∷ []) h = absurd (h refl)
puts_none (v ∷ w ∷ u ∷ vs) h = more_put (value_of v) (value_of w) (value_of u) (values_of vs)

-- ---- rest

pub held : (b : Bool) → not b ≡ false → b ≡ true
held true e = refl
held false e = absurd (cc e)

empty_first : (f : ℕ → Exn) (xs : List Thrown) → first_of xs ≡ None → is_empty (map_flight f xs) ≡ true
empty_first f [] e = refl
empty_first f (x ∷ xs) e = absurd (cc e)

some_first : (f : ℕ → Exn) (xs : List Thrown) (x : Thrown) → first_of xs ≡ Some x → is_empty (map_flight f xs) ≡ false
some_first f [] x e = absurd (cc e)
some_first f (y ∷ xs) x e = refl

rest_open : (fs : List Flying) (t : ℕ) (th : SlotThread) → th.finished ≡ false → th.blocked ≡ true → is_receptive th ≡ true → rests fs t th ≡ is_empty (flying_to t fs)
rest_open fs t th a d e =
    ap (λ z. z || (th.blocked && (not (is_receptive th) || is_empty (flying_to t fs)))) a ∙ ap (λ z. z && (not (is_receptive th) || is_empty (flying_to t fs))) d ∙ ap (λ z. not z || is_empty (flying_to t fs)) e

pub rests_free : (f : ℕ → Exn) (xs : List Thrown) (t : ℕ) (th : SlotThread) → th.finished ≡ false → th.blocked ≡ true → is_receptive th ≡ true → first_of (thrown_to t xs) ≡ None → true ≡ rests (map_flight f xs) t th
rests_free f xs t th a d e h = sym (rest_open (map_flight f xs) t th a d e ∙ ap is_empty (sym (flight_to f t xs)) ∙ empty_first f (thrown_to t xs) h)

pub rests_not : (f : ℕ → Exn) (xs : List Thrown) (t : ℕ) (th : SlotThread) (x : Thrown) → th.finished ≡ false → th.blocked ≡ true → is_receptive th ≡ true → first_of (thrown_to t xs) ≡ Some x → false ≡ rests (map_flight f xs) t th
rests_not f xs t th x a d e h = sym (rest_open (map_flight f xs) t th a d e ∙ ap is_empty (sym (flight_to f t xs)) ∙ some_first f (thrown_to t xs) x h)

pub rest_more : (f : NumberThread → SlotThread) (fs : List Flying) (t i : ℕ) (xs : List NumberThread) (d : NumberThread) → i < length xs → rests fs t (f (get_or xs i d)) ≡ true
    → rest_from fs (t + 1) (map f (drop (i + 1) xs)) ≡ rest_from fs t (map f (drop i xs))
rest_more f fs t i xs d small e =
    let one : t + 1 ≡ suc t = add-one t in
    let next : i + 1 ≡ suc i = add-one i in
    ap₂ (λ k j. rest_from fs k (map f (drop j xs))) one next
    ∙ ap (λ z. z && rest_from fs (suc t) (map f (drop (suc i) xs))) (sym e)
    ∙ ap (λ ys. rest_from fs t (map f ys)) (sym (drop-cons xs i d small))

pub waiting_more : (f : NumberThread → SlotThread) (ws us : List ℕ) (t i : ℕ) (xs : List NumberThread) (d : NumberThread) (b : Bool) → i < length xs → b ≡ waits_open (f (get_or xs i d)) → us ≡ ws ++ cond b (t ∷ []) []
    → us ++ waiting_from (t + 1) (map f (drop (i + 1) xs)) ≡ ws ++ waiting_from t (map f (drop i xs))
waiting_more f ws us t i xs d b small e is =
    let one : t + 1 ≡ suc t = add-one t in
    let next : i + 1 ≡ suc i = add-one i in
    let rest = waiting_from (suc t) (map f (drop (suc i) xs)) in
    ap₂ (λ k j. us ++ waiting_from k (map f (drop j xs))) one next
    ∙ ap (λ vs. vs ++ rest) is
    ∙ append_assoc ws (cond b (t ∷ []) []) rest
    ∙ ap (λ vs. ws ++ vs) (by b e)
    ∙ ap (λ ys. ws ++ waiting_from t (map f ys)) (sym (drop-cons xs i d small))
  where
    by : (z : Bool) → z ≡ waits_open (f (get_or xs i d)) → cond z (t ∷ []) [] ++ waiting_from (suc t) (map f (drop (suc i) xs)) ≡ waiting_from t (f (get_or xs i d) ∷ map f (drop (suc i) xs))
    by true h = ap (λ z. cond z (t ∷ waiting_from (suc t) (map f (drop (suc i) xs))) (waiting_from (suc t) (map f (drop (suc i) xs)))) h
    by false h = ap (λ z. cond z (t ∷ waiting_from (suc t) (map f (drop (suc i) xs))) (waiting_from (suc t) (map f (drop (suc i) xs)))) h

-- ---- a Stranded

pub strands_none : (ss : List Asleep) (x : SlotState) → (length ss ≡ 0 → ⊥) → strand_entry (sleepers ss) x ≡ None
strands_none [] x h = absurd (h refl)
strands_none (s ∷ ss) x h = refl

stranded_some : (ts : List ℕ) (x : SlotState) → (length ts ≡ 0 → ⊥) → stranded ts x ≡ Some (strands ts x)
stranded_some [] x h = absurd (h refl)
stranded_some (t ∷ ts) x h = refl

pub strands_some : (ss : List Asleep) (ts : List ℕ) (x : SlotState) → length ss ≡ 0 → rest_from x.flight 0 x.threads ≡ true → ts ≡ waiting_from 0 x.threads → (length ts ≡ 0 → ⊥) → strand_entry (sleepers ss) x ≡ Some (strands ts x)
strands_some (s ∷ ss) ts x e h w some = absurd (omega (arith, e))
strands_some [] ts x e h w some =
    ap (λ z. cond z (stranded (waiting_from 0 x.threads) x) None) h ∙ ap (λ us. stranded us x) (sym w) ∙ stranded_some ts x some
