-- Changes of one thread of a state.
use Rattle.std.proofs.Common.{◌≡◌, ℕ, zero, suc, ◌<◌, false, List, [], ◌∷◌, ◌++◌, Some, None, length, slice_get, slice_set, get_or, map, refl, sym, ap, ap₂, ◌∙◌, subst}
use Rattle.std.specs.List.{AllByRecursion}
use Rattle.std.proofs.lemmas.List.{map-append, map-set}
use Rattle.std.proofs.lemmas.Option.{slice_get_read}
use Rattle.rules_code.specs.declared.code.CodeBody.{CodeBody}
use Rattle.slot_states.specs.SlotStates.{SlotThread, SlotState, changed, set_thread, spawned}
use Rattle.number_states.specs.declared.state.NumberThread.{NumberThread}
use Rattle.number_states.specs.declared.state.NumberState.{NumberState}
use Rattle.number_states.specs.Stocks.{Stock, HasGrown, IsTerm, term_at}
use Rattle.number_states.specs.States.{Contents, contents, thread_of, slots_of, slots, AllIn, AreIn, Becomes}
use Rattle.number_states.proofs.Growth.{threads_on, all_in_on, slots_of_on}

-- ---- changes in turn

pub becomes_then : (e f : CodeBody → SlotState → SlotState) (g h i : Stock) (x y z : NumberState) → Becomes e g x h y → Becomes f h y i z → Becomes (λ b s. f b (e b s)) g x i z
becomes_then e f g h i x y z p q = record {
  is = λ b. q.is b ∙ ap (f b) (p.is b);
  there = q.there;
  output = q.output ∙ p.output;
  errors = q.errors ∙ p.errors;
}

-- the tables grow
pub becomes_later : (f : CodeBody → SlotState → SlotState) (g h i : Stock) (x y : NumberState) → Becomes f g x h y → HasGrown h i → Becomes f g x i y
becomes_later f g h i x y p k = record {
  is = λ b. slots_of_on h i k b (contents y) p.there ∙ p.is b;
  there = all_in_on h i k (contents y) p.there;
  output = p.output;
  errors = p.errors;
}

pub becomes_same : (g h : Stock) (x : NumberState) → AreIn g x → HasGrown g h → Becomes (λ b s. s) g x h x
becomes_same g h x t k = record {
  is = λ b. slots_of_on g h k b (contents x) t;
  there = all_in_on g h k (contents x) t;
  output = refl;
  errors = refl;
}

-- ---- lists

pub all_set : {A : Type 0} (P : A → Type 0) (xs : List A) (n : ℕ) (x : A) → AllByRecursion P xs → P x → AllByRecursion P (slice_set xs n x)
all_set P [] n x h k = tt
all_set P (y ∷ xs) zero x h k = (k, h.1)
all_set P (y ∷ xs) (suc n) x h k = (h.0, all_set P xs n x h.1 k)

pub all_more : {A : Type 0} (P : A → Type 0) (xs : List A) (x : A) → AllByRecursion P xs → P x → AllByRecursion P (xs ++ x ∷ [])
all_more P [] x h k = (k, tt)
all_more P (y ∷ xs) x h k = (h.0, all_more P xs x h.1 k)

pub all_at : {A : Type 0} (P : A → Type 0) (xs : List A) (n : ℕ) (x : A) → AllByRecursion P xs → slice_get xs n ≡ Some x → P x
all_at P [] n x h e = absurd (cc e)
all_at P (y ∷ xs) zero x h e = let is : y ≡ x = cc e in subst P is h.0
all_at P (y ∷ xs) (suc n) x h e = all_at P xs n x h.1 e

none_mapped : {A B : Type 0} (f : A → B) (xs : List A) (n : ℕ) → slice_get xs n ≡ None → slice_get (map f xs) n ≡ None
none_mapped f [] n e = refl
none_mapped f (x ∷ xs) zero e = absurd (cc e)
none_mapped f (x ∷ xs) (suc n) e = none_mapped f xs n e

pub got_mapped : {A B : Type 0} (f : A → B) (xs : List A) (n : ℕ) (x : A) → slice_get xs n ≡ Some x → slice_get (map f xs) n ≡ Some (f x)
got_mapped f [] n x e = absurd (cc e)
got_mapped f (y ∷ xs) zero x e = let is : y ≡ x = cc e in ap (λ z. Some (f z)) is
got_mapped f (y ∷ xs) (suc n) x e = got_mapped f xs n x e

pub got_read : {A : Type 0} (xs : List A) (n : ℕ) (x : A) → n < length xs → x ≡ get_or xs n x → slice_get xs n ≡ Some x
got_read xs n x small is = slice_get_read xs (length xs) n x refl small is

-- ---- one thread

-- where it isn't there
pub nobody_changes : (f : SlotThread → SlotThread) (g : Stock) (b : CodeBody) (ths : List NumberThread) (t : ℕ) → slice_get ths t ≡ None → changed t f (map (thread_of g b) ths) ≡ map (thread_of g b) ths
nobody_changes f g b ths t e = ap (λ o. set_thread t f o (map (thread_of g b) ths)) (none_mapped (thread_of g b) ths t e)

module _ (g h : Stock) (grown : HasGrown g h) (t : ℕ) (th new : NumberThread) where
  pub one_changes : (f : SlotThread → SlotThread) (b : CodeBody) (ths : List NumberThread) → AllByRecursion (λ (u : NumberThread). IsTerm g u.term) ths → slice_get ths t ≡ Some th
      → thread_of h b new ≡ f (thread_of g b th) → map (thread_of h b) (slice_set ths t new) ≡ changed t f (map (thread_of g b) ths)
  one_changes f b ths all e is =
      map-set (thread_of h b) ths t new
      ∙ ap₂ (λ us u. slice_set us t u) (threads_on g h grown b ths all) is
      ∙ sym (ap (λ o. set_thread t f o (map (thread_of g b) ths)) (got_mapped (thread_of g b) ths t th e))

  -- only it changes in a state
  pub thread_becomes : (f : CodeBody → SlotThread → SlotThread) (x y : NumberState) → AreIn g x → slice_get x.threads.items t ≡ Some th
      → contents y ≡ (let c = contents x in record c { threads = slice_set x.threads.items t new }) → ((b : CodeBody) → thread_of h b new ≡ f b (thread_of g b th)) → IsTerm h new.term
      → Becomes (λ b s. record s { threads = changed t (f b) s.threads }) g x h y
  thread_becomes f x y all e same is term =
      let c = contents x in
      let d : Contents = record c { threads = slice_set x.threads.items t new } in
      let in_h : AllIn h c = all_in_on g h grown c all in
      let in_d : AllIn h d = record {
        threads = all_set (λ (u : NumberThread). IsTerm h u.term) x.threads.items t new in_h.threads term;
        cells = in_h.cells;
        flight = in_h.flight;
        output = in_h.output;
        errors = in_h.errors;
      } in
      let threads : (b : CodeBody) → map (thread_of h b) (slice_set x.threads.items t new) ≡ changed t (f b) (map (thread_of g b) x.threads.items) =
      λ b. one_changes (f b) b x.threads.items all.threads e (is b) in
      record {
        is = λ b. ap (slots_of h b) same ∙ (ap (λ (s : SlotState). record s { threads = map (thread_of h b) (slice_set x.threads.items t new) }) (slots_of_on g h grown b c all)
            ∙ ap (λ ths. let s = slots_of g b c in record s { threads = ths }) (threads b));
        there = subst (AllIn h) (sym same) in_d;
        output = ap (λ (z : Contents). z.output) same;
        errors = ap (λ (z : Contents). z.errors) same;
      }

-- nobody changes
pub nobody_becomes : (f : CodeBody → SlotThread → SlotThread) (g h : Stock) (x : NumberState) (t : ℕ) → AreIn g x → HasGrown g h → slice_get x.threads.items t ≡ None
    → Becomes (λ b s. record s { threads = changed t (f b) s.threads }) g x h x
nobody_becomes f g h x t all grown e = record {
  is = λ b. slots_of_on g h grown b (contents x) all ∙ ap (λ ths. let s = slots g b x in record s { threads = ths }) (sym (nobody_changes (f b) g b x.threads.items t e));
  there = all_in_on g h grown (contents x) all;
  output = refl;
  errors = refl;
}

-- one more, the last by number
pub spawned_becomes : (g : Stock) (x y : NumberState) (term : ℕ) (new : NumberThread) → AreIn g x → IsTerm g new.term → ((b : CodeBody) → thread_of g b new ≡ record { term = term_at g b term; blocked = false; finished = false })
    → contents y ≡ (let c = contents x in record c { threads = x.threads.items ++ new ∷ [] })
    → Becomes (λ b s. record s { threads = spawned (term_at g b term) s.threads }) g x g y
spawned_becomes g x y term new all is_term is same =
    let c = contents x in
    let in_d : AllIn g (record c { threads = x.threads.items ++ new ∷ [] }) = record {
      threads = all_more (λ (u : NumberThread). IsTerm g u.term) x.threads.items new all.threads is_term;
      cells = all.cells;
      flight = all.flight;
      output = all.output;
      errors = all.errors;
    } in
    record {
      is = λ b. ap (slots_of g b) same ∙ ap (λ ths. let s = slots_of g b c in record s { threads = ths }) (map-append (thread_of g b) x.threads.items (new ∷ []) ∙ ap (λ u. map (thread_of g b) x.threads.items ++ u ∷ []) (is b));
      there = subst (AllIn g) (sym same) in_d;
      output = ap (λ (z : Contents). z.output) same;
      errors = ap (λ (z : Contents). z.errors) same;
    }
