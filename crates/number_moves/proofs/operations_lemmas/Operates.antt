-- Threads that stand at an operation.
use Rattle.std.proofs.Common.{◌≡◌, ℕ, zero, suc, ◌<◌, ◌==◌, false, List, [], ◌∷◌, ◌++◌, length, Option, Some, None, Result, slice_get, refl, sym, ap, ap₂, ◌∙◌, subst, arith, ne_eqb}
use Rattle.std.specs.Prelude.{MatchOption, OnOk}
use Rattle.std.proofs.lemmas.List.{length-map}
use Rattle.std.proofs.lemmas.Option.{slice_get_within}
use Rattle.hs_base.specs.declared.value.Value.{Value}
use Rattle.hs_base.specs.declared.mask.Mask.{Mask}
use Rattle.hs_base.specs.declared.mask.Mask.TheVariants.{Unmasked}
use Rattle.hs_base.specs.declared.exn.Exn.{Exn}
use Rattle.hs_rules.specs.declared.entry.Entry.TheVariants as entry
use Rattle.hs_laws.proofs.Lists.{cond_false}
use Rattle.rules_meaning.specs.Values.{values_of}
use Rattle.rules_expansion.specs.declared.primitive.Primitive.{Primitive}
use Rattle.rules_code.specs.declared.code.CodeBody.{CodeBody}
use Rattle.slot_laws.specs.SlotRules.{SlotPart, calls, performs, mask_from}
use Rattle.slot_states.specs.SlotStates.{SlotThread, SlotState, throws}
use Rattle.slot_states.specs.Printing.{output_of, errors_of, part_output, part_errors, op_output, op_errors, output_by, errors_by}
use Rattle.slot_states.specs.entering.Operating.{thrown_at, thrown, operated}
use Rattle.slot_states.specs.entering.Entering.{entered, operates, op_entry}
use Rattle.local_steps.specs.declared.active.Active.{Active}
use Rattle.local_steps.specs.declared.active.Active.TheVariants as a
use Rattle.local_steps.specs.Machine.{active_of, funs_of}
use Rattle.frame_stack.specs.declared.control.Operation.{Operation}
use Rattle.frame_stack.specs.declared.control.Operation.TheVariants as p
use Rattle.frame_stack.specs.Kinds.{AreOthers}
use Rattle.frame_stack.specs.Parts.{op_of}
use Rattle.number_states.specs.declared.state.NumberThread.{NumberThread}
use Rattle.number_states.specs.declared.state.NumberState.{NumberState}
use Rattle.number_states.specs.Stocks.{Stock, HasGrown, term_at, text_at}
use Rattle.number_states.specs.States.{Contents, contents, slots_of, slots, thread_of, AreIn, Becomes}
use Rattle.number_states.proofs.Changes.{got_mapped}
use Rattle.number_moves.specs.declared.operations.operating.Standing.{Standing}
use Rattle.number_changes.specs.Moves.{Makes, Enters, IsActing}
use Rattle.number_moves.specs.operations.Standing.{IsIdle, Stands, HasTarget}
use Rattle.number_moves.proofs.operations_lemmas.Refused.{refused}
use Rattle.number_changes.proofs.Made.{makes, on_acting, acting_term}
use Rattle.number_changes.proofs.Written.{on_ok}

-- ---- the operation of a part

pub asked_performs : (b : CodeBody) (part : Active) (q : Primitive) (vs us : List Value) (found : Option Operation) → part ≡ a.Asks q vs → us ≡ vs → MatchOption found (AreOthers q (values_of us)) (λ o. (b' : CodeBody) → op_of b' o ≡ calls q (values_of us))
    → MatchOption found (IsIdle (active_of b part)) (λ o. active_of b part ≡ performs (op_of b o))
asked_performs b part q vs us None e k h = subst (λ z. IsIdle (active_of b z)) (sym e) (λ t fs x. refused t (mask_from Unmasked fs) x q (values_of vs) (subst (λ ws. AreOthers q (values_of ws)) k h))
asked_performs b part q vs us (Some o) e k h = ap (active_of b) e ∙ ap (λ ws. performs (calls q (values_of ws))) (sym k) ∙ ap performs (sym (h b))

-- ---- a thread that acts and isn't blocked

free_entry : (t : ℕ) (th : SlotThread) (x : SlotState) → th.blocked ≡ false → op_entry t th x ≡ operates t th.term.frames th.term.part x
free_entry t th x free = cond_false th.blocked None (operates t th.term.frames th.term.part x) free

pub entry_is : (g : Stock) (b : CodeBody) (x : NumberState) (t : ℕ) (th : NumberThread) → IsActing x t th → th.blocked ≡ false → let st = term_at g b th.term in entered (funs_of b) (slots g b x) (entry.Op t) ≡ operates t st.frames st.part (slots g b x)
entry_is g b x t th acts free =
    on_acting g b x t th (λ u. op_entry t u (slots g b x)) acts ∙ free_entry t (thread_of g b th) (slots g b x) free

pub idle_enters : (g : Stock) (b : CodeBody) (x : NumberState) (t : ℕ) (th : NumberThread) (part : SlotPart) → IsActing x t th → th.blocked ≡ false → part ≡ (term_at g b th.term).part → IsIdle part → entered (funs_of b) (slots g b x) (entry.Op t) ≡ None
idle_enters g b x t th part acts free e idle =
    let st = term_at g b th.term in
    entry_is g b x t th acts free ∙ ap (λ z. operates t st.frames z (slots g b x)) (sym e) ∙ idle t st.frames (slots g b x)

free_acting : (x : NumberState) (t : ℕ) (th : NumberThread) → IsActing x t th → th.blocked ≡ false → IsActing x t (record { term = th.term; blocked = false; finished = false })
free_acting x t th acts free = record {
  is = acts.is ∙ ap₂ (λ c d. Some (record { term = th.term; blocked = c; finished = d })) free acts.unfinished;
  unfinished = refl;
}

pub stands_at : (g : Stock) (x : NumberState) (t : ℕ) (th : NumberThread) (o : Operation) → AreIn g x → IsActing x t th → th.blocked ≡ false → ((b : CodeBody) → (term_at g b th.term).part ≡ performs (op_of b o))
    → Stands g x t (record { term = th.term; operation = o })
stands_at g x t th o all acts free part = record {
  term = acting_term g x t th all acts;
  thread = free_acting x t th acts free;
  part = part;
}

-- ---- what the operation does

module _ (g : Stock) (x : NumberState) (t : ℕ) (s : Standing) (h : Stands g x t s) (b : CodeBody) where
  pub stands_enters : entered (funs_of b) (slots g b x) (entry.Op t) ≡ operated t (mask_from Unmasked (term_at g b s.term).frames) (op_of b s.operation) (slots g b x)
  stands_enters =
      let st = term_at g b s.term in
      entry_is g b x t (record { term = s.term; blocked = false; finished = false }) h.thread refl ∙ ap (λ z. operates t st.frames z (slots g b x)) (h.part b)

  thread_is : slice_get (slots g b x).threads t ≡ Some (thread_of g b (record { term = s.term; blocked = false; finished = false }))
  thread_is = got_mapped (thread_of g b) x.threads.items t (record { term = s.term; blocked = false; finished = false }) h.thread.is

  stands_prints : output_by (slots g b x) (entry.Op t) ≡ op_output (op_of b s.operation)
  stands_prints = ap part_output thread_is ∙ ap output_of (h.part b)

  stands_writes : errors_by (slots g b x) (entry.Op t) ≡ op_errors (op_of b s.operation)
  stands_writes = ap part_errors thread_is ∙ ap errors_of (h.part b)

  -- by a copy
  pub performs_enters : (j : Stock) (c y : NumberState) → contents c ≡ contents x
      → Makes (operated t (mask_from Unmasked (term_at g b s.term).frames) (op_of b s.operation)) b g c (op_output (op_of b s.operation)) (op_errors (op_of b s.operation)) j y → Enters (entry.Op t) b g x j (Some y)
  performs_enters j c y same made = record {
    is = stands_enters ∙ ap (λ d. operated t (mask_from Unmasked (term_at g b s.term).frames) (op_of b s.operation) (slots_of g b d)) (sym same) ∙ made.is;
    there = made.there;
    output = made.output ∙ ap₂ (λ (d : Contents) more. text_at g d.output ++ more) same (sym stands_prints);
    errors = made.errors ∙ ap₂ (λ (d : Contents) more. text_at g d.errors ++ more) same (sym stands_writes);
  }

-- ---- a throw at nobody

past : {A : Type 0} (xs : List A) (n : ℕ) → (n < length xs → ⊥) → slice_get xs n ≡ None
past [] n h = refl
past (x ∷ xs) zero h = absurd (h (omega arith))
past (x ∷ xs) (suc n) h = past xs n (λ l. h (omega (arith, l)))

nobody_there : (t u : ℕ) (e : Exn) (x : SlotState) → t < length x.threads → (u < length x.threads → ⊥) → thrown t u e x ≡ None
nobody_there t u e x acts n =
    cond_false (u == t) (Some (throws t e x)) (thrown_at t u e (slice_get x.threads u) x) (ne_eqb u t (λ same. n (subst (λ k. k < length x.threads) (sym same) acts)))
    ∙ ap (λ o. thrown_at t u e o x) (past x.threads u n)

no_target : (b : CodeBody) (t : ℕ) (m : Mask) (o : Operation) (x : SlotState) (count : ℕ) → length x.threads ≡ count → t < count → (HasTarget count o → ⊥) → operated t m (op_of b o) x ≡ None
no_target b t m (p.ThrowTo u e) x count long acts n = nobody_there t u e x (subst (λ k. t < k) (sym long) acts) (λ l. n (subst (λ k. u < k) long l))
no_target b t m _ x count long acts n = absurd (n tt)

pub targets_nobody : (g : Stock) (x : NumberState) (t : ℕ) (s : Standing) → Stands g x t s → (b : CodeBody) (count : ℕ) → count ≡ length x.threads.items → (HasTarget count s.operation → ⊥) → entered (funs_of b) (slots g b x) (entry.Op t) ≡ None
targets_nobody g x t s h b count long n =
    stands_enters g x t s h b
    ∙ no_target b t (mask_from Unmasked (term_at g b s.term).frames) s.operation (slots g b x) count (length-map x.threads.items (thread_of g b) ∙ sym long)
    (subst (λ k. t < k) (sym long) (slice_get_within x.threads.items t _ h.thread.is)) n

-- ---- one operation

-- a thread with the term of this number performed an operation
abbrev pub Does : Stock → NumberState → ℕ → ℕ → Stock → NumberState → Operation → Type 0
Does g x t term h y o = (b : CodeBody) → Makes (operated t (mask_from Unmasked (term_at g b term).frames) (op_of b o)) b g x (op_output (op_of b o)) (op_errors (op_of b o)) h y

module _ {A B : Type 0} (g h : Stock) (x y : NumberState) (t term : ℕ) (o one : Operation) (same : o ≡ one) (r : Result A B) where
  pub performed_so : OnOk r (Does g x t term h y one) → OnOk r (Does g x t term h y o)
  performed_so = on_ok (Does g x t term h y one) (Does g x t term h y o) (subst (Does g x t term h y) (sym same)) r

  -- nothing is printed
  pub quietly : (f : CodeBody → SlotState → SlotState) → AreIn g x → HasGrown g h → OnOk r (Becomes f g x h y) → ((b : CodeBody) → operated t (mask_from Unmasked (term_at g b term).frames) (op_of b one) (slots g b x) ≡ Some (f b (slots g b x)))
      → ((b : CodeBody) → op_output (op_of b one) ≡ []) → ((b : CodeBody) → op_errors (op_of b one) ≡ []) → OnOk r (Does g x t term h y o)
  quietly f all grown p is out err =
      performed_so (on_ok (Becomes f g x h y) (Does g x t term h y one)
      (λ k b. let made = makes f (operated t (mask_from Unmasked (term_at g b term).frames) (op_of b one)) b g h x y all grown k (is b) in
      record {
        is = made.is;
        there = made.there;
        output = made.output ∙ ap (λ more. text_at g x.output ++ more) (sym (out b));
        errors = made.errors ∙ ap (λ more. text_at g x.errors ++ more) (sym (err b));
      }) r p)
