-- What is over all hands stays while passes move to the owners of their deques.
use Rattle.std.proofs.Common.{◌≡◌, ◌≢◌, ◌⊎◌, ℕ, zero, suc, ◌+◌, ◌-◌, ◌<◌, ◌≤◌, List, [], ◌∷◌, ◌++◌, length, length-set, map, set, slice_get, Option, Some, refl, ap, sym, ◌∙◌, subst, inl, inr, ⊎_elim, arith, append-nil}
use Rattle.std.specs.declared.alloc.Global.{Global}
use Rattle.atomic_blocks.specs.Lent.{RowsId}
use Rattle.rules_code.specs.declared.code.CodeBody.{CodeBody}
use Rattle.conc_hands.specs.declared.queues.view.QueueView.{QueueView}
use Rattle.conc_hands.specs.declared.queues.deque.Door.{Door}
use Rattle.conc_hands.specs.declared.queues.deque.DequePass.{DequePass}
use Rattle.conc_hands.specs.queues.QueueRule.{weigh, spent, both_of}
use Rattle.conc_hands.specs.queues.Deques.{deque_view, deque_id, door_id, pass_view, IsDequePass}
use Rattle.conc_hands.proofs.queues_lemmas.Weights.{weigh_append}
use Rattle.conc_hands.specs.declared.hand.JobsEnd.{JobsEnd}
use Rattle.conc_hands.specs.Ends.{IsClean, IsEndOf, end_code, end_pushed, end_taken, stolen_by}
use Rattle.conc_hands.specs.Gathering.{if_same, total_over, share_of_pass, shares_of_deque, pushed_weight, taken_weight, number_at, AreEnds, AreDealt, AreWhole, IsSpentAt, IsConserved, Swapped}
use Rattle.conc_hands.proofs.Places.{got_after, got_set, set_same, mapped_set, within}
use Rattle.conc_hands.proofs.Totals.{if_same_plus, same_in, total_set, mapped_same, number_here, by_number, one_number, some_has}
use Rattle.conc_hands.proofs.Tickets.{stolen_set, stolen_none}

spent_clean : (c : Option CodeBody) → IsClean c spent
spent_clean c = (refl, (λ no. absurd (omega arith)), λ _. refl)

module _ {J : Type 0} where
  abbrev numbered : JobsEnd J → ℕ
  numbered e = e.number

  share_set : (ps : List (DequePass J)) (m n : ℕ) (p s : DequePass J) → slice_get ps m ≡ Some p → (pass_view s).shares ≡ 0 → share_of_pass n (set ps m s) + if_same m n (pass_view p).shares ≡ share_of_pass n ps
  share_set [] m n p s at none = absurd (cc at)
  share_set (x ∷ xs) zero zero p s at none = let is : x ≡ p = cc at in let k = ap (λ (y : DequePass J). (pass_view y).shares) is in omega arith
  share_set (x ∷ xs) zero (suc n) p s at none = omega arith
  share_set (x ∷ xs) (suc m) zero p s at none = omega arith
  share_set (x ∷ xs) (suc m) (suc n) p s at none = share_set xs m n p s at none

  -- a pass was taken out, and a spent one left
  module _ (doors : List (Door J)) (e f : JobsEnd J) (p : DequePass J) (door : Door J) (place : ℕ) (at : slice_get e.passes.items place ≡ Some p) (there : slice_get doors place ≡ Some door) (s : Swapped (door_id door) place e f) where
    abbrev left : DequePass J
    left = s.2.0

    left_is : pass_view left ≡ spent
    left_is = s.2.2

    swapped_end : IsEndOf doors e → IsEndOf doors f
    swapped_end h = let code : end_code f ≡ end_code e = ap (λ d. (deque_view d).code) s.1 in record {
      place = subst (λ n. n < length doors) (sym s.0) h.place;
      own = λ d a. ap deque_id s.1 ∙ h.own d (subst (λ n. slice_get doors n ≡ Some d) s.0 a);
      few = subst (λ n. n ≤ length doors) (sym (ap length s.2.1 ∙ length-set e.passes.items place left)) h.few;
      passes_of = λ k x b u v. ⊎_elim
          (λ t. let same : door ≡ u = cc (there, v, t.0) in subst (λ (y : Door J × DequePass J). IsDequePass (door_id y.0) y.1) (λ i. (same i, t.1 i)) s.2.3)
          (λ t. h.passes_of k x t.1 u v) (got_after e.passes.items place k left x (subst (λ ps. slice_get ps k ≡ Some x) s.2.1 b));
      clean = λ k x b. ⊎_elim
          (λ t. subst (IsClean (end_code f)) (sym left_is ∙ ap pass_view t.1) (spent_clean (end_code f)))
          (λ t. subst (λ c. IsClean c (pass_view x)) (sym code) (h.clean k x t.1)) (got_after e.passes.items place k left x (subst (λ ps. slice_get ps k ≡ Some x) s.2.1 b));
    }

    swapped_count : length f.passes.items ≡ length e.passes.items
    swapped_count = ap length s.2.1 ∙ length-set e.passes.items place left

    swapped_shares : (n : ℕ) → shares_of_deque n f + if_same place n (pass_view p).shares ≡ shares_of_deque n e
    swapped_shares n =
        let a : if_same f.number n (deque_view f.deque).shares ≡ if_same e.number n (deque_view e.deque).shares = (λ i. if_same (s.0 i) n (deque_view (s.1 i)).shares) in
        let b = ap (share_of_pass n) s.2.1 in
        let c = share_set e.passes.items place n p left at (ap (λ (v : QueueView). v.shares) left_is) in omega arith

    swapped_taken : (h : ℕ → ℕ) → taken_weight h f + weigh h (pass_view p).taken ≡ taken_weight h e
    swapped_taken h =
        let a = ap (λ d. weigh h (deque_view d).taken) s.1 in
        let b = ap (λ ps. weigh h (stolen_by ps)) s.2.1 in
        let c = stolen_set e.passes.items place p left at h in
        let d = ap (λ (v : QueueView). weigh h v.taken) left_is in
        let x = weigh_append h (deque_view f.deque).taken (stolen_by f.passes.items) in
        let y = weigh_append h (deque_view e.deque).taken (stolen_by e.passes.items) in omega arith

    swapped_pushed : (h : ℕ → ℕ) → pushed_weight h f ≡ pushed_weight h e
    swapped_pushed h = ap (λ d. weigh h (deque_view d).put) s.1

  -- a pass was taken in at the owner of its deque
  abbrev pub TookIn : QueueView → JobsEnd J → JobsEnd J → Type 0
  TookIn v e f = (f.number ≡ e.number) × (deque_id f.deque ≡ deque_id e.deque) × (f.passes ≡ e.passes) × (deque_view f.deque ≡ both_of (deque_view e.deque) v)

  module _ (doors : List (Door J)) (v : QueueView) (e f : JobsEnd J) (s : TookIn v e f) where
    took_end : IsEndOf doors e → IsEndOf doors f
    took_end h = let code : end_code f ≡ end_code e = ap (λ (u : QueueView). u.code) s.3 in record {
      place = subst (λ n. n < length doors) (sym s.0) h.place;
      own = λ d a. s.1 ∙ h.own d (subst (λ n. slice_get doors n ≡ Some d) s.0 a);
      few = subst (λ ps. length ps.items ≤ length doors) (sym s.2) h.few;
      passes_of = λ k x b. h.passes_of k x (subst (λ ps. slice_get ps.items k ≡ Some x) s.2 b);
      clean = λ k x b. subst (λ c. IsClean c (pass_view x)) (sym code) (h.clean k x (subst (λ ps. slice_get ps.items k ≡ Some x) s.2 b));
    }

    took_shares : (n : ℕ) → shares_of_deque n f ≡ shares_of_deque n e + if_same e.number n v.shares
    took_shares n =
        let a : if_same f.number n (deque_view f.deque).shares ≡ if_same e.number n ((deque_view e.deque).shares + v.shares) = (λ i. if_same (s.0 i) n (s.3 i).shares) in
        let b = if_same_plus e.number n (deque_view e.deque).shares v.shares in
        let c = ap (λ ps. share_of_pass n ps.items) s.2 in omega arith

    took_taken : (h : ℕ → ℕ) → taken_weight h f ≡ taken_weight h e + weigh h v.taken
    took_taken h =
        let a = ap (λ (u : QueueView). weigh h u.taken) s.3 in
        let b = weigh_append h (deque_view e.deque).taken v.taken in
        let c = ap (λ ps. weigh h (stolen_by ps.items)) s.2 in
        let x = weigh_append h (deque_view f.deque).taken (stolen_by f.passes.items) in
        let y = weigh_append h (deque_view e.deque).taken (stolen_by e.passes.items) in omega arith

    took_pushed : (h : ℕ → ℕ) → pushed_weight h f ≡ pushed_weight h e + weigh h v.put
    took_pushed h =
        let a = ap (λ (u : QueueView). weigh h u.put) s.3 in
        let b = weigh_append h (deque_view e.deque).put v.put in omega arith

  -- one pass was moved: out of the hand at `at`, where a spent one stays, and in at its owner
  module _ (doors : List (Door J)) (es : List (JobsEnd J)) (at owner : ℕ) (e f o : JobsEnd J) (p : DequePass J) (door : Door J) (place : ℕ) (all : AreEnds doors es) (here : slice_get es at ≡ Some e) (pass_at : slice_get e.passes.items place ≡ Some p) (there : slice_get doors place ≡ Some door) (s : Swapped (door_id door) place e f) (owns : slice_get (set es at f) owner ≡ Some o) (is_owner : number_at es owner ≡ place) where
    abbrev pub first : List (JobsEnd J)
    first = set es at f

    first_ends : AreEnds doors first
    first_ends = λ i x a. ⊎_elim
        (λ u. subst (λ (y : JobsEnd J). IsEndOf doors y × (length y.passes.items ≡ length doors)) u.1 (let h = all at e here in (swapped_end doors e f p door place pass_at there s h.0, swapped_count doors e f p door place pass_at there s ∙ h.1)))
        (λ u. all i x u.1) (got_after es at i f x a)

    first_numbers : map numbered first ≡ map numbered es
    first_numbers = mapped_same numbered es at e f here s.0

    owner_is : o.number ≡ place
    owner_is = number_here numbered first owner o owns ∙ (same_in (map numbered first) (map numbered es) owner first_numbers ∙ is_owner)

    pub may_take_in : IsDequePass (deque_id o.deque) p
    may_take_in = subst (λ id. IsDequePass id p) (sym ((first_ends owner o owns).0.own door (subst (λ n. slice_get doors n ≡ Some door) (sym owner_is) there))) ((all at e here).0.passes_of place p pass_at door there)

    spent_there : IsSpentAt first at place
    spent_there = λ x q a b. let x_is : f ≡ x = cc (sym (got_set es at f (within es at e here)) ∙ a) in
        let q_at : slice_get (set e.passes.items place (s.2.0)) place ≡ Some q = subst (λ ps. slice_get ps place ≡ Some q) s.2.1 (subst (λ (y : JobsEnd J). slice_get y.passes.items place ≡ Some q) (sym x_is) b) in
        let q_is : s.2.0 ≡ q = cc (sym (got_set e.passes.items place (s.2.0) (within e.passes.items place p pass_at)) ∙ q_at) in
        sym (ap pass_view q_is) ∙ s.2.2

    first_stays : (q n : ℕ) → IsSpentAt es q n → IsSpentAt first q n
    first_stays q n h = λ x y a b. ⊎_elim
        (λ u. let b' : slice_get (set e.passes.items place (s.2.0)) n ≡ Some y = subst (λ ps. slice_get ps n ≡ Some y) s.2.1 (subst (λ (z : JobsEnd J). slice_get z.passes.items n ≡ Some y) (sym u.1) b) in
        ⊎_elim (λ w. sym (ap pass_view w.1) ∙ s.2.2) (λ w. h e y (subst (λ k. slice_get es k ≡ Some e) (sym u.0) here) w.1) (got_after e.passes.items place n (s.2.0) y b'))
        (λ u. h x y u.1 b) (got_after es at q f x a)

    module _ (g : JobsEnd J) (t : TookIn (pass_view p) o g) where
      abbrev pub second : List (JobsEnd J)
      second = set first owner g

      pub moved_ends : AreEnds doors second
      moved_ends = λ i x a. ⊎_elim
          (λ u. subst (λ (y : JobsEnd J). IsEndOf doors y × (length y.passes.items ≡ length doors)) u.1 (let h = first_ends owner o owns in (took_end doors (pass_view p) o g t h.0, ap (λ ps. length ps.items) t.2 ∙ h.1)))
          (λ u. first_ends i x u.1) (got_after first owner i g x a)

      second_stays : (q n : ℕ) → IsSpentAt first q n → IsSpentAt second q n
      second_stays q n h = λ x y a b. ⊎_elim
          (λ u. h o y (subst (λ k. slice_get first k ≡ Some o) (sym u.0) owns) (subst (λ ps. slice_get ps.items n ≡ Some y) t.2 (subst (λ (z : JobsEnd J). slice_get z.passes.items n ≡ Some y) (sym u.1) b)))
          (λ u. h x y u.1 b) (got_after first owner q g x a)

      pub moved_spent : IsSpentAt second at place
      moved_spent = second_stays at place spent_there

      pub moved_conserved : IsConserved es second
      moved_conserved = record {
        numbers = mapped_same numbered first owner o g owns t.0 ∙ first_numbers;
        shares = λ n.
            let a = total_set (shares_of_deque n) es at e f here in
            let b = total_set (shares_of_deque n) first owner o g owns in
            let c = swapped_shares doors e f p door place pass_at there s n in
            let d = took_shares doors (pass_view p) o g t n in
            let x = ap (λ m. if_same m n (pass_view p).shares) owner_is in omega arith;
        pushed = λ h.
            let a = total_set (pushed_weight h) es at e f here in
            let b = total_set (pushed_weight h) first owner o g owns in
            let c = swapped_pushed doors e f p door place pass_at there s h in
            let d = took_pushed doors (pass_view p) o g t h in
            let none = ap (weigh h) ((all at e here).0.clean place p pass_at).0 in omega arith;
        taken = λ h.
            let a = total_set (taken_weight h) es at e f here in
            let b = total_set (taken_weight h) first owner o g owns in
            let c = swapped_taken doors e f p door place pass_at there s h in
            let d = took_taken doors (pass_view p) o g t h in omega arith;
        spent_stays = λ q n h. second_stays q n (first_stays q n h);
      }

  pub conserved_self : (es : List (JobsEnd J)) → IsConserved es es
  conserved_self es = record { numbers = refl; shares = λ n. refl; pushed = λ h. refl; taken = λ h. refl; spent_stays = λ q n h. h }

  pub conserved_next : (es fs gs : List (JobsEnd J)) → IsConserved es fs → IsConserved fs gs → IsConserved es gs
  conserved_next es fs gs a b = record {
    numbers = b.numbers ∙ a.numbers;
    shares = λ n. b.shares n ∙ a.shares n;
    pushed = λ h. b.pushed h ∙ a.pushed h;
    taken = λ h. b.taken h ∙ a.taken h;
    spent_stays = λ q n h. b.spent_stays q n (a.spent_stays q n h);
  }

  pub same_place : (es fs : List (JobsEnd J)) (k : ℕ) → IsConserved es fs → number_at fs k ≡ number_at es k
  same_place es fs k c = same_in (map numbered fs) (map numbered es) k c.numbers

  -- the shares that are left once all passes are spent
  no_share : (ps : List (DequePass J)) (n : ℕ) → ((p : DequePass J) → slice_get ps n ≡ Some p → pass_view p ≡ spent) → share_of_pass n ps ≡ 0
  no_share [] n none = refl
  no_share (p ∷ ps) zero none = ap (λ (v : QueueView). v.shares) (none p refl)
  no_share (p ∷ ps) (suc n) none = no_share ps n none

  shares_left : (n : ℕ) (es : List (JobsEnd J)) → ((q : ℕ) → q < length es → IsSpentAt es q n) → total_over (shares_of_deque n) es ≡ total_over (λ (e : JobsEnd J). if_same e.number n (deque_view e.deque).shares) es
  shares_left n [] none = refl
  shares_left n (e ∷ es) none =
      let a = no_share e.passes.items n (λ p at. none 0 (omega arith) e p refl at) in
      let b = shares_left n es (λ q small x p. none (suc q) (omega arith) x p) in omega arith

  pub all_whole : (doors : List (Door J)) (es fs : List (JobsEnd J)) → AreDealt doors es → AreEnds doors fs → IsConserved es fs → ((p q : ℕ) → p < length fs → q < length fs → IsSpentAt fs q (number_at es p)) → AreWhole fs
  all_whole doors es fs dealt ends c none i e at = let n = e.number in
      let once : (m : ℕ) → m < length doors → total_over (λ (x : JobsEnd J). if_same x.number m 1) fs ≡ 1 =
      (λ m few. by_number numbered (λ k. if_same k m 1) fs ∙ (ap (weigh (λ k. if_same k m 1)) c.numbers ∙ (sym (by_number numbered (λ k. if_same k m 1) es) ∙ (dealt m few).1))) in
      let spent_at : (q j : ℕ) (x : JobsEnd J) → q < length fs → slice_get fs j ≡ Some x → IsSpentAt fs q x.number =
      (λ q j x small here. subst (IsSpentAt fs q) (sym (same_place es fs j c) ∙ sym (number_here numbered fs j x here)) (none j q (within fs j x here) small)) in
      let few = (ends i e at).0.place in
      let a = shares_left n fs (λ q small. spent_at q i e small at) in
      let b = one_number numbered fs n (λ (x : JobsEnd J). (deque_view x.deque).shares) i e at refl (once n few) in (
        sym b ∙ (sym a ∙ (c.shares n ∙ (dealt n few).0)),
        stolen_none e.passes.items (λ k p here. let k_few : k < length doors = (let w = within e.passes.items k p here in let l = (ends i e at).1 in omega arith) in
            let o = some_has numbered fs k (let u = once k k_few in omega arith) in
            ap (λ (v : QueueView). v.taken) (subst (IsSpentAt fs i) o.3 (spent_at i o.0 o.1 (within fs i e at) o.2) e p at here)),
      )
