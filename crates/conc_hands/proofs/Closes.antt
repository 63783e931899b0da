-- All hands of an object, each number once.
use Rattle.std.proofs.Common.{◌≡◌, ◌≢◌, ℕ, zero, suc, ◌+◌, ◌-◌, ◌<◌, ◌≤◌, List, [], ◌∷◌, ◌++◌, length, map, slice_get, Some, Bool, true, false, true≢false, ◌==◌, if◌then◌else◌, refl, ap, sym, ◌∙◌, subst, arith}
use mathlib.Core.Logic.{dite}
use native.Mathlib.Decide.{ℕ_discrete}
use Rattle.std.proofs.lemmas.Bool.Decides.{nat_tests}
use Rattle.conc_hands.specs.declared.queues.deque.Door.{Door}
use Rattle.conc_hands.specs.declared.queues.deque.DequePass.{DequePass}
use Rattle.conc_hands.specs.queues.QueueRule.{weigh, SameTickets}
use Rattle.conc_hands.specs.queues.Deques.{deque_view, pass_view}
use Rattle.conc_hands.proofs.queues_lemmas.Weights.{weigh_append}
use Rattle.conc_hands.specs.declared.hand.JobsEnd.{JobsEnd}
use Rattle.conc_hands.specs.declared.hand.Hand.{Hand}
use Rattle.conc_hands.specs.declared.hands.Hands.{Hands}
use Rattle.conc_hands.specs.Ends.{IsEndOf, IsDealt, share_if, share_at}
use Rattle.conc_hands.specs.Hands.{HasInboxShares, IsHandOf, hands_count, number_of, inbox_view_of, pushed_by, taken_by}
use Rattle.conc_hands.specs.Lists.{all_pushed, all_taken}
use Rattle.conc_hands.specs.Left.{up_to, AreAllHands}
use Rattle.conc_hands.specs.Gathering.{if_same, total_over, share_of_pass, shares_of_deque, pushed_weight, taken_weight, numbers_of, AreEnds, AreDealt, HasRights, HaveRights, ends_in, shares_over}
use Rattle.conc_hands.proofs.Places.{mapped_at, length_mapped}
use Rattle.conc_hands.proofs.Totals.{if_same_one, if_same_other, by_number}

len_weigh : (xs : List ℕ) → weigh (λ _. 1) xs ≡ length xs
len_weigh [] = refl
len_weigh (x ∷ xs) = let r = len_weigh xs in omega arith

length_up_to : (n : ℕ) → weigh (λ _. 1) (up_to n) ≡ n
length_up_to zero = refl
length_up_to (suc n) = let r = length_up_to n in let a = weigh_append (λ _. 1) (up_to n) (n ∷ []) in omega arith

up_to_none : (a count n : ℕ) → count ≤ n → weigh (λ m. if_same m n a) (up_to count) ≡ 0
up_to_none a zero n few = refl
up_to_none a (suc c) n few = let r = up_to_none a c n (omega arith) in let s = weigh_append (λ m. if_same m n a) (up_to c) (c ∷ []) in
    let z = if_same_other c n a (λ e. absurd (omega arith)) in omega arith

up_to_one : (a count n : ℕ) → n < count → weigh (λ m. if_same m n a) (up_to count) ≡ a
up_to_one a zero n small = absurd (omega arith)
up_to_one a (suc c) n small = let s = weigh_append (λ m. if_same m n a) (up_to c) (c ∷ []) in dite (ℕ_discrete c n)
    (λ e. let none = up_to_none a c n (omega arith) in let one = ap (λ m. if_same m n a) e ∙ if_same_one n a in omega arith)
    (λ ne. let r = up_to_one a c n (omega (arith, ne)) in let z = if_same_other c n a ne in omega arith)

up_to_less : (a count n : ℕ) → count < n → weigh (λ m. if_same (suc m) n a) (up_to count) ≡ 0
up_to_less a zero n few = refl
up_to_less a (suc c) n few = let r = up_to_less a c n (omega arith) in let s = weigh_append (λ m. if_same (suc m) n a) (up_to c) (c ∷ []) in
    let z = if_same_other (suc c) n a (λ e. absurd (omega arith)) in omega arith

up_to_last : (a count : ℕ) → 0 < count → weigh (λ m. if_same (suc m) count a) (up_to count) ≡ a
up_to_last a zero some = absurd (omega arith)
up_to_last a (suc c) some = let s = weigh_append (λ m. if_same (suc m) (suc c) a) (up_to c) (c ∷ []) in let r = up_to_less a c (suc c) (omega arith) in let one = if_same_one (suc c) a in omega arith

-- the shares of the inbox that a hand has
post_case : (count number shares : ℕ) (b : Bool) → (number + 1 == count) ≡ b → count ≤ 16 → shares + (if b then count else 16) ≡ 17 → shares ≡ 1 + if_same (suc number) count (16 - count)
post_case count number shares true is few h = let same : suc number ≡ count = (let e : number + 1 ≡ count = grind (arith, nat_tests, is) in omega arith) in
    let one = ap (λ m. if_same m count (16 - count)) same ∙ if_same_one count (16 - count) in omega arith
post_case count number shares false is few h = let z = if_same_other (suc number) count (16 - count) (λ e. let same : number + 1 ≡ count = omega arith in true≢false (sym (grind (arith, nat_tests, same)) ∙ is)) in omega arith

post_shares : (count number shares : ℕ) → count ≤ 16 → HasInboxShares count number shares → shares ≡ 1 + if_same (suc number) count (16 - count)
post_shares count number shares few h = post_case count number shares (number + 1 == count) refl few h

share_plus : (number n : ℕ) (b : Bool) → (number == n) ≡ b → share_if b + if_same number n 1 ≡ 1
share_plus number n true is = let same : number ≡ n = grind (arith, nat_tests, is) in let one = ap (λ m. if_same m n 1) same ∙ if_same_one n 1 in omega arith
share_plus number n false is = let z = if_same_other number n 1 (λ e. true≢false (sym (grind (arith, nat_tests, e)) ∙ is)) in omega arith

module _ {J : Type 0} where
  share_there : (ps : List (DequePass J)) (n s : ℕ) → n < length ps → ((p : DequePass J) → slice_get ps n ≡ Some p → (pass_view p).shares ≡ s) → share_of_pass n ps ≡ s
  share_there [] n s small each = absurd (omega arith)
  share_there (p ∷ ps) zero s small each = each p refl
  share_there (p ∷ ps) (suc n) s small each = share_there ps n s (omega arith) each

  dealt_shares : (count n : ℕ) (e : JobsEnd J) → n < count → IsDealt count e → shares_of_deque n e + if_same e.number n 1 ≡ if_same e.number n (17 - count) + 1
  dealt_shares count n e small d =
      let own : (deque_view e.deque).shares ≡ 17 - count = (let s = d.own_shares in omega arith) in
      let a = ap (if_same e.number n) own in
      let b = share_there e.passes.items n (share_at e.number n) (let l = d.all in omega arith) (λ p at. d.pass_shares n p at) in
      let c = share_plus e.number n (e.number == n) refl in omega arith

  total_dealt : (count n : ℕ) (es : List (JobsEnd J)) → n < count → ((i : ℕ) (e : JobsEnd J) → slice_get es i ≡ Some e → IsDealt count e)
      → total_over (shares_of_deque n) es + total_over (λ (e : JobsEnd J). if_same e.number n 1) es ≡ total_over (λ (e : JobsEnd J). if_same e.number n (17 - count)) es + length es
  total_dealt count n [] small all = refl
  total_dealt count n (e ∷ es) small all = let a = dealt_shares count n e small (all 0 e refl) in let b = total_dealt count n es small (λ i x at. all (suc i) x at) in omega arith

module _ {J S : Type 0} where
  numbers_in : (xs : List (Hand J S)) → numbers_of (ends_in xs) ≡ map (λ (x : Hand J S). number_of x) xs
  numbers_in [] = refl
  numbers_in (x ∷ xs) = ap (λ ns. number_of x ∷ ns) (numbers_in xs)

  pub pushed_sum : (xs : List (Hand J S)) (h : ℕ → ℕ) → weigh h (all_pushed xs) ≡ total_over (pushed_weight h) (ends_in xs)
  pushed_sum [] h = refl
  pushed_sum (x ∷ xs) h = let a = weigh_append h (pushed_by x) (all_pushed xs) in let r = pushed_sum xs h in omega arith

  pub taken_sum : (xs : List (Hand J S)) (h : ℕ → ℕ) → weigh h (all_taken xs) ≡ total_over (taken_weight h) (ends_in xs)
  taken_sum [] h = refl
  taken_sum (x ∷ xs) h = let a = weigh_append h (taken_by x) (all_taken xs) in let r = taken_sum xs h in omega arith

  posts : (count : ℕ) (xs : List (Hand J S)) → count ≤ 16 → ((i : ℕ) (x : Hand J S) → slice_get xs i ≡ Some x → HasInboxShares count (number_of x) (inbox_view_of x).shares)
      → shares_over xs ≡ length xs + weigh (λ m. if_same (suc m) count (16 - count)) (map (λ (x : Hand J S). number_of x) xs)
  posts count [] few all = refl
  posts count (x ∷ xs) few all = let a = post_shares count (number_of x) (inbox_view_of x).shares few (all 0 x refl) in let r = posts count xs few (λ i y at. all (suc i) y at) in omega arith

  one_there : (xs : List (Hand J S)) → 0 < length xs → (x : Hand J S) × (slice_get xs 0 ≡ Some x)
  one_there [] some = absurd (omega arith)
  one_there (x ∷ xs) some = (x, refl)

  module _ (h : Hands J S) (xs : List (Hand J S)) (all : AreAllHands h xs) where
    pub all_counted : length xs ≡ hands_count h
    all_counted = let a = all.once (λ _. 1) in let b = len_weigh (map (λ (x : Hand J S). number_of x) xs) in let c = length_up_to (hands_count h) in let d = length_mapped (λ (x : Hand J S). number_of x) xs in omega arith

    first_hand : (x : Hand J S) × (slice_get xs 0 ≡ Some x)
    first_hand = one_there xs (let a = all_counted in let b = h.flags.some_hand in omega arith)

    few : hands_count h ≤ 16
    few = let x = first_hand.0 in let o = all.of_object 0 x first_hand.1 in let a = o.dealt.own_shares in let b = x.jobs.deque.shared in omega arith

    pub door_count : length h.doors.items ≡ hands_count h
    door_count = (all.of_object 0 first_hand.0 first_hand.1).doors

    pub all_rights : HaveRights h.inbox h.flags xs
    all_rights = λ i x at. let o = all.of_object i x at in ((o.post, (let s = post_shares (hands_count h) (number_of x) (inbox_view_of x).shares few o.post_shares in omega arith)), (o.pen, o.one_share))

    pub all_posts : shares_over xs ≡ 16
    all_posts = let small = few in
        let a = posts (hands_count h) xs few (λ i x at. (all.of_object i x at).post_shares) in
        let b = all.once (λ m. if_same (suc m) (hands_count h) (16 - hands_count h)) in
        let c = up_to_last (16 - hands_count h) (hands_count h) h.flags.some_hand in
        let d = all_counted in omega arith

    pub all_ends : AreEnds h.doors.items (ends_in xs)
    all_ends = λ i e at. let m = mapped_at (λ (x : Hand J S). x.jobs) xs i e at in let o = all.of_object i m.0 m.1 in
        subst (λ (y : JobsEnd J). IsEndOf h.doors.items y × (length y.passes.items ≡ length h.doors.items)) m.2 (o.end, o.dealt.all ∙ sym o.doors)

    each_dealt : (i : ℕ) (e : JobsEnd J) → slice_get (ends_in xs) i ≡ Some e → IsDealt (hands_count h) e
    each_dealt i e at = let m = mapped_at (λ (x : Hand J S). x.jobs) xs i e at in subst (IsDealt (hands_count h)) m.2 (all.of_object i m.0 m.1).dealt

    with_number : (a n : ℕ) → n < hands_count h → total_over (λ (e : JobsEnd J). if_same e.number n a) (ends_in xs) ≡ a
    with_number a n small = by_number (λ (e : JobsEnd J). e.number) (λ m. if_same m n a) (ends_in xs) ∙ (ap (weigh (λ m. if_same m n a)) (numbers_in xs) ∙ (all.once (λ m. if_same m n a) ∙ up_to_one a (hands_count h) n small))

    pub all_dealt : AreDealt h.doors.items (ends_in xs)
    all_dealt = λ n small. let below : n < hands_count h = (let d = door_count in omega arith) in
        let a = total_dealt (hands_count h) n (ends_in xs) below each_dealt in
        let b = with_number 1 n below in
        let c = with_number (17 - hands_count h) n below in
        let d = length_mapped (λ (x : Hand J S). x.jobs) xs in let l = all_counted in let f = few in
        (omega arith, b)
