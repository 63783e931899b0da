-- Dealing passes, and putting hands together.
use Rattle.std.proofs.Common.{◌≡◌, ◌≢◌, ◌⊎◌, ℕ, zero, suc, ◌+◌, ◌-◌, ◌<◌, ◌≤◌, List, [], ◌∷◌, ◌++◌, length, length-append, set, remove, slice_get, Option, Some, Bool, true, false, ◌==◌, if◌then◌else◌, refl, ap, sym, ◌∙◌, subst, inl, inr, ⊎_elim, arith, true≢false}
use Rattle.std.proofs.lemmas.Bool.Decides.{nat_tests}
use Rattle.std.specs.declared.alloc.Global.{Global}
use Rattle.std.specs.declared.vec.Vec.{Vec}
use Rattle.rules_code.specs.declared.code.CodeBody.{CodeBody}
use Rattle.conc_hands.specs.declared.queues.view.QueueView.{QueueView}
use Rattle.conc_hands.specs.declared.queues.deque.Deque.{Deque}
use Rattle.conc_hands.specs.declared.queues.deque.Door.{Door}
use Rattle.conc_hands.specs.declared.queues.deque.DequePass.{DequePass}
use Rattle.conc_hands.specs.queues.QueueRule.{view_with, spent}
use Rattle.conc_hands.specs.queues.Deques.{deque_view, deque_id, door_id, room_of, pass_view, IsDequePass}
use Rattle.conc_hands.specs.declared.hand.JobsEnd.{JobsEnd}
use Rattle.conc_hands.specs.declared.hand.Hand.{Hand}
use Rattle.conc_hands.specs.declared.hands.Hands.{Hands}
use Rattle.conc_hands.specs.Hands.{HasInboxShares, IsHandOf, number_of}
use Rattle.conc_hands.specs.Ends.{IsClean, IsEndOf, IsDealt, share_if, share_at, stolen_by, end_taken, end_code}
use Rattle.conc_hands.specs.Dealing.{dealt_if, IsRow, IsRowOf, AreRows, AreDealt, IsDequeOf, AreDeques, IsFresh, AreFresh}
use Rattle.conc_hands.proofs.Places.{got_after, got_more, got_before, got_last, got_later, within}
use Rattle.conc_hands.proofs.Tickets.{stolen_none}

clean_if : (code : CodeBody) (v : QueueView) (b : Bool) → v ≡ dealt_if (Some code) b → IsClean (Some code) v × (v.shares ≡ share_if b) × (v.taken ≡ [])
clean_if code v true is = ((ap (λ (u : QueueView). u.put) is, (λ some_share. absurd (let n = ap (λ (u : QueueView). u.shares) is in omega arith)), (λ _. ap (λ (u : QueueView). u.taken) is)), ap (λ (u : QueueView). u.shares) is, ap (λ (u : QueueView). u.taken) is)
clean_if code v false is = ((ap (λ (u : QueueView). u.put) is, (λ _. ap (λ (u : QueueView). u.code) is), (λ _. ap (λ (u : QueueView). u.taken) is)), ap (λ (u : QueueView). u.shares) is, ap (λ (u : QueueView). u.taken) is)

-- the shares of the deque that deals, one step on
shares_on : (own at shares : ℕ) (b : Bool) → (at == own) ≡ b → own < 16 → at < 16 → (at ≤ own → shares + at ≡ 16) → (own < at → shares + at ≡ 17)
    → (at + 1 ≤ own → (shares - share_if b) + (at + 1) ≡ 16) × (own < at + 1 → (shares - share_if b) + (at + 1) ≡ 17)
shares_on own at shares true is few small before after = let same : at ≡ own = grind (arith, nat_tests, is) in
    let n = before (omega (arith, same)) in ((λ no. absurd (omega (arith, same))), λ _. omega arith)
shares_on own at shares false is few small before after = let apart : at ≢ own = (λ e. true≢false (sym (grind (arith, nat_tests, e)) ∙ is)) in
    ((λ more. let n = before (omega arith) in omega arith), λ less. let n = after (omega (arith, apart)) in omega arith)

pub shares_next : (own at shares : ℕ) → own < 16 → at < 16 → (at ≤ own → shares + at ≡ 16) → (own < at → shares + at ≡ 17)
    → (at + 1 ≤ own → (shares - share_if (at == own)) + (at + 1) ≡ 16) × (own < at + 1 → (shares - share_if (at == own)) + (at + 1) ≡ 17)
shares_next own at shares few small before after = shares_on own at shares (at == own) refl few small before after

inbox_case : (count number : ℕ) (b : Bool) → (number + 1 == count) ≡ b → number + 1 < count → 1 + (if b then count else 16) ≡ 17
inbox_case count number true is less = absurd (let same : number + 1 ≡ count = grind (arith, nat_tests, is) in omega arith)
inbox_case count number false is less = refl

last_case : (count number shares : ℕ) (b : Bool) → (number + 1 == count) ≡ b → number + 1 ≡ count → shares + number ≡ 16 → shares + (if b then count else 16) ≡ 17
last_case count number shares true is same n = omega arith
last_case count number shares false is same n = absurd (true≢false (sym (grind (arith, nat_tests, same)) ∙ is))

-- the shares of the inbox that a hand gets, and those that are left for the last one
pub inbox_one : (count number : ℕ) → number + 1 < count → HasInboxShares count number 1
inbox_one count number less = inbox_case count number (number + 1 == count) refl less

pub inbox_last : (count number shares : ℕ) → number + 1 ≡ count → shares + number ≡ 16 → HasInboxShares count number shares
inbox_last count number shares same n = last_case count number shares (number + 1 == count) refl same n

module _ {J : Type 0} where
  row_more : (doors : List (Door J)) (code : CodeBody) (q : ℕ) (ps : List (DequePass J)) (p : DequePass J)
      → IsRow doors code q ps
      → pass_view p ≡ dealt_if (Some code) (q == length ps) → ((d : Door J) → slice_get doors (length ps) ≡ Some d → IsDequePass (door_id d) p) → IsRow doors code q (ps ++ p ∷ [])
  row_more doors code q ps p r view id = record {
    views = λ k x e. ⊎_elim (λ t. subst (λ (y : ℕ × DequePass J). pass_view y.1 ≡ dealt_if (Some code) (q == y.0)) (λ i. (sym t.0 i, t.1 i)) view) (λ t. r.views k x t) (got_more ps p x k e);
    ids = λ k x e d at. ⊎_elim (λ t. subst (λ (y : DequePass J). IsDequePass (door_id d) y) t.1 (id d (subst (λ n. slice_get doors n ≡ Some d) t.0 at))) (λ t. r.ids k x t d at) (got_more ps p x k e);
  }

  row_wider : (doors : List (Door J)) (door : Door J) (code : CodeBody) (q : ℕ) (ps : List (DequePass J)) → length ps ≤ length doors → IsRow doors code q ps → IsRow (doors ++ door ∷ []) code q ps
  row_wider doors door code q ps few r = record {
    views = r.views;
    ids = λ k x e d at. r.ids k x e d (got_before doors (door ∷ []) k d at (let w = within ps k x e in omega arith));
  }

  pub rows_wider : (doors : List (Door J)) (door : Door J) (code : CodeBody) (rows : List (Vec (DequePass J) Global)) → AreRows doors code (length doors) 0 rows → AreRows (doors ++ door ∷ []) code (length doors) 0 rows
  rows_wider doors door code rows r = λ q row e. let t = r q row e in (t.0, row_wider doors door code (q + 0) row.items (let n = t.0 in omega arith) t.1)

  pub starts_dealt : (doors : List (Door J)) (code : CodeBody) (own : ℕ) (rows : List (Vec (DequePass J) Global)) → AreRows doors code own 0 rows → AreDealt doors code own 0 rows
  starts_dealt doors code own rows r = λ q row e. let t = r q row e in ((λ no. absurd (omega arith)), (λ _. t.0), subst (λ n. IsRow doors code n row.items) (omega arith) t.1)

  pub ends_dealt : (doors : List (Door J)) (code : CodeBody) (own at : ℕ) (rows : List (Vec (DequePass J) Global)) → length rows ≤ at → AreDealt doors code own at rows → AreRows doors code (own + 1) 0 rows
  ends_dealt doors code own at rows all r = λ q row e. let t = r q row e in (t.0 (let w = within rows q row e in omega arith), subst (λ n. IsRow doors code n row.items) (omega arith) t.2)

  pub deals_one : (doors : List (Door J)) (code : CodeBody) (own at : ℕ) (rows : List (Vec (DequePass J) Global)) (row more : Vec (DequePass J) Global) (p : DequePass J) → AreDealt doors code own at rows → slice_get rows at ≡ Some row → more.items ≡ row.items ++ p ∷ []
      → pass_view p ≡ dealt_if (Some code) (at == own) → ((d : Door J) → slice_get doors own ≡ Some d → IsDequePass (door_id d) p) → AreDealt doors code own (at + 1) (set rows at more)
  deals_one doors code own at rows row more p r here is view id = let old = r at row here in
      let n : length row.items ≡ own = old.1 (omega arith) in
      let grown : IsRow doors code at more.items = subst (λ ps. IsRow doors code at ps) (sym is)
      (row_more doors code at row.items p old.2 (subst (λ k. pass_view p ≡ dealt_if (Some code) (at == k)) (sym n) view) (λ d e. id d (subst (λ k. slice_get doors k ≡ Some d) n e))) in
      let size : length more.items ≡ own + 1 = ap length is ∙ (length-append row.items (p ∷ []) ∙ ap (λ k. k + 1) n) in
      λ q x e. ⊎_elim
      (λ t. ((λ _. ap (λ (y : Vec (DequePass J) Global). length y.items) (sym t.1) ∙ size), (λ no. absurd (let z = t.0 in omega arith)), subst (λ (y : ℕ × Vec (DequePass J) Global). IsRow doors code y.0 y.1.items) (λ i. (sym t.0 i, t.1 i)) grown))
      (λ t. let o = r q x t.1 in ((λ small. o.0 (omega (arith, t.0))), (λ big. o.1 (omega arith)), o.2))
      (got_after rows at q more x e)

  pub deques_wider : (doors : List (Door J)) (door : Door J) (code : CodeBody) (caps : ℕ) (ds : List (Deque J)) (d : Deque J) → length ds ≡ length doors → AreDeques doors code caps 0 ds
      → IsDequeOf (doors ++ door ∷ []) code caps (length doors) d → AreDeques (doors ++ door ∷ []) code caps 0 (ds ++ d ∷ [])
  deques_wider doors door code caps ds d same r new = λ q x e. ⊎_elim
      (λ t. subst (λ (y : ℕ × Deque J). IsDequeOf (doors ++ door ∷ []) code caps y.0 y.1) (λ i. ((let z : length doors ≡ q + 0 = omega (arith, t.0) in z) i, t.1 i)) new)
      (λ t. let o = r q x t in (o.0, o.1, λ y at. o.2 y (got_before doors (door ∷ []) (q + 0) y at (let w = within ds q x t in omega arith))))
      (got_more ds d x q e)

  -- what a hand has for jobs, put together
  pub end_made : (doors : List (Door J)) (code : CodeBody) (caps : ℕ) (e : JobsEnd J) → 0 < caps → caps ≤ 16 → e.number < caps → length doors ≡ caps → IsDequeOf doors code caps e.number e.deque → IsRowOf doors code caps e.number e.passes
      → IsEndOf doors e × IsDealt caps e × (end_code e ≡ Some code) × (end_taken e ≡ [])
  end_made doors code caps e some_cap few small count own row = let named : end_code e ≡ Some code = ap (λ (u : QueueView). u.code) own.0 in (
    record {
      place = subst (λ n. e.number < n) (sym count) small;
      own = own.2;
      few = subst (λ n. length e.passes.items ≤ n) (sym count) (let n = row.0 in omega arith);
      passes_of = row.1.ids;
      clean = λ k p at. subst (λ c. IsClean c (pass_view p)) (sym named) (clean_if code (pass_view p) (e.number == k) (row.1.views k p at)).0;
    },
    record {
      all = row.0;
      own_shares = (let n = ap (λ (u : QueueView). u.shares) own.0 in omega arith);
      pass_shares = λ k p at. (clean_if code (pass_view p) (e.number == k) (row.1.views k p at)).1;
    },
    named,
    ap (λ (xs : List ℕ). xs ++ stolen_by e.passes.items) (ap (λ (u : QueueView). u.taken) own.0) ∙ stolen_none e.passes.items (λ k p at. (clean_if code (pass_view p) (e.number == k) (row.1.views k p at)).2),
  )

  pub last_door : (doors items : List (Door J)) (door d : Door J) → items ≡ doors ++ door ∷ [] → slice_get items (length items - 1) ≡ Some d → door ≡ d
  last_door doors items door d is e = let n : length items - 1 ≡ length doors = (let a = ap length is ∙ length-append doors (door ∷ []) in omega arith) in
      let here : slice_get (doors ++ door ∷ []) (length doors) ≡ Some d = subst (λ (x : List (Door J) × ℕ). slice_get x.0 x.1 ≡ Some d) (λ i. (is i, n i)) e in
      let there : slice_get (doors ++ door ∷ []) (length doors) ≡ Some door = got_last doors door in
      cc (sym there ∙ here)

  pub deques_less : (doors : List (Door J)) (code : CodeBody) (caps first : ℕ) (ds : List (Deque J)) → AreDeques doors code caps first ds → AreDeques doors code caps (first + 1) (remove ds 0)
  deques_less doors code caps first ds r = λ q d e. subst (λ n. IsDequeOf doors code caps n d) (omega arith) (r (suc q) d (got_later ds q d e))

  pub rows_less : (doors : List (Door J)) (code : CodeBody) (count first : ℕ) (rows : List (Vec (DequePass J) Global)) → AreRows doors code count first rows → AreRows doors code count (first + 1) (remove rows 0)
  rows_less doors code count first rows r = λ q x e. subst (λ n. IsRowOf doors code count n x) (omega arith) (r (suc q) x (got_later rows q x e))

  pub first_deque : (doors : List (Door J)) (code : CodeBody) (caps first : ℕ) (ds : List (Deque J)) (d : Deque J) → AreDeques doors code caps first ds → slice_get ds 0 ≡ Some d → IsDequeOf doors code caps first d
  first_deque doors code caps first ds d r e = subst (λ n. IsDequeOf doors code caps n d) (omega arith) (r 0 d e)

  pub first_row : (doors : List (Door J)) (code : CodeBody) (count first : ℕ) (rows : List (Vec (DequePass J) Global)) (row : Vec (DequePass J) Global) → AreRows doors code count first rows → slice_get rows 0 ≡ Some row → IsRowOf doors code count first row
  first_row doors code count first rows row r e = subst (λ n. IsRowOf doors code count n row) (omega arith) (r 0 row e)

module _ {J S : Type 0} where
  pub fresh_more : (h : Hands J S) (xs : List (Hand J S)) (x : Hand J S) → AreFresh h xs → IsHandOf h x → number_of x ≡ length xs → IsFresh x → AreFresh h (xs ++ x ∷ [])
  fresh_more h xs x old is number fresh = λ k y e. ⊎_elim
      (λ t. subst (λ (z : Hand J S). IsHandOf h z × (number_of z ≡ k) × IsFresh z) t.1 (is, number ∙ sym t.0, fresh))
      (λ t. old k y t) (got_more xs x y k e)
