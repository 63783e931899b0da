-- A hand is of any object that is the same one.
use Rattle.std.proofs.Common.{◌≡◌, ℕ, zero, suc, List, [], ◌∷◌, map, length, slice_get, Some, refl, ◌∙◌, ap, subst, arith}
use Rattle.std.proofs.Props.{props}
use Rattle.crossbeam_queue.specs.SegTies.{IsSegPassOf}
use Rattle.conc_hands.specs.declared.queues.deque.Door.{Door}
use Rattle.conc_hands.specs.queues.Deques.{door_id, IsDequePass}
use Rattle.conc_hands.specs.declared.hand.Hand.{Hand}
use Rattle.conc_hands.specs.declared.hands.Hands.{Hands}
use Rattle.conc_hands.specs.Ends.{IsDealt}
use Rattle.conc_hands.specs.Hands.{IsHandOf, HasInboxShares, hands_count, number_of, inbox_view_of}
use Rattle.caps_visits.specs.Sets.{bodies_are_a_set}
use Rattle.caps_visits.specs.Objects.{ObjectId, object_of}

module _ {J : Type 0} where
  same_length : (ds es : List (Door J)) → map door_id ds ≡ map door_id es → length ds ≡ length es
  same_length [] [] same = refl
  same_length [] (e ∷ es) same = absurd (cc same)
  same_length (d ∷ ds) [] same = absurd (cc same)
  same_length (d ∷ ds) (e ∷ es) same = ap suc (same_length ds es (cc same))

  door_there : (ds es : List (Door J)) → map door_id ds ≡ map door_id es → (k : ℕ) (e : Door J) → slice_get es k ≡ Some e
      → (d : Door J) × (slice_get ds k ≡ Some d) × (door_id d ≡ door_id e)
  door_there ds [] same k e at = absurd (cc at)
  door_there [] (y ∷ es) same k e at = absurd (cc same)
  door_there (d ∷ ds) (y ∷ es) same zero e at = (d, refl, cc (same, at))
  door_there (d ∷ ds) (y ∷ es) same (suc k) e at = door_there ds es (cc same) k e at

module _ {J S : Type 0} (h k : Hands J S) (same : object_of h ≡ object_of k) (x : Hand J S) (own : IsHandOf h x) where
  doors_same : map door_id h.doors.items ≡ map door_id k.doors.items
  doors_same = ap (λ (o : ObjectId). o.deques) same

  count_same : hands_count h ≡ hands_count k
  count_same = ap (λ (o : ObjectId). o.count) same

  as_many : length h.doors.items ≡ length k.doors.items
  as_many = same_length h.doors.items k.doors.items doors_same

  pub hand_there : IsHandOf k x
  hand_there = record {
    doors = omega (arith, own.doors, count_same, as_many);
    end = record {
      place = omega (arith, own.end.place, as_many);
      own = λ e at. (let d = door_there h.doors.items k.doors.items doors_same x.jobs.number e at in own.end.own d.0 d.1 ∙ d.2);
      few = omega (arith, own.end.few, as_many);
      passes_of = λ i p at e there. (let d = door_there h.doors.items k.doors.items doors_same i e there in subst (λ id. IsDequePass id p) d.2 (own.end.passes_of i p at d.0 d.1));
      clean = own.end.clean;
    };
    dealt = subst (λ n. IsDealt n x.jobs) count_same own.dealt;
    jobs_code = own.jobs_code ∙ ap (λ (o : ObjectId). Some o.code) same;
    post = subst (λ q. IsSegPassOf q x.post.pass) (ap (λ (o : ObjectId). o.inbox) same) own.post;
    post_shares = subst (λ n. HasInboxShares n (number_of x) (inbox_view_of x).shares) count_same own.post_shares;
    slices_code = own.slices_code ∙ ap (λ (o : ObjectId). Some o.code) same;
    pen = (own.pen.0 ∙ ap (λ (o : ObjectId). o.flags) same, own.pen.1);
    one_share = own.one_share;
  }

pub hand_prop : {J S : Type 0} → IsSet J → IsSet S → (h : Hands J S) (x : Hand J S) → IsProp (IsHandOf h x)
hand_prop jobs slices h x = hlevel (props, bodies_are_a_set, jobs, slices)
