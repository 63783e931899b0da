-- What tickets know of the jobs that a history overtook, as entries are looked at and as tickets come and go.
use Rattle.std.specs.Prelude.{◌≢◌, IsTrue, IfSome, IfNone, Contains, take, drop, slice_get}
use Rattle.std.proofs.Common.{◌≡◌, ◌+◌, ◌<◌, ◌≤◌, ◌⊎◌, inl, inr, ◌↔◌, ℕ, zero, suc, true, false, List, [], ◌∷◌, ◌++◌, Option, Some, None, IsSome, length, arith, add-one, refl, sym, ap, ◌∙◌, subst, length-append}
use Rattle.std.proofs.Math.Logic.{∥∥₁_elim, ∥∥₁_map}
use Rattle.std.proofs.lemmas.Bool.{both_ways, cases_eq}
use Rattle.std.proofs.lemmas.List.{drop-append-le, length-take-le, take-append-le}
use Rattle.std.proofs.lemmas.List.Elements.{Contains-append_left, Contains-append_right, Contains-append_cases, Contains-push, Contains-push_cases}
use Rattle.std.proofs.Math.Seq.{take-length}
use Rattle.std.proofs.Math.ListN.{drop_of_length-le}
use Rattle.hs_rules.specs.declared.entry.Entry.{Entry}
use Rattle.hs_rules.specs.declared.entry.Entry.TheVariants as entry
use Rattle.conc_world.specs.declared.tickets.tickets.Out.{Out}
use Rattle.conc_world.specs.declared.tickets.tickets.Tickets.{Tickets}
use Rattle.conc_world.specs.tickets.Out.{job, ticket_of, is_overtaken, IsIdle, Same, TakesBack}
use Rattle.conc_world.specs.Jobs.{Added, IsOvertaken, Knows, Received, SameJobs, TakenBack}

none_some : {A : Type 0} (o : Option A) (x : A) → o ≡ None → o ≡ Some x → ⊥
none_some o x none some = let z : None ≡ Some x = sym none ∙ some in cc z

-- ---- one entry more
-- the entry at a number, and those up to it
next_entry : (es : List Entry) (n : ℕ) → n < length es → (x : Entry) × (slice_get es n ≡ Some x) × (take (suc n) es ≡ take n es ++ x ∷ [])
next_entry [] n lt = absurd (omega arith)
next_entry (e ∷ es) zero lt = (e, refl, refl)
next_entry (e ∷ es) (suc n) lt = let r = next_entry es n (omega arith) in (r.0, r.1, ap (λ z. e ∷ z) r.2)

received_more : (t : ℕ) (es : List Entry) (x : Entry) → Received t (es ++ x ∷ []) ↔ (Received t es ⊎ (x ≡ entry.Receive t))
received_more t es x = (
  Contains-push_cases es x (entry.Receive t),
  (λ h. elim h [ inl r ↦ Contains-append_left es (x ∷ []) (entry.Receive t) r | inr e ↦ subst (λ (y : Entry). Contains (es ++ x ∷ []) y) e (Contains-push es x) ]),
)

-- what is known of the first entries, with one more
pub knows_next : (old new : Tickets) (n : ℕ) (es : List Entry) (found : Option Entry) → found ≡ slice_get es n → n < length es
    → ((k : ℕ) → job new k ≡ job old k)
    → ((k : ℕ) (o : Out) → job old k ≡ Some o → IsTrue (is_overtaken new k) ↔ (IsTrue (is_overtaken old k) ⊎ (found ≡ Some (entry.Receive o.thread))))
    → Knows old n es → Knows new (n + 1) es
knows_next old new n es found is lt same marks known =
    let next = next_entry es n lt in
    let x : Entry = next.0 in
    let here : found ≡ Some x = is ∙ next.1 in
    let within = known.within in
    let long : length (take n es) ≡ n = length-take-le n es within in
    record {
      within = omega (arith, lt);
      made = λ k o out. let le = known.made k o (sym (same k) ∙ out) in omega (arith, le);
      marked = λ k o out.
          let was = sym (same k) ∙ out in
          let le = known.made k o was in
          let cut : drop o.since (take (n + 1) es) ≡ drop o.since (take n es) ++ x ∷ [] =
          ap (λ m. drop o.since (take m es)) (add-one n) ∙ ap (drop o.since) next.2 ∙ drop-append-le o.since (take n es) (x ∷ []) (omega (arith, le, long)) in
          let more = received_more o.thread (drop o.since (take n es)) x in
          let m = marks k o was in
          let q = known.marked k o was in
          subst (λ zs. IsTrue (is_overtaken new k) ↔ Received o.thread zs) (sym cut) (
            (λ h. more.1 (elim (m.0 h) [ inl b ↦ inl (q.0 b) | inr e ↦ inr (let z : Some x ≡ Some (entry.Receive o.thread) = sym here ∙ e in cc z) ])),
            (λ h. m.1 (elim (more.0 h) [ inl r ↦ inl (q.1 r) | inr e ↦ inr (here ∙ ap (λ (y : Entry). Some y) e) ])),
          );
    }

-- ---- fewer tickets
-- what is out was out, and is marked where it was
abbrev pub Fewer : Tickets → Tickets → Type 0
Fewer old new = (k : ℕ) (o : Out) → job new k ≡ Some o → (job old k ≡ Some o) × (is_overtaken new k ≡ is_overtaken old k)

pub fewer_same : (old new : Tickets) → Same old new → Fewer old new
fewer_same old new h k o out = (sym (h.job k) ∙ out, h.overtaken k)

pub fewer_back : (old new : Tickets) (ticket : ℕ) → TakesBack old new ticket → Fewer old new
fewer_back old new ticket h k o out = elim (cases_eq k ticket) [
  | inl e ↦ absurd (none_some (job new k) o (ap (job new) e ∙ h.out) out)
  | inr ne ↦ (sym (h.others k ne) ∙ out, h.marks k ne)
]

pub fewer_idle : (old new : Tickets) → IsIdle new → Fewer old new
fewer_idle old new h k o out = absurd (none_some (job new k) o (h.job k) out)

pub fewer_next : (old new : Tickets) (result : Option ℕ) → IfSome result (TakesBack old new) → IfNone result (Same old new) → Fewer old new
fewer_next old new None back same = fewer_same old new same
fewer_next old new (Some k) back same = fewer_back old new k back

pub few_fewer : (old new : Tickets) (given : ℕ) → Fewer old new → ((k : ℕ) (o : Out) → job old k ≡ Some o → k ≤ given) → (k : ℕ) (o : Out) → job new k ≡ Some o → k ≤ given
few_fewer old new given fewer few k o out = few k o (fewer k o out).0

pub knows_fewer : (old new : Tickets) (seen : ℕ) (es : List Entry) → Fewer old new → ∥ Knows old seen es ∥₁ → ∥ Knows new seen es ∥₁
knows_fewer old new seen es fewer known = ∥∥₁_map known (λ k. record {
  within = k.within;
  made = λ t o out. k.made t o (fewer t o out).0;
  marked = λ t o out.
      let f = fewer t o out in
      subst (λ b. IsTrue b ↔ Received o.thread (drop o.since (take seen es))) (sym f.1) (k.marked t o f.0);
})

-- ---- one ticket more
abbrev pub Others : ℕ → Tickets → Tickets → Type 0
Others ticket old new = (k : ℕ) → k ≢ ticket → job new k ≡ job old k

pub few_added : (old new : Tickets) (ticket given : ℕ) → Others ticket old new → given ≤ ticket → ((k : ℕ) (o : Out) → job old k ≡ Some o → k ≤ given) → (k : ℕ) (o : Out) → job new k ≡ Some o → k ≤ ticket
few_added old new ticket given others le few k o out = elim (cases_eq k ticket) [
  | inl e ↦ omega (arith, e)
  | inr ne ↦ let f = few k o (sym (others k ne) ∙ out) in omega (arith, f, le)
]

-- among no entries nobody received anything
received_none : (t : ℕ) (es : List Entry) → es ≡ [] → Received t es → ⊥
received_none t es e h = let lt = h.1 in let none = ap length e in omega (arith, lt, none)

knows_one_more : (old new : Tickets) (ticket thread seen : ℕ) (es : List Entry) → Others ticket old new → job new ticket ≡ Some (record { thread = thread; since = seen }) → is_overtaken new ticket ≡ false → ((k : ℕ) → is_overtaken new k ≡ is_overtaken old k) → Knows old seen es → Knows new seen es
knows_one_more old new ticket thread seen es others here fresh marks known =
    record {
      within = known.within;
      made = λ k o out. elim (cases_eq k ticket) [
        | inl e ↦ let at = since k o out e in omega (arith, at)
        | inr ne ↦ known.made k o (sym (others k ne) ∙ out)
      ];
      marked = λ k o out. elim (cases_eq k ticket) [
        | inl e ↦ (
          (λ h. absurd (both_ways (is_overtaken new k) (ap (is_overtaken new) e ∙ fresh) h)),
          (λ h. absurd (received_none o.thread (drop o.since (take seen es)) (none k o out e) h)),
        )
        | inr ne ↦ subst (λ b. IsTrue b ↔ Received o.thread (drop o.since (take seen es))) (sym (marks k)) (known.marked k o (sym (others k ne) ∙ out))
      ];
    }
  where
    since : (k : ℕ) (o : Out) → job new k ≡ Some o → k ≡ ticket → o.since ≡ seen
    since k o out e = let z : Some o ≡ Some (record { thread = thread; since = seen }) = sym out ∙ ap (job new) e ∙ here in let y : o ≡ record { thread = thread; since = seen } = cc z in ap (λ (w : Out). w.since) y

    none : (k : ℕ) (o : Out) → job new k ≡ Some o → k ≡ ticket → drop o.since (take seen es) ≡ []
    none k o out e =
        let at = since k o out e in
        let long : length (take seen es) ≡ seen = length-take-le seen es known.within in
        drop_of_length-le (take seen es) (omega (arith, at, long))

pub knows_added : (old new : Tickets) (ticket thread seen : ℕ) (es : List Entry) → Others ticket old new → job new ticket ≡ Some (record { thread = thread; since = seen }) → is_overtaken new ticket ≡ false → ((k : ℕ) → is_overtaken new k ≡ is_overtaken old k) → ∥ Knows old seen es ∥₁ → ∥ Knows new seen es ∥₁
knows_added old new ticket thread seen es others here fresh marks known = ∥∥₁_map known (knows_one_more old new ticket thread seen es others here fresh marks)

-- a ticket above all that are out is new
pub fresh_ticket : (s : Tickets) (ticket given : ℕ) → ticket ≡ given + 1 → ((k : ℕ) (o : Out) → job s k ≡ Some o → k ≤ given) → (found : Option Out) → job s ticket ≡ found → found ≡ None
fresh_ticket s ticket given next few None e = refl
fresh_ticket s ticket given next few (Some o) e = let le = few ticket o e in absurd (omega (arith, le, next))

-- ---- a history that goes on
pub knows_more : (s : Tickets) (seen : ℕ) (es more : List Entry) → Knows s seen es → Knows s seen (es ++ more)
knows_more s seen es more k =
    let within = k.within in
    let long = length-append es more in
    record {
      within = omega (arith, within, long);
      made = k.made;
      marked = λ t o out. subst (λ zs. IsTrue (is_overtaken s t) ↔ Received o.thread (drop o.since zs)) (sym (take-append-le seen es more within)) (k.marked t o out);
    }

pub knows_as : (s : Tickets) (seen : ℕ) (es fs : List Entry) → fs ≡ es → ∥ Knows s seen es ∥₁ → ∥ Knows s seen fs ∥₁
knows_as s seen es fs same known = subst (λ zs. ∥ Knows s seen zs ∥₁) (sym same) known

-- ---- which jobs are overtaken
-- whether an exception was received can be seen
is_receive : (t : ℕ) (e : Entry) → (e ≡ entry.Receive t) ⊎ (e ≡ entry.Receive t → ⊥)
is_receive t (entry.Local u k) = inr (λ e. cc e)
is_receive t (entry.Op u) = inr (λ e. cc e)
is_receive t (entry.Receive u) = elim (cases_eq u t) [ inl e ↦ inl (ap entry.Receive e) | inr ne ↦ inr (λ e. ne (cc e)) ]
is_receive t (entry.Wake u) = inr (λ e. cc e)
is_receive t (entry.Finish u) = inr (λ e. cc e)
is_receive t (entry.Tick at) = inr (λ e. cc e)
is_receive t entry.Stranded = inr (λ e. cc e)

received_or_not : (t : ℕ) (es : List Entry) → Received t es ⊎ (Received t es → ⊥)
received_or_not t [] = inr (received_none t [] refl)
received_or_not t (x ∷ es) = elim (is_receive t x) [
  | inl e ↦ inl (Contains-cons_head t x es e)
  | inr ne ↦ elim (received_or_not t es) [ inl r ↦ inl (Contains-append_right (x ∷ []) es (entry.Receive t) r) | inr never ↦ inr (λ h. elim (Contains-append_cases (x ∷ []) es (entry.Receive t) h) [ inl one ↦ ne (only t x one) | inr r ↦ never r ]) ]
]
  where
    Contains-cons_head : (t : ℕ) (x : Entry) (es : List Entry) → x ≡ entry.Receive t → Received t (x ∷ es)
    Contains-cons_head t x es e = Contains-append_left (x ∷ []) es (entry.Receive t) (subst (λ (y : Entry). Contains (x ∷ []) y) e (Contains-push [] x))

    only : (t : ℕ) (x : Entry) → Received t (x ∷ []) → x ≡ entry.Receive t
    only t x one = elim (Contains-push_cases [] x (entry.Receive t) one) [ inl h ↦ absurd (received_none t [] refl h) | inr e ↦ e ]

shown : (t : ℕ) (es : List Entry) → ∥ Received t es ∥₁ → Received t es
shown t es h = elim (received_or_not t es) [ inl r ↦ r | inr never ↦ absurd (∥∥₁_elim h (λ x y. absurd x) never) ]

some_of : {A : Type 0} (o : Option A) → IsSome o → (x : A) × (o ≡ Some x)
some_of None s = absurd (cc s)
some_of (Some x) s = (x, refl)

-- after all entries were looked at
module _ (s : Tickets) (seen : ℕ) (es : List Entry) (all : seen ≡ length es) (known : ∥ Knows s seen es ∥₁) where
  whole : take seen es ≡ es
  whole = ap (λ n. take n es) all ∙ take-length es

  pub overtaken_is : (k : ℕ) → is_overtaken s k ≡ true → IsOvertaken k s es
  overtaken_is k marked =
      let made = some_of (job s k) (s.out k marked) in
      let o : Out = made.0 in
      record {
        made = o;
        out = made.1;
        received = shown o.thread (drop o.since es) (∥∥₁_map known (λ q. subst (λ zs. Received o.thread (drop o.since zs)) whole ((q.marked k o made.1).0 marked)));
      }

  pub not_overtaken : (k : ℕ) → is_overtaken s k ≡ false → IsOvertaken k s es → ⊥
  not_overtaken k free h =
      ∥∥₁_elim known (λ x y. absurd x) (λ q.
      both_ways (is_overtaken s k) free ((q.marked k h.made h.out).1 (subst (λ zs. Received h.made.thread (drop h.made.since zs)) (sym whole) h.received)))

-- the same where other tickets have the same jobs
pub overtaken_as : (s q : Tickets) (es fs : List Entry) (k : ℕ) → ((j : ℕ) → job s j ≡ job q j) → es ≡ fs → IsOvertaken k s es → IsOvertaken k q fs
overtaken_as s q es fs k same is h = record { made = h.made; out = sym (same k) ∙ h.out; received = subst (λ zs. Received h.made.thread (drop h.made.since zs)) is h.received }

-- ---- the least that is overtaken, after all entries were looked at
module _ (old mid new : Tickets) (seen : ℕ) (es fs : List Entry) (all : seen ≡ length es) (known : ∥ Knows mid seen es ∥₁) (same : (j : ℕ) → job mid j ≡ job old j) (is : es ≡ fs) where
  others_free : (j : ℕ) → is_overtaken mid j ≡ false → IsOvertaken j old fs → ⊥
  others_free j free h = not_overtaken mid seen es all known j free (overtaken_as old mid fs es j (λ i. sym (same i)) (sym is) h)

  pub least_overtaken : (result : Option ℕ) → IfSome result (λ k. is_overtaken mid k ≡ true) → IfSome result (λ k. (q : ℕ) → q < k → is_overtaken mid q ≡ false) → IfSome result (TakesBack mid new)
      → IfSome result (λ k. IsOvertaken k old fs × ((j : ℕ) → j < k → IsOvertaken j old fs → ⊥) × TakenBack k old new)
  least_overtaken None marked least back = tt
  least_overtaken (Some k) marked least back = (
    overtaken_as mid old es fs k same is (overtaken_is mid seen es all known k marked),
    (λ j lt h. others_free j (least j lt) h),
    record { out = back.out; others = λ j ne. back.others j ne ∙ same j },
  )

  pub none_overtaken : (result : Option ℕ) → IfNone result ((k : ℕ) → is_overtaken mid k ≡ false) → IfNone result (Same mid new)
      → IfNone result (((j : ℕ) → IsOvertaken j old fs → ⊥) × SameJobs old new)
  none_overtaken None free kept = ((λ j h. others_free j (free j) h), (λ j. kept.job j ∙ same j))
  none_overtaken (Some k) free kept = tt

-- ---- a ticket that was given after all entries were looked at
pub added_after : (old mid new : Tickets) (ticket thread since now : ℕ) → since ≡ now → ((j : ℕ) → job mid j ≡ job old j) → ((t : ℕ) → ticket_of mid t ≡ ticket_of old t) → Added ticket thread since mid new → Added ticket thread now old new
added_after old mid new ticket thread since now e jobs threads h = subst (λ n. Added ticket thread n old new) e (record {
  fresh = sym (jobs ticket) ∙ h.fresh;
  free = sym (threads thread) ∙ h.free;
  out = h.out;
  others = λ j ne. h.others j ne ∙ jobs j;
})
