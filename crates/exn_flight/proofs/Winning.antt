-- The node over all has the first of all places.
use Rattle.std.proofs.Common.{◌≡◌, ◌≢◌, ◌⊎◌, ℕ, zero, suc, ◌<◌, ◌≤◌, ◌+◌, ◌-◌, ◌/◌, true, false, cond, List, [], ◌∷◌, length, drop, Option, Some, None, refl, ap, sym, subst, ◌∙◌, arith, set, inl, inr}
use Rattle.std.proofs.lemmas.Bool.{cases_eq, cases_lt}
use Rattle.std.proofs.lemmas.List.{get_or-set_same, get_or-set_other, get_or-drop, drop-set-lt, drop-set-add, length-set, length-drop}
use Rattle.rules_waiting.specs.Waiting.{Sleeper, sleeper_before}
use Rattle.exn_flight.specs.Tournaments.{node, goes_first, first_of, best, IsWon, AreWon, IsTournament, Climbs}
use Rattle.exn_flight.proofs.Before.{other_way, none_later, same_due, same_thread}

-- ---- an order of sleepers and of nobody, who is last
abbrev pub Leads : Option Sleeper → Option Sleeper → Type 0
Leads a None = Unit {0}
Leads None (Some s) = ⊥
Leads (Some r) (Some s) = sleeper_before s r ≡ false

not_before : (s : Sleeper) → sleeper_before s s ≡ false
not_before s = grind arith

leads_self : (a : Option Sleeper) → Leads a a
leads_self None = tt
leads_self (Some s) = not_before s

leads_on : (a b c : Option Sleeper) → Leads a b → Leads b c → Leads a c
leads_on a b None p q = tt
leads_on a None (Some s) p q = absurd q
leads_on None (Some r) (Some s) p q = absurd p
leads_on (Some t) (Some r) (Some s) p q = none_later t r s p q

both_lead : (a b : Option Sleeper) → Leads a b → Leads b a → a ≡ b
both_lead None None p q = refl
both_lead None (Some s) p q = absurd p
both_lead (Some r) None p q = absurd q
both_lead (Some r) (Some s) p q =
    ap (λ n. Some (record { thread = n; due = r.due })) (same_thread r s q p) ∙ ap (λ n. Some (record { thread = s.thread; due = n })) (same_due r s q p)

first_leads : (a b : Option Sleeper) → Leads (first_of a b) a × Leads (first_of a b) b
first_leads None b = (tt, leads_self b)
first_leads (Some s) None = (not_before s, tt)
first_leads (Some s) (Some r) =
    elim (sleeper_before s r) as (λ b. sleeper_before s r ≡ b → Leads (cond b (Some s) (Some r)) (Some s) × Leads (cond b (Some s) (Some r)) (Some r)) [
      | true ↦ λ e. (not_before s, other_way s r e)
      | false ↦ λ e. (e, not_before r)
    ] refl

first_is : (a b : Option Sleeper) → (first_of a b ≡ a) ⊎ (first_of a b ≡ b)
first_is a b = elim (goes_first a b) as (λ t. (cond t a b ≡ a) ⊎ (cond t a b ≡ b)) [ true ↦ inl refl | false ↦ inr refl ]

-- ---- the first of a list leads all, and is one of them
best_leads : (os : List (Option Sleeper)) (k : ℕ) → Leads (best os) (node os k)
best_leads [] k = tt
best_leads (o ∷ os) zero = (first_leads (best os) o).1
best_leads (o ∷ os) (suc k) = leads_on (best (o ∷ os)) (best os) (node os k) (first_leads (best os) o).0 (best_leads os k)

best_is : (os : List (Option Sleeper)) → (best os ≡ None) ⊎ ((k : ℕ) × (k < length os) × (best os ≡ node os k))
best_is [] = inl refl
best_is (o ∷ os) = elim (first_is (best os) o) [
  | inl e ↦ elim (best_is os) [
    | inl n ↦ inl (e ∙ n)
    | inr w ↦ inr (suc w.0, omega (arith, w.1), e ∙ w.2)
  ]
  | inr e ↦ inr (0, omega arith, e)
]

-- ---- the node over all leads each, and is one of the places
half : (i : ℕ) → 2 ≤ i → (p : ℕ) × (1 ≤ p) × (p < i) × ((i ≡ p + p) ⊎ (i ≡ p + p + 1))
half i le = (i / 2, omega (arith, le), omega (arith, le), elim (cases_eq i (i / 2 + i / 2)) [ inl e ↦ inl e | inr ne ↦ inr (omega (arith, le, ne)) ])

above : (ns : List (Option Sleeper)) (p i : ℕ) → IsWon ns p → (i ≡ p + p) ⊎ (i ≡ p + p + 1) → Leads (node ns p) (node ns i)
above ns p i w (inl e) = subst (λ x. Leads x (node ns i)) (sym w) (subst (λ j. Leads (first_of (node ns (p + p)) (node ns (p + p + 1))) (node ns j)) (sym e) (first_leads (node ns (p + p)) (node ns (p + p + 1))).0)
above ns p i w (inr e) = subst (λ x. Leads x (node ns i)) (sym w) (subst (λ j. Leads (first_of (node ns (p + p)) (node ns (p + p + 1))) (node ns j)) (sym e) (first_leads (node ns (p + p)) (node ns (p + p + 1))).1)

double_low : (p i n : ℕ) → (i ≡ p + p) ⊎ (i ≡ p + p + 1) → i < n + n → p < n
double_low p i n (inl e) lt = omega (arith, e, lt)
double_low p i n (inr e) lt = omega (arith, e, lt)

root_leads : (ns : List (Option Sleeper)) (n steps i : ℕ) → AreWon n ns → i ≤ steps → 1 ≤ i → i < n + n → Leads (node ns 1) (node ns i)
root_leads ns n zero i w le low lt = let no : ⊥ = omega (arith, le, low) in absurd no
root_leads ns n (suc steps) i w le low lt =
    elim (cases_lt 1 i) [
      | inl more ↦ (let h = half i (omega (arith, more)) in
          let p = h.0 in
          let under : p < n = double_low p i n h.3 lt in
          leads_on (node ns 1) (node ns p) (node ns i) (root_leads ns n steps p w (omega (arith, le, h.2)) h.1 (omega (arith, under))) (above ns p i (w p h.1 under) h.3))
      | inr few ↦ (let one : 1 ≡ i = omega (arith, few, low) in subst (λ j. Leads (node ns 1) (node ns j)) one (leads_self (node ns 1)))
    ]

won_is : (ns : List (Option Sleeper)) (n steps i : ℕ) → AreWon n ns → n + n ≤ i + steps → 1 ≤ i → i < n + n → (k : ℕ) × (k < n) × (node ns i ≡ node ns (n + k))
won_is ns n zero i w le low lt = let no : ⊥ = omega (arith, le, lt) in absurd no
won_is ns n (suc steps) i w le low lt =
    elim (cases_lt i n) [
      | inl under ↦ elim (first_is (node ns (i + i)) (node ns (i + i + 1))) [
        | inl e ↦ (let r = won_is ns n steps (i + i) w (omega (arith, le, low)) (omega (arith, low)) (omega (arith, under)) in
            (r.0, r.1, w i low under ∙ e ∙ r.2))
        | inr e ↦ (let r = won_is ns n steps (i + i + 1) w (omega (arith, le, low)) (omega (arith, low)) (omega (arith, under)) in
            (r.0, r.1, w i low under ∙ e ∙ r.2))
      ]
      | inr over ↦ (i - n, omega (arith, over, lt), ap (node ns) (omega (arith, over)))
    ]

pub root_is_best : (ns : List (Option Sleeper)) (n : ℕ) → IsTournament n ns → 1 ≤ n → node ns 1 ≡ best (drop n ns)
root_is_best ns n h some =
    let place : (k : ℕ) → node (drop n ns) k ≡ node ns (n + k) = λ k. get_or-drop n ns k None in
    let one = won_is ns n (n + n) 1 h.won (omega arith) (omega arith) (omega (arith, some)) in
    both_lead (node ns 1) (best (drop n ns))
    (elim (best_is (drop n ns)) [
      | inl e ↦ subst (Leads (node ns 1)) (sym e) tt
      | inr w ↦ (let size : w.0 < n = omega (arith, w.1, length-drop n ns, h.size) in
          subst (Leads (node ns 1)) (sym (w.2 ∙ place w.0)) (root_leads ns n (n + w.0) (n + w.0) h.won (omega arith) (omega (arith, some)) (omega (arith, size))))
    ])
    (subst (Leads (best (drop n ns))) (place one.0 ∙ sym one.2) (best_leads (drop n ns) one.0))

-- ---- a climb
pub climbs_more : (n : ℕ) (was ns : List (Option Sleeper)) (at up : ℕ) (o : Option Sleeper) → Climbs n was ns at → 1 < at → up ≡ at / 2 → o ≡ first_of (node ns (up + up)) (node ns (up + up + 1)) → Climbs n was (set ns up o) up
climbs_more n was ns at up o h more half e =
    let low : 1 ≤ up = omega (arith, half, more) in
    let under : up < n = omega (arith, half, h.within) in
    let here : node (set ns up o) up ≡ o = get_or-set_same ns up o None (omega (arith, under, h.size)) in
    let there : (k : ℕ) → k ≢ up → node (set ns up o) k ≡ node ns k = λ k ne. get_or-set_other ns up k o None ne in
    let two : (i : ℕ) → i + i ≢ up → i + i + 1 ≢ up → first_of (node ns (i + i)) (node ns (i + i + 1)) ≡ first_of (node (set ns up o) (i + i)) (node (set ns up o) (i + i + 1))
    = λ i p q. ap (λ x. first_of x (node ns (i + i + 1))) (sym (there (i + i) p)) ∙ ap (first_of (node (set ns up o) (i + i))) (sym (there (i + i + 1) q)) in
    record {
      size = length-set ns up o ∙ h.size;
      within = omega (arith, under);
      won = λ i one lt p q. elim (cases_eq i up) [
        | inl s ↦ ap (node (set ns up o)) s ∙ here ∙ e ∙ ap (λ j. first_of (node ns (j + j)) (node ns (j + j + 1))) (sym s) ∙ two i p q
        | inr ne ↦ there i ne ∙ h.won i one lt (omega (arith, half, ne)) (omega (arith, half, ne)) ∙ two i p q
      ];
      leaves = drop-set-lt n ns up o under ∙ h.leaves;
    }

-- nobody has won where nobody is
pub won_vacant : (n : ℕ) (ns : List (Option Sleeper)) → ((k : ℕ) → node ns k ≡ None) → AreWon n ns
won_vacant n ns h i one lt = h i ∙ sym (h (i + i + 1)) ∙ ap (λ x. first_of x (node ns (i + i + 1))) (sym (h (i + i)))

pub placed : (n place : ℕ) (ns old : List (Option Sleeper)) (o : Option Sleeper) → drop n ns ≡ old → drop n (set ns (n + place) o) ≡ set old place o
placed n place ns old o e = drop-set-add n ns place o ∙ ap (λ os. set os place o) e
