-- No path to an ending is lost by eager steps.
use Rattle.std.proofs.Common.{◌≡◌, ◌<◌, ℕ, zero, suc, List, [], ◌∷◌, refl, sym, ap, ◌∙◌, subst, arith, ◌⊎◌, inl, inr, ⊎_elim}
use Rattle.hs_rules.specs.declared.entry.Entry.{Entry}
use Rattle.hs_rules.specs.declared.entry.Entry.TheVariants as entry
use Rattle.rules_meaning.specs.CoreMeaning.{Code}
use Rattle.hs_rules.specs.State.{State}
use Rattle.hs_rules.specs.Entries.{Leads}
use Rattle.hs_rules.specs.Entries as entries
use Rattle.hs_laws.proofs.Lists.{equal_or}
use Rattle.outcome_laws.specs.reduction.EagerRules.{EagerRule, EagerStep, EagerSteps}
use Rattle.outcome_laws.specs.reduction.Paths.{LocalsLead, IsTaken, IsStable, Move, Counted, Uncounted, entry_of, Path, counted, uncounted_before, NoLonger, MainRuns, HasEnded, ShowsSame, EndsLike, KeptEnding, IsClosed, HasEndingLike, IsOther}
use Rattle.outcome_laws.proofs.reduction_lemmas.Own.{main_runs}
use Rattle.outcome_laws.proofs.reduction_lemmas.Ending.{not_end, keeps_end, like_then}
use Rattle.outcome_laws.proofs.reduction_lemmas.Meeting.{others_commute, receive_commutes, itself_alone, performs_nothing, finishes_not}
use Rattle.outcome_laws.proofs.reduction_lemmas.Finishing.{finish_commutes}

-- ---- lengths

same_long : (vs : List Move) → NoLonger vs vs
same_long vs = inr (refl, omega arith)

counted_longer : (e f : Entry) (vs ws : List Move) → NoLonger vs ws → NoLonger (Counted e ∷ vs) (Counted f ∷ ws)
counted_longer e f vs ws (inl l) = inl (omega (arith, l))
counted_longer e f vs ws (inr l) = inr (ap suc l.0, omega arith)

more_longer : (v : Move) (vs ws : List Move) → NoLonger vs ws → NoLonger (v ∷ vs) (v ∷ ws)
more_longer (Counted e) vs ws h = counted_longer e e vs ws h
more_longer (Uncounted t) vs ws (inl l) = inl l
more_longer (Uncounted t) vs ws (inr l) = inr (l.0, omega (arith, l.1))

without_first : (v : Move) (vs : List Move) → NoLonger vs (v ∷ vs)
without_first (Counted e) vs = inl (omega arith)
without_first (Uncounted t) vs = inr (refl, omega arith)

longer_then : (us vs ws : List Move) → NoLonger us vs → NoLonger vs ws → NoLonger us ws
longer_then us vs ws (inl a) (inl b) = inl (omega (arith, a, b))
longer_then us vs ws (inl a) (inr b) = inl (omega (arith, a, b.0))
longer_then us vs ws (inr a) (inl b) = inl (omega (arith, a.0, b))
longer_then us vs ws (inr a) (inr b) = inr (a.0 ∙ b.0, omega (arith, a.1, b.1))

-- ---- one entry

-- a Local is of one step
abbrev pub One : Entry → Type 0
One (entry.Local v k) = k ≡ 1
One (entry.Op v) = Unit {0}
One (entry.Receive v) = Unit {0}
One (entry.Wake v) = Unit {0}
One (entry.Finish v) = Unit {0}
One (entry.Tick at) = Unit {0}
One entry.Stranded = Unit {0}

abbrev pub Joins : Code → Entry → State → State → Type 0
Joins code e m w = EagerStep code m w ⊎ ((¬ MainRuns m × ShowsSame m w) ⊎ ((t : ℕ) × (ts : List ℕ) × (e ≡ entry.Receive t) × LocalsLead code ts w m))

-- what led to m before leads on after, where it isn't that itself
abbrev pub Met : Code → Entry → State → State → Type 0
Met code e u m = (m ≡ u) ⊎ ((w : State) × Leads code u e w × Joins code e m w)

rule_commutes : (code : Code) (t : ℕ) (s u : State) (e : Entry) (m : State) → EagerRule code t s u → One e → Leads code s e m → Met code e u m
rule_commutes code t s u e m c o l = by e o l
  where
    other : (e : Entry) → IsOther t e → Leads code s e m → Met code e u m
    other e n l = let k = others_commute code t s u e m c n l in inr (k.0, k.1, ⊎_elim (λ q. inl (inl (t, q))) (λ q. inr (inl q)) k.2)

    by : (e : Entry) → One e → Leads code s e m → Met code e u m
    by (entry.Local v k) o l =
        ⊎_elim
        (λ q. inl (itself_alone code t s u m c (subst (λ i. Leads code s (entry.Local i 1) m) q.1 (subst (λ j. Leads code s (entry.Local v j) m) o l))))
        (λ q. other (entry.Local v k) q.1 l)
        (equal_or v t)
    by (entry.Op v) o l = ⊎_elim (λ q. absurd (performs_nothing code t s u m c (subst (λ i. Leads code s (entry.Op i) m) q.1 l))) (λ q. other (entry.Op v) q.1 l) (equal_or v t)
    by (entry.Receive v) o l =
        ⊎_elim
        (λ q. let k = receive_commutes code t s u m c (subst (λ i. Leads code s (entry.Receive i) m) q.1 l) in
        inr (k.0, subst (λ i. Leads code u (entry.Receive i) k.0) (sym q.1) k.1, ⊎_elim (λ r. inr (inr (v, r.0, refl, r.1))) (λ r. inl (inl (t, r))) k.2))
        (λ q. other (entry.Receive v) q.1 l)
        (equal_or v t)
    by (entry.Wake v) o l = other (entry.Wake v) tt l
    by (entry.Finish v) o l = ⊎_elim (λ q. absurd (finishes_not code t s u m c (subst (λ i. Leads code s (entry.Finish i) m) q.1 l))) (λ q. other (entry.Finish v) q.1 l) (equal_or v t)
    by (entry.Tick at) o l = other (entry.Tick at) tt l
    by entry.Stranded o l = other entry.Stranded tt l

pub met : (code : Code) (s u : State) (e : Entry) (m : State) → EagerStep code s u → One e → Leads code s e m → Met code e u m
met code s u e m (inl c) o l = rule_commutes code c.0 s u e m c.1 o l
met code s u e m (inr c) o l = ⊎_elim (λ q. inl q) (λ q. inr (q.0, q.1, ⊎_elim (λ r. inl (inr (c.0, r))) (λ r. inr (inl r)) q.2)) (finish_commutes code c.0 s u e m c.1 l)

eager_goes_on : (code : Code) (s u : State) → EagerStep code s u → HasEnded code s → ⊥
eager_goes_on code s u (inl c) d = not_end code s (entry.Local c.0 1) u (λ z. z) c.1.leads d
eager_goes_on code s u (inr c) d = not_end code s (entry.Finish c.0) u (λ z. z) c.1.leads d

-- one local rule of each of these threads, and then these moves
abbrev pub uncounted_moves : List ℕ → List Move → List Move
uncounted_moves [] vs = vs
uncounted_moves (t ∷ ts) vs = Uncounted t ∷ uncounted_moves ts vs

uncounted_moves_count : (ts : List ℕ) (vs : List Move) → counted (uncounted_moves ts vs) ≡ counted vs
uncounted_moves_count [] vs = refl
uncounted_moves_count (t ∷ ts) vs = uncounted_moves_count ts vs

module _ (code : Code) (T : State → ℕ → Type 0) (stable : IsStable code T) where
  pub taken_too : (s u : State) (e : Entry) → EagerStep code s u → IsTaken T s e → IsTaken T u e
  taken_too s u (entry.Local v k) c n = n
  taken_too s u (entry.Tick at) c n = stable s u c at n
  taken_too s u _ c n = tt

  pub one_of : (s : State) (e : Entry) → IsTaken T s e → One e
  one_of s (entry.Local v k) n = n
  one_of s _ n = tt

  pub uncounted_moves_lead : (ts : List ℕ) (vs : List Move) (w m z : State) → LocalsLead code ts w m → Path code T m vs z → Path code T w (uncounted_moves ts vs) z
  uncounted_moves_lead [] vs w m z l k = subst (λ q. Path code T q vs z) (sym l) k
  uncounted_moves_lead (t ∷ ts) vs w m z l k = (l.0, l.1, refl, uncounted_moves_lead ts vs l.0 m z l.2 k)

  module _ (s u z : State) (c : EagerStep code s u) where
    -- after main has finished nothing more comes
    over : (v : Move) (vs : List Move) (m w : State) → ¬ MainRuns m → ShowsSame m w → Leads code u (entry_of v) w → IsTaken T s (entry_of v) → Path code T m vs z → KeptEnding code T (v ∷ vs) u z
    over v [] m w n al l cn k = record {
      moves = v ∷ [];
      state = w;
      path = (w, l, taken_too s u (entry_of v) c cn, refl);
      no_longer = same_long (v ∷ []);
      ends = subst (λ q. EndsLike q w) k (inr (n, al));
    }
    over v (x ∷ xs) m w n al l cn k = absurd (n (main_runs m (λ main. entries.entered code m (entry_of x)) k.0 k.1.0))

    -- an exception that was received comes first, and then local rules
    behind : (v : Move) (vs : List Move) (m w : State) (t : ℕ) (ts : List ℕ) → entry_of v ≡ entry.Receive t → LocalsLead code ts w m → Leads code u (entry_of v) w → IsTaken T s (entry_of v) → Path code T m vs z → KeptEnding code T (v ∷ vs) u z
    behind (Uncounted i) vs m w t ts e r l cn k = absurd (cc e)
    behind (Counted x) vs m w t ts e r l cn k = record {
      moves = Counted x ∷ uncounted_moves ts vs;
      state = z;
      path = (w, l, taken_too s u x c cn, uncounted_moves_lead ts vs w m z r k);
      no_longer = inr (ap suc (uncounted_moves_count ts vs), omega arith);
      ends = inl refl;
    }

    one : (v : Move) (vs : List Move) → ((m w : State) → EagerStep code m w → Path code T m vs z → KeptEnding code T vs w z) → Path code T s (v ∷ vs) z → KeptEnding code T (v ∷ vs) u z
    one v vs ih w = ⊎_elim itself (λ q. joined q.0 q.1 q.2) (met code s u (entry_of v) w.0 c (one_of s (entry_of v) w.2) w.1)
      where
        itself : w.0 ≡ u → KeptEnding code T (v ∷ vs) u z
        itself e = record { moves = vs; state = z; path = subst (λ q. Path code T q vs z) e w.3; no_longer = without_first v vs; ends = inl refl }

        later : (x : State) → Leads code u (entry_of v) x → EagerStep code w.0 x → KeptEnding code T (v ∷ vs) u z
        later x l q =
            let k = ih w.0 x q w.3 in
            record { moves = v ∷ k.moves; state = k.state; path = (x, l, taken_too s u (entry_of v) c w.2, k.path); no_longer = more_longer v k.moves vs k.no_longer; ends = k.ends }

        joined : (x : State) → Leads code u (entry_of v) x → Joins code (entry_of v) w.0 x → KeptEnding code T (v ∷ vs) u z
        joined x l (inl q) = later x l q
        joined x l (inr (inl q)) = over v vs w.0 x q.0 q.1 l w.2 w.3
        joined x l (inr (inr q)) = behind v vs w.0 x q.0 q.1 q.2 q.3 l w.2 w.3

  pub lose : (vs : List Move) (s u z : State) → HasEnded code z → EagerStep code s u → Path code T s vs z → KeptEnding code T vs u z
  lose [] s u z d c w = absurd (eager_goes_on code s u c (subst (HasEnded code) (sym w) d))
  lose (v ∷ vs) s u z d c w = one s u z c v vs (λ m x q k. lose vs m x z d q k) w

  pub lose_steps : (k : ℕ) (s r : State) (vs : List Move) (z : State) → HasEnded code z → EagerSteps code k s r → Path code T s vs z → KeptEnding code T vs r z
  lose_steps zero s r vs z d c w = record { moves = vs; state = z; path = subst (λ q. Path code T q vs z) c w; no_longer = same_long vs; ends = inl refl }
  lose_steps (suc n) s r vs z d c w =
      let k = lose vs s c.0 z d c.1 w in
      let l = lose_steps n c.0 r k.moves k.state (keeps_end code z k.state k.ends d) c.2 k.path in
      record { moves = l.moves; state = l.state; path = l.path; no_longer = longer_then l.moves k.moves vs l.no_longer k.no_longer; ends = like_then z k.state l.state k.ends l.ends }

  -- ---- a set that is closed has each ending

  module _ (V : State → Type 0) (closed : IsClosed code T V) where
    abbrev EndsIn : List Move → Type 0
    EndsIn vs = (s z : State) → V s → HasEnded code z → Path code T s vs z → HasEndingLike V z

    -- where the first move leads some state of V ends so, if the rest of the path does
    follow : (v : Move) (vs : List Move) (s z : State) → V s → HasEnded code z → ((us : List Move) → NoLonger us vs → EndsIn us) → Path code T s (v ∷ vs) z → HasEndingLike V z
    follow v vs s z i d ih w =
        let r = closed s i (entry_of v) w.0 w.2 w.1 in
        let k = lose_steps r.1 w.0 r.0 vs z d r.2 w.3 in
        let e = ih k.moves k.no_longer r.0 k.state r.3 (keeps_end code z k.state k.ends d) k.path in
        (e.0, e.1, like_then z k.state e.0 k.ends e.2)

    inner : (n : ℕ) → ((us : List Move) → counted us < n → EndsIn us) → (l : ℕ) (vs : List Move) → counted vs < suc n → uncounted_before vs < l → EndsIn vs
    inner n ih zero vs a b = absurd (omega (arith, b))
    inner n ih (suc l) [] a b = λ s z i d w. (s, i, inl (sym w))
    inner n ih (suc l) (Counted e ∷ vs) a b = λ s z i d w. follow (Counted e) vs s z i d (λ us c. by us c) w
      where
        by : (us : List Move) → NoLonger us vs → EndsIn us
        by us (inl c) = ih us (omega (arith, a, c))
        by us (inr c) = ih us (omega (arith, a, c.0))
    inner n ih (suc l) (Uncounted t ∷ vs) a b = λ s z i d w. follow (Uncounted t) vs s z i d (λ us c. by us (λ p q. inner n ih l us p q) c) w
      where
        by : (us : List Move) → (counted us < suc n → uncounted_before us < l → EndsIn us) → NoLonger us vs → EndsIn us
        by us on (inl c) = ih us (omega (arith, a, c))
        by us on (inr c) = on (omega (arith, a, c.0)) (omega (arith, b, c.1))

    upto : (n : ℕ) (vs : List Move) → counted vs < n → EndsIn vs
    upto zero vs a = absurd (omega (arith, a))
    upto (suc n) vs a = inner n (upto n) (suc (uncounted_before vs)) vs a (omega arith)

    pub each_end : (n : ℕ) (s r : State) (vs : List Move) (z : State) → EagerSteps code n s r → V r → HasEnded code z → Path code T s vs z → HasEndingLike V z
    each_end n s r vs z c i d w =
        let k = lose_steps n s r vs z d c w in
        let e = upto (suc (counted k.moves)) k.moves (omega arith) r k.state i (keeps_end code z k.state k.ends d) k.path in
        (e.0, e.1, like_then z k.state e.0 k.ends e.2)
