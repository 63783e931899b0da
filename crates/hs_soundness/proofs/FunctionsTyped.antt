-- The pure functions of a script whose pure definitions have their types answer values of their results.
use Rattle.std.proofs.Common.{◌≡◌, ℕ, ◌+◌, ◌≤◌, List, [], ◌∷◌, ◌++◌, Bool, true, false, cond, Option, Some, None, refl, sym, ap, ◌∙◌, subst, arith, ◌⊎◌, inl, inr, ⊎_elim, bytes_eq, append_assoc, append-nil}
use Rattle.std.proofs.lemmas.Bool.{ltb-true}
use Rattle.rules_expansion.specs.trees.Trees.{T, Ex}
use Rattle.rules_expansion.specs.trees.Programs.{Par, Bd, pure_body, io_body, Fn}
use Rattle.rules_meaning.specs.Values.{V, Env, with_name, Outcome, Stuck}
use Rattle.rules_expansion.specs.Names.{Written}
use Rattle.rules_meaning.specs.Meaning.{Functions, answer, answer_of, in_env, bound_onto, texts_of, with_body, functions_onto, functions_of, value_of_ex}
use Rattle.rules_typing.specs.Typing.{TypedName, bound, Sig, find, HasType}
use Rattle.rules_typing.specs.TypingScripts.{acts, param_types, sig_of_fn, sigs_from, params_in, result_of}
use Rattle.rules_sorts.specs.TypedMeaning.{Good, AllOf, Fits, FunctionsGood, Well, PureTyped, BodyTyped}
use Rattle.hs_soundness.proofs.TypesKept.{ex_good, fits_more}

-- ---- what is found
found_first : (front back : List Sig) (f : List ℕ) (g : Sig) → find front f ≡ Some g → find (front ++ back) f ≡ Some g
found_first [] back f g e = absurd (cc e)
found_first (x ∷ xs) back f g e = by (bytes_eq x.spelling f) (λ q. found_first xs back f g q) e
  where
    by : (p : Bool) → (find xs f ≡ Some g → find (xs ++ back) f ≡ Some g) → cond p (Some x) (find xs f) ≡ Some g → cond p (Some x) (find (xs ++ back) f) ≡ Some g
    by true r q = q
    by false r q = r q

found_behind : (front back : List Sig) (f : List ℕ) → find front f ≡ None → find (front ++ back) f ≡ find back f
found_behind [] back f e = refl
found_behind (x ∷ xs) back f e = by (bytes_eq x.spelling f) (λ q. found_behind xs back f q) e
  where
    by : (p : Bool) → (find xs f ≡ None → find (xs ++ back) f ≡ find back f) → cond p (Some x) (find xs f) ≡ None → cond p (Some x) (find (xs ++ back) f) ≡ find back f
    by true r q = absurd (cc q)
    by false r q = r q

-- a definition from number k on has a place from k on
place_from : (k : ℕ) (ds : List Fn) (f : List ℕ) (g : Sig) → find (sigs_from k ds) f ≡ Some g → k ≤ g.place
place_from k [] f g e = absurd (cc e)
place_from k (d ∷ ds) f g e = by (bytes_eq d.name.text f) (λ q. place_from (k + 1) ds f g q) e
  where
    by : (p : Bool) → (find (sigs_from (k + 1) ds) f ≡ Some g → k + 1 ≤ g.place) → cond p (Some (sig_of_fn k d)) (find (sigs_from (k + 1) ds) f) ≡ Some g → k ≤ g.place
    by true r q = let same : sig_of_fn k d ≡ g = cc q in subst (λ x. k ≤ x.place) same (omega arith)
    by false r q = omega (arith, r q)

abbrev named : Functions → List ℕ → Bool
named [] f = false
named (g ∷ fs) f = cond (bytes_eq g.0 f) true (named fs f)

answer_unnamed : (fs : Functions) (f : List ℕ) (vs : List V) → named fs f ≡ false → answer fs f vs ≡ Stuck
answer_unnamed [] f vs e = refl
answer_unnamed (g ∷ fs) f vs e = by (bytes_eq g.0 f) (λ q. answer_unnamed fs f vs q) e
  where
    by : (p : Bool) → (named fs f ≡ false → answer fs f vs ≡ Stuck) → cond p true (named fs f) ≡ false → cond p (g.1 vs) (answer fs f vs) ≡ Stuck
    by true r q = absurd (cc q)
    by false r q = r q

answer_first : (fs gs : Functions) (f : List ℕ) (vs : List V) → named fs f ≡ true → answer (fs ++ gs) f vs ≡ answer fs f vs
answer_first [] gs f vs e = absurd (cc e)
answer_first (g ∷ fs) gs f vs e = by (bytes_eq g.0 f) (λ q. answer_first fs gs f vs q) e
  where
    by : (p : Bool) → (named fs f ≡ true → answer (fs ++ gs) f vs ≡ answer fs f vs) → cond p true (named fs f) ≡ true → cond p (g.1 vs) (answer (fs ++ gs) f vs) ≡ cond p (g.1 vs) (answer fs f vs)
    by true r q = refl
    by false r q = r q

answer_behind : (fs gs : Functions) (f : List ℕ) (vs : List V) → named fs f ≡ false → answer (fs ++ gs) f vs ≡ answer gs f vs
answer_behind [] gs f vs e = refl
answer_behind (g ∷ fs) gs f vs e = by (bytes_eq g.0 f) (λ q. answer_behind fs gs f vs q) e
  where
    by : (p : Bool) → (named fs f ≡ false → answer (fs ++ gs) f vs ≡ answer gs f vs) → cond p true (named fs f) ≡ false → cond p (g.1 vs) (answer (fs ++ gs) f vs) ≡ answer gs f vs
    by true r q = absurd (cc q)
    by false r q = r q

named_more : (fs : Functions) (x : List ℕ × (List V → Outcome)) (f : List ℕ) → named fs f ≡ false → bytes_eq x.0 f ≡ false → named (fs ++ x ∷ []) f ≡ false
named_more [] x f e h = ap (λ p. cond p true false) h
named_more (g ∷ fs) x f e h = by (bytes_eq g.0 f) (λ q. named_more fs x f q h) e
  where
    by : (p : Bool) → (named fs f ≡ false → named (fs ++ x ∷ []) f ≡ false) → cond p true (named fs f) ≡ false → cond p true (named (fs ++ x ∷ []) f) ≡ false
    by true r q = absurd (cc q)
    by false r q = r q

module _ (cells : ℕ → T → Type 0) where
  -- every pure function of these answers so
  abbrev Answers : List Sig → Functions → Type 0
  Answers front fs = (f : List ℕ) (g : Sig) → find front f ≡ Some g → g.acts ≡ false → (vs : List V) → AllOf cells g.params vs → Good cells g.result (answer fs f vs)

  -- only definitions before are among the functions
  abbrev Only : List Sig → Functions → Type 0
  Only front fs = (f : List ℕ) → find front f ≡ None → named fs f ≡ false

  -- a body in the environment of its parameters
  params_good : (fs : Functions) (e : Ex) (t : T) (ps : List Par) (s : List TypedName) (env : Env) (vs : List V) → Fits cells s env → AllOf cells (param_types ps) vs →
      ((env' : Env) → Fits cells (params_in s ps) env' → Good cells t (value_of_ex fs env' e)) → Good cells t (in_env fs e (bound_onto env (texts_of ps) vs))
  params_good fs e t [] s env [] f h k = k env f
  params_good fs e t [] s env (v ∷ vs) f h k = absurd h
  params_good fs e t (p ∷ ps) s env [] f h k = absurd h
  params_good fs e t (p ∷ ps) s env (v ∷ vs) f h k =
      params_good fs e t ps (bound p.name p.ty.ty ∷ s) (with_name (Written p.name.text) v env) vs (fits_more cells s env p.name p.ty.ty v f h.0) h.1 k

  -- the functions before the definition with number k, as that definition may call them
  earlier : (front : List Sig) (k : ℕ) (ds : List Fn) (fs : Functions) → Answers front fs → FunctionsGood cells (record { sigs = front ++ sigs_from k ds; here = k }) fs
  earlier front k ds fs a f g e acts below vs h = by (find front f) refl
    where
      by : (o : Option Sig) → find front f ≡ o → Good cells g.result (answer fs f vs)
      by (Some x) q =
          let same : x ≡ g = cc (sym (found_first front (sigs_from k ds) f x q) ∙ e) in
          a f g (q ∙ ap Some same) acts vs h
      by None q =
          let p = place_from k ds f g (sym (found_behind front (sigs_from k ds) f q) ∙ e) in
          absurd (omega (arith, p, ltb-true g.place k below))

  -- ---- one definition more
  more_front : (front : List Sig) (d : Sig) (f : List ℕ) (g : Sig) → find (front ++ d ∷ []) f ≡ Some g → (find front f ≡ Some g) ⊎ ((find front f ≡ None) × (bytes_eq d.spelling f ≡ true) × (d ≡ g))
  more_front front d f g e = by (find front f) refl
    where
      last : (p : Bool) → p ≡ bytes_eq d.spelling f → cond p (Some d) None ≡ Some g → (bytes_eq d.spelling f ≡ true) × (d ≡ g)
      last true q r = (sym q, cc r)
      last false q r = absurd (cc r)

      by : (o : Option Sig) → find front f ≡ o → (find front f ≡ Some g) ⊎ ((find front f ≡ None) × (bytes_eq d.spelling f ≡ true) × (d ≡ g))
      by (Some x) q = inl (q ∙ (sym (found_first front (d ∷ []) f x q) ∙ e))
      by None q = let l = last (bytes_eq d.spelling f) refl (sym (found_behind front (d ∷ []) f q) ∙ e) in inr (q, l.0, l.1)

  more_none : (front : List Sig) (d : Sig) (f : List ℕ) → find (front ++ d ∷ []) f ≡ None → (find front f ≡ None) × (bytes_eq d.spelling f ≡ false)
  more_none front d f e = by (find front f) refl
    where
      last : (p : Bool) → p ≡ bytes_eq d.spelling f → ◌≡◌ {A = Option Sig} (cond p (Some d) None) None → bytes_eq d.spelling f ≡ false
      last true q r = absurd (cc r)
      last false q r = sym q

      by : (o : Option Sig) → find front f ≡ o → (find front f ≡ None) × (bytes_eq d.spelling f ≡ false)
      by (Some x) q = let z : ◌≡◌ {A = Option Sig} (Some x) None = sym (found_first front (d ∷ []) f x q) ∙ e in absurd (cc z)
      by None q = (q, last (bytes_eq d.spelling f) refl (sym (found_behind front (d ∷ []) f q) ∙ e))

  kept_answer : (fs : Functions) (x : List ℕ × (List V → Outcome)) (f : List ℕ) (vs : List V) (t : T) → Good cells t (answer fs f vs) → Good cells t (answer (fs ++ x ∷ []) f vs)
  kept_answer fs x f vs t h = by (named fs f) refl
    where
      by : (p : Bool) → named fs f ≡ p → Good cells t (answer (fs ++ x ∷ []) f vs)
      by true q = subst (Good cells t) (sym (answer_first fs (x ∷ []) f vs q)) h
      by false q = absurd (subst (Good cells t) (answer_unnamed fs f vs q) h)

  new_answer : (fs : Functions) (x : List ℕ × (List V → Outcome)) (f : List ℕ) (vs : List V) (t : T) → named fs f ≡ false → bytes_eq x.0 f ≡ true → Good cells t (x.1 vs) → Good cells t (answer (fs ++ x ∷ []) f vs)
  new_answer fs x f vs t u e h = subst (Good cells t) (sym (answer_behind fs (x ∷ []) f vs u ∙ ap (λ p. cond p (x.1 vs) Stuck) e)) h

  with_pure : (front : List Sig) (k : ℕ) (ds : List Fn) (d : Fn) (e : Ex) (r : T) (fs : Functions) → Answers front fs → Only front fs → sig_of_fn k d ≡ record { spelling = d.name.text; acts = false; params = param_types d.params; result = r; place = k } →
      Well e → HasType (record { sigs = front ++ sigs_from k ds; here = k }) (params_in [] d.params) e r →
      Answers (front ++ sig_of_fn k d ∷ []) (fs ++ (d.name.text, answer_of fs (texts_of d.params) e) ∷ [])
  with_pure front k ds d e r fs a o is w h f g found acts vs y =
      ⊎_elim
      (λ q. kept_answer fs (d.name.text, answer_of fs (texts_of d.params) e) f vs g.result (a f g q acts vs y))
      (λ q.
      let same : record { spelling = d.name.text; acts = false; params = param_types d.params; result = r; place = k } ≡ g = sym is ∙ q.2 in
      let body : Good cells r (answer_of fs (texts_of d.params) e vs) =
      params_good fs e r d.params [] [] vs (λ x. tt) (subst (λ z. AllOf cells z.params vs) (sym same) y)
      (λ env fit. ex_good cells (record { sigs = front ++ sigs_from k ds; here = k }) fs (earlier front k ds fs a) e (params_in [] d.params) env r w fit h) in
      new_answer fs (d.name.text, answer_of fs (texts_of d.params) e) f vs g.result (o f q.0) q.1 (subst (λ z. Good cells z.result (answer_of fs (texts_of d.params) e vs)) same body))
      (more_front front (sig_of_fn k d) f g found)

  with_io : (front : List Sig) (d : Sig) (fs : Functions) → d.acts ≡ true → Answers front fs → Answers (front ++ d ∷ []) fs
  with_io front d fs io a f g found acts vs y =
      ⊎_elim (λ q. a f g q acts vs y) (λ q. let z : true ≡ false = sym io ∙ (ap (λ x. x.acts) q.2 ∙ acts) in absurd (cc z)) (more_front front d f g found)

  -- ---- all definitions
  step_good : (front : List Sig) (k : ℕ) (ds : List Fn) (d : Fn) (fs : Functions) → Answers front fs → Only front fs → (b : Bd) → d.body ≡ b → BodyTyped (record { sigs = front ++ sigs_from k (d ∷ ds); here = k }) d b →
      Answers (front ++ sig_of_fn k d ∷ []) (with_body fs d b) × Only (front ++ sig_of_fn k d ∷ []) (with_body fs d b)
  step_good front k ds d fs a o (pure_body w e) q p = (
    with_pure front k (d ∷ ds) d e w.ty fs a o (ap (λ z. let x : Sig = record { spelling = d.name.text; acts = acts z; params = param_types d.params; result = (result_of z).ty; place = k } in x) q) p.0 p.1,
    λ f none. let m = more_none front (sig_of_fn k d) f none in named_more fs (d.name.text, answer_of fs (texts_of d.params) e) f (o f m.0) m.1,
  )
  step_good front k ds d fs a o (io_body w b) q p = (
    with_io front (sig_of_fn k d) fs (ap acts q) a,
    λ f none. o f (more_none front (sig_of_fn k d) f none).0,
  )

  all_answer : (ds : List Fn) (front : List Sig) (k : ℕ) (fs : Functions) → Answers front fs → Only front fs → PureTyped (front ++ sigs_from k ds) k ds → Answers (front ++ sigs_from k ds) (functions_onto fs ds)
  all_answer [] front k fs a o p = subst (λ z. Answers z fs) (sym (append-nil front)) a
  all_answer (d ∷ ds) front k fs a o p =
      let n = step_good front k ds d fs a o d.body refl p.0 in
      let e : (front ++ sig_of_fn k d ∷ []) ++ sigs_from (k + 1) ds ≡ front ++ sig_of_fn k d ∷ sigs_from (k + 1) ds = append_assoc front (sig_of_fn k d ∷ []) (sigs_from (k + 1) ds) in
      subst (λ z. Answers z (functions_onto (with_body fs d d.body) ds)) e
      (all_answer ds (front ++ sig_of_fn k d ∷ []) (k + 1) (with_body fs d d.body) n.0 n.1 (subst (λ z. PureTyped z (k + 1) ds) (sym e) p.1))

  pub functions_good : (ds : List Fn) (here : ℕ) → PureTyped (sigs_from 0 ds) 0 ds → FunctionsGood cells (record { sigs = sigs_from 0 ds; here = here }) (functions_of ds)
  functions_good ds here p f g found acts below vs y = all_answer ds [] 0 [] (λ f g e. absurd (cc e)) (λ f e. refl) p f g found acts vs y
