-- An expression of a core action gives a value of its sort or an exception, in an environment that fits its scope.
use Rattle.std.proofs.Common.{◌≡◌, ⊎_elim, ℕ, pos, List, [], ◌∷◌, Bool, true, false, cond, Option, Some, None, refl, sym, subst, bytes_eq}
use Rattle.plain_laws.proofs.Lists.{bytes_eq_sym}
use Rattle.hs_base.specs.declared.tree.script.Script.{Script}
use Rattle.hs_base.specs.declared.tree.forms.BinaryForm.TheVariants as b
use Rattle.hs_base.specs.declared.tree.forms.UnaryForm.TheVariants as u
use Rattle.rules_expansion.specs.trees.Trees.{T, unit, int, bool, thread, exn, pair, maybe, either, async}
use Rattle.rules_expansion.specs.trees.Programs.{script_of}
use Rattle.rules_expansion.specs.Names.{Name, Written, Added, same_name, Unread}
use Rattle.rules_meaning.specs.Values.{V, Int, Pair, Just, Left, Right, Exception, Restore, Env, value_at, Outcome, Gives, Throws, Stuck}
use Rattle.rules_meaning.specs.Meaning.{Functions, unary_of, binary_of, functions_of, value_of_ex}
use Rattle.rules_expansion.specs.Core.{CoreEx, OfScript, Read, JustRead, NoValue, BelowZero, IsZero, SameExn, Killed, Nil, LeftRead, RightRead, RightLeft, RightRight, RightNil, PairRead, FirstOf, SecondOf}
use Rattle.rules_meaning.specs.CoreMeaning.{read, value_of_core}
use Rattle.rules_sorts.specs.Sorts.{Sort, a_value, a_masking_name, an_instance, a_scope_cell, SortedName, sort_at}
use Rattle.rules_typing.specs.Typing as typing
use Rattle.rules_typing.specs.TypingScripts.{Accepted, sigs_from}
use Rattle.rules_sorts.specs.TypedMeaning.{of_int, of_thread, of_exn, of_pair, of_cell, HasSort, Fits, FunctionsGood, Good}
use Rattle.hs_soundness.proofs.TypesKept.{ex_good}
use Rattle.hs_soundness.proofs.FunctionsTyped.{functions_good}
use Rattle.hs_soundness.specs.CoreSorts.{seen_as, with_written, written_in, IsThere, CoreHas, of_masking, OfSort, FitsAt, FitsScope, GoodSort}
use Rattle.hs_soundness.proofs.BodiesTyped.{pure_typed}

-- ---- the names of the script in a scope

abbrev seen_at : Option Sort → Option typing.Sort
seen_at None = None
seen_at (Some k) = Some (seen_as k)

seen_if : (p q : Bool) (k : Sort) (o : Option Sort) (r : Option typing.Sort) → p ≡ q → r ≡ seen_at o → cond p (Some (seen_as k)) r ≡ seen_at (cond q (Some k) o)
seen_if true true k o r e h = refl
seen_if false false k o r e h = h
seen_if true false k o r e h = absurd (cc e)
seen_if false true k o r e h = absurd (cc e)

seen_with : (g : List SortedName) (x : List ℕ) (y : Name) (k : Sort)
    → typing.look (written_in g) x ≡ seen_at (sort_at (Written x) g)
    → typing.look (with_written y k (written_in g)) x ≡ seen_at (cond (same_name (Written x) y) (Some k) (sort_at (Written x) g))
seen_with g x (Written z) k h = seen_if (bytes_eq z x) (bytes_eq x z) k (sort_at (Written x) g) (typing.look (written_in g) x) (bytes_eq_sym z x) h
seen_with g x (Added z) k h = h
seen_with g x Unread k h = h

look_is : (g : List SortedName) (x : List ℕ) → typing.look (written_in g) x ≡ seen_at (sort_at (Written x) g)
look_is [] x = refl
look_is (c ∷ g) x = seen_with g x c.name c.sort (look_is g x)

module _ (cells : ℕ → T → Type 0) where
  seen_fits : (x : List ℕ) (o : Option Sort) (r : Option V) → FitsAt cells (Written x) o r → HasSort cells (seen_at o) r
  seen_fits x None None h = tt
  seen_fits x None (Some v) h = h
  seen_fits x (Some k) None h = h
  seen_fits x (Some (a_value t)) (Some v) h = h
  seen_fits x (Some a_masking_name) (Some v) h = by v h
    where
      by : (w : V) → of_masking w → HasSort cells (Some typing.masking_name) (Some w)
      by (Restore m) q = tt
      by _ q = absurd q
  seen_fits x (Some an_instance) (Some v) h = absurd h
  seen_fits x (Some (a_scope_cell t)) (Some v) h = absurd h

  fits_written : (g : List SortedName) (env : Env) → FitsScope cells g env → Fits cells (written_in g) env
  fits_written g env f x = subst (λ o. HasSort cells o (value_at (Written x) env)) (sym (look_is g x)) (seen_fits x (sort_at (Written x) g) (value_at (Written x) env) (f (Written x)))

  -- ---- what is read

  abbrev HasOne : Sort → Option V → Type 0
  HasOne k None = ⊥
  HasOne k (Some v) = OfSort cells k v

  one_at : (y : Name) (k : Sort) (r : Option V) → FitsAt cells y (Some k) r → HasOne k r
  one_at y k None h = h
  one_at (Written x) (a_value t) (Some v) h = h
  one_at (Written x) a_masking_name (Some v) h = h
  one_at (Written x) an_instance (Some v) h = absurd h
  one_at (Written x) (a_scope_cell t) (Some v) h = absurd h
  one_at (Added z) k (Some v) h = h
  one_at Unread k (Some v) h = h

  there : (g : List SortedName) (env : Env) (y : Name) (k : Sort) → FitsScope cells g env → IsThere g y k
      → HasOne k (value_at y env)
  there g env y k f h = one_at y k (value_at y env) (subst (λ o. FitsAt cells y o (value_at y env)) h.1 (f y))

  read_good : (k l : Sort) (r : Option V) (f : V → Outcome) → HasOne k r → ((v : V) → OfSort cells k v → GoodSort cells l (f v)) → GoodSort cells l (read r f)
  read_good k l None f h w = absurd h
  read_good k l (Some v) f h w = w v h

  int_good : (v : V) (f : V → Outcome) → of_int v → ((m : _) → GoodSort cells (a_value bool) (f (Int m))) → GoodSort cells (a_value bool) (f v)
  int_good (Int m) f h w = w m
  int_good _ f h w = absurd h

  exn_good : (v : V) (f : V → Outcome) → of_exn v → ((x : _) → GoodSort cells (a_value bool) (f (Exception x))) → GoodSort cells (a_value bool) (f v)
  exn_good (Exception x) f h w = w x
  exn_good _ f h w = absurd h

  -- the parts of a pair
  first_good : (P Q : V → Type 0) (k : Sort) (v : V) → of_pair P Q v → ((a : V) → P a → OfSort cells k a) → GoodSort cells k (unary_of u.Fst v)
  first_good P Q k (Pair a c) h w = w a h.0
  first_good P Q k _ h w = absurd h

  second_good : (P Q : V → Type 0) (k : Sort) (v : V) → of_pair P Q v → ((a : V) → Q a → OfSort cells k a) → GoodSort cells k (unary_of u.Snd v)
  second_good P Q k (Pair a c) h w = w c h.1
  second_good P Q k _ h w = absurd h

  -- ---- expressions

  sort_of_type : (t : T) (o : Outcome) → Good cells t o → GoodSort cells (a_value t) o
  sort_of_type t (Gives v) h = h
  sort_of_type t (Throws e) h = tt
  sort_of_type t Stuck h = h

  at_sort : (k l : Sort) (o : Outcome) → k ≡ l → GoodSort cells l o → GoodSort cells k o
  at_sort k l o e h = subst (λ z. GoodSort cells z o) (sym e) h

  pub core_good : (c : typing.Ctx) (fs : Functions) → FunctionsGood cells c fs → (g : List SortedName) (env : Env) → FitsScope cells g env → (e : CoreEx) (k : Sort) → CoreHas c g e k → GoodSort cells k (value_of_core fs env e)
  core_good c fs fg g env f (OfScript e) k h = at_sort k (a_value h.0) _ h.3 (sort_of_type h.0 (value_of_ex fs env e) (ex_good cells c fs fg e (written_in g) env h.0 h.1 (fits_written g env f) h.2))
  core_good c fs fg g env f (Read y) k h = read_good k k (value_at y env) Gives (there g env y k f h) (λ v q. q)
  core_good c fs fg g env f (JustRead y) k h = at_sort k (a_value (maybe h.0)) _ h.2 (read_good (a_value h.0) (a_value (maybe h.0)) (value_at y env) (λ v. Gives (Just v)) (there g env y (a_value h.0) f h.1) (λ v q. q))
  core_good c fs fg g env f NoValue k h = at_sort k (a_value (maybe h.0)) (value_of_core fs env NoValue) h.1 tt
  core_good c fs fg g env f (BelowZero y) k h =
      at_sort k (a_value bool) _ h.1 (read_good (a_value int) (a_value bool) (value_at y env) (λ v. binary_of b.Less v (Int (pos 0))) (there g env y (a_value int) f h.0)
      (λ v q. int_good v (λ w. binary_of b.Less w (Int (pos 0))) q (λ m. tt)))
  core_good c fs fg g env f (IsZero y) k h =
      at_sort k (a_value bool) _ h.1 (read_good (a_value int) (a_value bool) (value_at y env) (λ v. binary_of b.Equal v (Int (pos 0))) (there g env y (a_value int) f h.0)
      (λ v q. int_good v (λ w. binary_of b.Equal w (Int (pos 0))) q (λ m. tt)))
  core_good c fs fg g env f (SameExn y z) k h =
      at_sort k (a_value bool) _ h.2 (read_good (a_value exn) (a_value bool) (value_at y env) (λ v. read (value_at z env) (λ w. binary_of b.Equal v w)) (there g env y (a_value exn) f h.0)
      (λ v q. exn_good v (λ u. read (value_at z env) (λ w. binary_of b.Equal u w)) q
      (λ x. read_good (a_value exn) (a_value bool) (value_at z env) (λ w. binary_of b.Equal (Exception x) w) (there g env z (a_value exn) f h.1)
      (λ w p. exn_good w (λ u. binary_of b.Equal (Exception x) u) p (λ y. tt)))))
  core_good c fs fg g env f Killed k h = at_sort k (a_value exn) (value_of_core fs env Killed) h tt
  core_good c fs fg g env f Nil k h = at_sort k (a_value unit) (value_of_core fs env Nil) h tt
  core_good c fs fg g env f (LeftRead y) k h =
      at_sort k (a_value (either h.0 h.1)) _ h.3 (read_good (a_value h.0) (a_value (either h.0 h.1)) (value_at y env) (λ v. Gives (Left v)) (there g env y (a_value h.0) f h.2) (λ v q. q))
  core_good c fs fg g env f (RightRead y) k h =
      at_sort k (a_value (either h.0 h.1)) _ h.3 (read_good (a_value h.1) (a_value (either h.0 h.1)) (value_at y env) (λ v. Gives (Right v)) (there g env y (a_value h.1) f h.2) (λ v q. q))
  core_good c fs fg g env f (RightLeft y) k h =
      at_sort k (a_value (either h.0 (either h.1 h.2))) _ h.4
      (read_good (a_value h.1) (a_value (either h.0 (either h.1 h.2))) (value_at y env) (λ v. Gives (Right (Left v))) (there g env y (a_value h.1) f h.3) (λ v q. q))
  core_good c fs fg g env f (RightRight y) k h =
      at_sort k (a_value (either h.0 (either h.1 h.2))) _ h.4
      (read_good (a_value h.2) (a_value (either h.0 (either h.1 h.2))) (value_at y env) (λ v. Gives (Right (Right v))) (there g env y (a_value h.2) f h.3) (λ v q. q))
  core_good c fs fg g env f RightNil k h = at_sort k (a_value (either h.0 unit)) (value_of_core fs env RightNil) h.1 tt
  core_good c fs fg g env f (PairRead y z) k h =
      ⊎_elim
      (λ q. at_sort k (a_value (async q.0)) _ q.3 (two_read y z (a_value thread) (a_scope_cell q.0) (a_value (async q.0)) (λ v w i j. (i, j)) q.1 q.2))
      (λ q. at_sort k (a_value (pair q.0 q.1)) _ q.4 (two_read y z (a_value q.0) (a_value q.1) (a_value (pair q.0 q.1)) (λ v w i j. (i, j)) q.2 q.3)) h
    where
      two_read : (y z : Name) (i j l : Sort) → ((v w : V) → OfSort cells i v → OfSort cells j w → OfSort cells l (Pair v w)) → IsThere g y i → IsThere g z j → GoodSort cells l (value_of_core fs env (PairRead y z))
      two_read y z i j l pairs p q =
          read_good i l (value_at y env) (λ v. read (value_at z env) (λ w. binary_of b.Pair v w)) (there g env y i f p)
          (λ v a. read_good j l (value_at z env) (λ w. binary_of b.Pair v w) (there g env z j f q) (λ w c. pairs v w a c))
  core_good c fs fg g env f (FirstOf y) k h =
      at_sort k (a_value thread) _ h.2 (read_good (a_value (async h.0)) (a_value thread) (value_at y env) (unary_of u.Fst) (there g env y (a_value (async h.0)) f h.1)
      (λ v q. first_good (of_thread (λ m. cells m thread)) (of_cell (λ m. cells m (async h.0))) (a_value thread) v q (λ a p. p)))
  core_good c fs fg g env f (SecondOf y) k h =
      at_sort k (a_scope_cell h.0) _ h.2 (read_good (a_value (async h.0)) (a_scope_cell h.0) (value_at y env) (unary_of u.Snd) (there g env y (a_value (async h.0)) f h.1)
      (λ v q. second_good (of_thread (λ m. cells m thread)) (of_cell (λ m. cells m (async h.0))) (a_scope_cell h.0) v q (λ a p. p)))

  pub accepted_good : (s : Script) (here : ℕ) (g : List SortedName) (env : Env) (e : CoreEx) (k : Sort) → Accepted s → CoreHas (record { sigs = sigs_from 0 (script_of s); here = here }) g e k → FitsScope cells g env → GoodSort cells k (value_of_core (functions_of (script_of s)) env e)
  accepted_good s here g env e k a h f =
      core_good (record { sigs = sigs_from 0 (script_of s); here = here }) (functions_of (script_of s)) (functions_good cells (script_of s) here (pure_typed s a)) g env f e k h
