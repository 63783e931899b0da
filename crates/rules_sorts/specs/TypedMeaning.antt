-- When values, environments and pure functions fit the typing rules (own): what meaning keeps.
use Rattle.std.specs.Prelude.{◌≡◌, ◌+◌, ℕ, ltb, List, [], ◌∷◌, Bool, true, false, Option, Some, None}
use Rattle.hs_base.specs.declared.tree.forms.BinaryForm.{BinaryForm}
use Rattle.hs_base.specs.declared.tree.forms.BinaryForm.TheVariants as b
use Rattle.rules_expansion.specs.trees.Trees.{T, unit, int, bool, text, thread, exn, pair, maybe, either, list, cell, async, Ex, Exs, Links, Arms, lit, name, unary, binary, chain, conses, choose, items, empty, side, given, case, none, more, end, link, maybe_arms, either_arms, list_arms, pair_arms}
use Rattle.rules_meaning.specs.Values as val
use Rattle.rules_meaning.specs.Values.{V, UnitValue, Int, Truth, Text, Pair, Nothing, Just, Left, Right, Nil, Cons, Exception, Restore, Env, value_at, Outcome, Gives, Throws, Stuck, Outcomes, AllGive, OneThrows, OneStuck}
use Rattle.rules_expansion.specs.Names.{Written}
use Rattle.rules_meaning.specs.Meaning.{Functions, answer}
use Rattle.rules_typing.specs.Typing as typing
use Rattle.rules_typing.specs.TypingScripts.{params_in}
use Rattle.rules_expansion.specs.trees.Programs.{Bd, pure_body, io_body, Fn}

-- ---- values of a type, where cells says which number is of which type: a cell's of an `MVar` type, that of an async scope's
-- cell of an `Async` type, a thread's of `ThreadId`
abbrev pub of_unit : V → Type 0
of_unit UnitValue = Unit {0}
of_unit _ = ⊥

abbrev pub of_int : V → Type 0
of_int (Int m) = Unit {0}
of_int _ = ⊥

abbrev pub of_bool : V → Type 0
of_bool (Truth t) = Unit {0}
of_bool _ = ⊥

abbrev pub of_text : V → Type 0
of_text (Text t) = Unit {0}
of_text _ = ⊥

abbrev pub of_thread : (ℕ → Type 0) → V → Type 0
of_thread P (val.Thread m) = P m
of_thread P _ = ⊥

abbrev pub of_exn : V → Type 0
of_exn (Exception e) = Unit {0}
of_exn _ = ⊥

abbrev pub of_pair : (V → Type 0) → (V → Type 0) → V → Type 0
of_pair P Q (Pair a c) = P a × Q c
of_pair P Q _ = ⊥

abbrev pub of_maybe : (V → Type 0) → V → Type 0
of_maybe P Nothing = Unit {0}
of_maybe P (Just a) = P a
of_maybe P _ = ⊥

abbrev pub of_either : (V → Type 0) → (V → Type 0) → V → Type 0
of_either P Q (Left a) = P a
of_either P Q (Right a) = Q a
of_either P Q _ = ⊥

abbrev pub of_list : (V → Type 0) → V → Type 0
of_list P Nil = Unit {0}
of_list P (Cons a c) = P a × of_list P c
of_list P _ = ⊥

abbrev pub of_cell : (ℕ → Type 0) → V → Type 0
of_cell P (val.Cell m) = P m
of_cell P _ = ⊥

module _ (cells : ℕ → T → Type 0) where
  abbrev pub HasV : T → V → Type 0
  HasV unit = of_unit
  HasV int = of_int
  HasV bool = of_bool
  HasV text = of_text
  HasV thread = of_thread (λ m. cells m thread)
  HasV exn = of_exn
  HasV (pair a c) = of_pair (HasV a) (HasV c)
  HasV (maybe a) = of_maybe (HasV a)
  HasV (either a c) = of_either (HasV a) (HasV c)
  HasV (list a) = of_list (HasV a)
  HasV (cell a) = of_cell (λ m. cells m (cell a))
  HasV (async a) = of_pair (of_thread (λ m. cells m thread)) (of_cell (λ m. cells m (async a)))

  -- a value of the type, or an exception
  abbrev pub Good : T → Outcome → Type 0
  Good t (Gives v) = HasV t v
  Good t (Throws e) = Unit {0}
  Good t Stuck = ⊥

  abbrev pub AllOf : List T → List V → Type 0
  AllOf [] [] = Unit {0}
  AllOf [] (v ∷ vs) = ⊥
  AllOf (t ∷ ts) [] = ⊥
  AllOf (t ∷ ts) (v ∷ vs) = HasV t v × AllOf ts vs

  abbrev pub AllGood : List T → Outcomes → Type 0
  AllGood ts (AllGive vs) = AllOf ts vs
  AllGood ts (OneThrows e) = Unit {0}
  AllGood ts OneStuck = ⊥

  -- an environment has a value of its type for each name of a scope, the state for a masking name, and no other name of a script
  abbrev pub HasSort : Option typing.Sort → Option V → Type 0
  HasSort None None = Unit {0}
  HasSort None (Some v) = ⊥
  HasSort (Some s) None = ⊥
  HasSort (Some (typing.value t)) (Some v) = HasV t v
  HasSort (Some typing.masking_name) (Some (Restore m)) = Unit {0}
  HasSort (Some typing.masking_name) (Some v) = ⊥

  abbrev pub Fits : List typing.TypedName → Env → Type 0
  Fits s env = (x : List ℕ) → HasSort (typing.look s x) (value_at (Written x) env)

  -- what earlier pure functions answer
  abbrev pub FunctionsGood : typing.Ctx → Functions → Type 0
  FunctionsGood c fs = (f : List ℕ) (g : typing.Sig) → typing.find c.sigs f ≡ Some g → g.acts ≡ false → ltb g.place c.here ≡ true → (vs : List V) → AllOf g.params vs → Good g.result (answer fs f vs)

-- ---- trees that a script can have: `&&` and `||` stand in chains from the left alone
abbrev pub IsStrict : BinaryForm → Type 0
IsStrict b.Or = ⊥
IsStrict b.And = ⊥
IsStrict _ = Unit {0}

abbrev mutual
  pub Well : Ex → Type 0
  Well (lit p l) = Unit {0}
  Well (name x es) = WellAll es
  Well (unary o p a) = Well a
  Well (binary o p a e) = IsStrict o × Well a × Well e
  Well (chain a ks) = Well a × WellLinks ks
  Well (conses a ks) = Well a × WellConses ks
  Well (choose p e a g) = Well e × Well a × Well g
  Well (items p es) = WellAll es
  Well (empty o p w) = Unit {0}
  Well (side o p w r a) = Well a
  Well (given x a e) = Well a × Well e
  Well (case p e arms) = Well e × WellArms arms

  pub WellAll : Exs → Type 0
  WellAll none = Unit {0}
  WellAll (more e es) = Well e × WellAll es

  pub WellLinks : Links → Type 0
  WellLinks end = Unit {0}
  WellLinks (link o p e ks) = Well e × WellLinks ks

  pub WellConses : Links → Type 0
  WellConses end = Unit {0}
  WellConses (link o p e ks) = IsStrict o × Well e × WellConses ks

  pub WellArms : Arms → Type 0
  WellArms (maybe_arms a x e) = Well a × Well e
  WellArms (either_arms x a y e) = Well a × Well e
  WellArms (list_arms a x y e) = Well a × Well e
  WellArms (pair_arms x y a) = Well a

-- a cell is of every `MVar` type and each thread is there: that what a cell holds has the type, and how many threads there
-- are, are facts of a state
abbrev pub any_cell : ℕ → T → Type 0
any_cell m t = Unit {0}

-- ---- scripts

-- a pure definition has the type of its result, in the scope of its parameters
abbrev pub BodyTyped : typing.Ctx → Fn → Bd → Type 0
BodyTyped c d (pure_body w e) = Well e × typing.HasType c (params_in [] d.params) e w.ty
BodyTyped c d (io_body w a) = Unit {0}

-- so have all from the definition with number k on
abbrev pub PureTyped : List typing.Sig → ℕ → List Fn → Type 0
PureTyped sigs k [] = Unit {0}
PureTyped sigs k (d ∷ ds) = BodyTyped (record { sigs = sigs; here = k }) d d.body × PureTyped sigs (k + 1) ds
