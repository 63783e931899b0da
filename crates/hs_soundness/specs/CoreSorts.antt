-- The sorts of the expressions of core actions, and when an environment fits their scope (own).
--
-- The scope of a core action has the names of the script and those that expansions add, each with its sort. The typing
-- rules see those of the script alone. Which value is of which type goes by `TypedMeaning`, where `cells` says which number
-- is of which type.
use Rattle.std.specs.Prelude.{◌≡◌, ◌⊎◌, ℕ, false, List, [], ◌∷◌, map, Option, Some, None}
use Rattle.rules_expansion.specs.trees.Trees.{T, unit, int, bool, thread, exn, pair, maybe, either, async}
use Rattle.rules_expansion.specs.Names.{Name, Written, Added, Unread}
use Rattle.rules_meaning.specs.Values.{V, Restore, Inst, Env, value_at, Outcome, Gives, Throws, Stuck}
use Rattle.rules_sorts.specs.Sorts.{Sort, a_value, a_masking_name, an_instance, a_scope_cell, SortedName, sort_at}
use Rattle.rules_typing.specs.Typing as typing
use Rattle.rules_sorts.specs.TypedMeaning.{of_cell, HasV, Well}
use Rattle.rules_code.specs.Slots.{Scope}
use Rattle.rules_code.specs.CodeTrees.{is_unread}
use Rattle.rules_expansion.specs.Core.{CoreEx, OfScript, Read, JustRead, NoValue, BelowZero, IsZero, SameExn, Killed, Nil, LeftRead, RightRead, RightLeft, RightRight, RightNil, PairRead, FirstOf, SecondOf}
use Rattle.rules_code.specs.Matching.{Matches}

-- ---- scopes

-- the names, the last bound first; the slot of one is how many stand before it
abbrev pub names_of : List SortedName → Scope
names_of g = map (λ b. b.name) g

-- as the typing rules see a name of the script; an instance and the cell of a scope have no written name
abbrev pub seen_as : Sort → typing.Sort
seen_as (a_value t) = typing.value t
seen_as a_masking_name = typing.masking_name
seen_as an_instance = typing.masking_name
seen_as (a_scope_cell t) = typing.masking_name

abbrev pub with_written : Name → Sort → List typing.TypedName → List typing.TypedName
with_written (Written x) k s = record { spelling = x; sort = seen_as k } ∷ s
with_written (Added h) k s = s
with_written Unread k s = s

-- the names of the script in a scope
abbrev pub written_in : List SortedName → List typing.TypedName
written_in [] = []
written_in (b ∷ g) = with_written b.name b.sort (written_in g)

-- ---- expressions

-- a name of the scope, of that sort, which something may read
abbrev pub IsThere : List SortedName → Name → Sort → Type 0
IsThere g y k = (is_unread y ≡ false) × (sort_at y g ≡ Some k)

-- an expression of a core action has this sort: one of the script as the typing rules say, one that an expansion writes by the names that it reads
abbrev pub CoreHas : typing.Ctx → List SortedName → CoreEx → Sort → Type 0
CoreHas c g (OfScript e) k = (t : T) × Well e × typing.HasType c (written_in g) e t × (k ≡ a_value t)
CoreHas c g (Read y) k = IsThere g y k
CoreHas c g (JustRead y) k = (t : T) × IsThere g y (a_value t) × (k ≡ a_value (maybe t))
CoreHas c g NoValue k = (t : T) × (k ≡ a_value (maybe t))
CoreHas c g (BelowZero y) k = IsThere g y (a_value int) × (k ≡ a_value bool)
CoreHas c g (IsZero y) k = IsThere g y (a_value int) × (k ≡ a_value bool)
CoreHas c g (SameExn y z) k = IsThere g y (a_value exn) × IsThere g z (a_value exn) × (k ≡ a_value bool)
CoreHas c g Killed k = k ≡ a_value exn
CoreHas c g Nil k = k ≡ a_value unit
CoreHas c g (LeftRead y) k = (s t : T) × IsThere g y (a_value s) × (k ≡ a_value (either s t))
CoreHas c g (RightRead y) k = (s t : T) × IsThere g y (a_value t) × (k ≡ a_value (either s t))
CoreHas c g (RightLeft y) k = (r s t : T) × IsThere g y (a_value s) × (k ≡ a_value (either r (either s t)))
CoreHas c g (RightRight y) k = (r s t : T) × IsThere g y (a_value t) × (k ≡ a_value (either r (either s t)))
CoreHas c g RightNil k = (s : T) × (k ≡ a_value (either s unit))
-- an async of a thread and the cell of its scope, or a pair
CoreHas c g (PairRead y z) k =
    ((t : T) × IsThere g y (a_value thread) × IsThere g z (a_scope_cell t) × (k ≡ a_value (async t)))
    ⊎ ((s t : T) × IsThere g y (a_value s) × IsThere g z (a_value t) × (k ≡ a_value (pair s t)))
CoreHas c g (FirstOf y) k = (t : T) × IsThere g y (a_value (async t)) × (k ≡ a_value thread)
CoreHas c g (SecondOf y) k = (t : T) × IsThere g y (a_value (async t)) × (k ≡ a_scope_cell t)

-- ---- environments

abbrev pub of_masking : V → Type 0
of_masking (Restore m) = Unit {0}
of_masking _ = ⊥

abbrev pub of_instance : V → Type 0
of_instance (Inst m) = Unit {0}
of_instance _ = ⊥

module _ (cells : ℕ → T → Type 0) where
  -- a value of the sort: of the type, the state of a masking name, the number of one use of `bracket`, or the cell of a scope
  abbrev pub OfSort : Sort → V → Type 0
  OfSort (a_value t) = HasV cells t
  OfSort a_masking_name = of_masking
  OfSort an_instance = of_instance
  OfSort (a_scope_cell t) = of_cell (λ m. cells m (async t))

  -- a name has a value of its sort in the environment, and what isn't in the scope has none; no name of a script is an instance or the
  -- cell of a scope
  abbrev pub FitsAt : Name → Option Sort → Option V → Type 0
  FitsAt y None None = Unit {0}
  FitsAt y None (Some v) = ⊥
  FitsAt y (Some k) None = ⊥
  FitsAt (Written x) (Some an_instance) (Some v) = ⊥
  FitsAt (Written x) (Some (a_scope_cell t)) (Some v) = ⊥
  FitsAt (Written x) (Some (a_value t)) (Some v) = OfSort (a_value t) v
  FitsAt (Written x) (Some a_masking_name) (Some v) = OfSort a_masking_name v
  FitsAt (Added h) (Some k) (Some v) = OfSort k v
  FitsAt Unread (Some k) (Some v) = OfSort k v

  abbrev pub FitsScope : List SortedName → Env → Type 0
  FitsScope g env = (y : Name) → FitsAt y (sort_at y g) (value_at y env)

  -- a value of the sort, or an exception
  abbrev pub GoodSort : Sort → Outcome → Type 0
  GoodSort k (Gives v) = OfSort k v
  GoodSort k (Throws e) = Unit {0}
  GoodSort k Stuck = ⊥

  -- The values of slots are an environment that fits a scope: they are those of its names, and each is of its name's sort.
  pub record SlotsFit (g : List SortedName) (env : Env) (vs : List V) : Type 0 where
    pub slots : Matches (names_of g) env vs
    pub sorts : FitsScope g env
