-- ValueList and environments.
--
-- A value is the mirror of the value that the code holds, with lists as `Nil` and `Cons`, so that definitions go by
-- cases. An environment is a list of names with values, the last bound first: a later name hides an earlier equal one
-- (own).
use Rattle.std.specs.Prelude.{ℕ, ℤ, Bool, cond, List, [], ◌∷◌, Option, Some, None}
use Rattle.hs_base.specs.declared.mask.Mask.{Mask}
use Rattle.hs_base.specs.declared.exn.Exn.{Exn}
use Rattle.hs_base.specs.declared.value.Value.{Value}
use Rattle.hs_base.specs.declared.value.ValueList.{ValueList}
use Rattle.hs_base.specs.declared.value.Value.TheOpen.{Value-F, ValueList-F, Head-F}
use Rattle.hs_base.specs.declared.value.Value.TheFolds.{fold-Value, fold-ValueList}
use Rattle.rules_expansion.specs.Names.{Name, Written, Added, same_name, Unread}

-- ---- values

pub data V : Type 0 where
  UnitValue : V
  Int : ℤ → V
  Truth : Bool → V
  Text : List ℕ → V
  Pair : V → V → V
  Nothing : V
  Just : V → V
  Left : V → V
  Right : V → V
  Nil : V
  Cons : V → V → V
  -- an `MVar`, by its number
  Cell : ℕ → V
  -- a `ThreadId`, by its number
  Thread : ℕ → V
  Exception : Exn → V
  -- what a masking name stands for: the state that `restore` goes back to
  Restore : Mask → V
  -- the number of one use of `bracket`
  Inst : ℕ → V
  deriving IsSet as value_set

-- the list of these
abbrev pub list_of : List V → V
list_of [] = Nil
list_of (v ∷ vs) = Cons v (list_of vs)

-- a list is mirrored to `Nil` or `Cons`, and what stands before it to the two parts of a `Cons`
abbrev pub value_step : Value-F V V (V × V) → V
value_step Value-F.Unit = UnitValue
value_step (Value-F.Int n) = Int n
value_step (Value-F.Bool b) = Truth b
value_step (Value-F.Text t) = Text t
value_step (Value-F.Pair a b) = Pair a b
value_step Value-F.Nothing = Nothing
value_step (Value-F.Just a) = Just a
value_step (Value-F.Left a) = Left a
value_step (Value-F.Right a) = Right a
value_step (Value-F.List vs) = vs
value_step (Value-F.Cell n) = Cell n
value_step (Value-F.Thread n) = Thread n
value_step (Value-F.Exn e) = Exception e
value_step (Value-F.Restore m) = Restore m
value_step (Value-F.Inst n) = Inst n

abbrev pub list_step : ValueList-F V V (V × V) → V
list_step ValueList-F.Nil = Nil
list_step (ValueList-F.Cons head) = Cons head.0 head.1

abbrev pub head_step : Head-F V V (V × V) → V × V
head_step head = (head.first, head.rest)

-- the mirror of a value that the code holds
abbrev pub value_of : Value → V
value_of = fold-Value V V (V × V) value_step list_step head_step

-- the mirror of a list of the code
abbrev pub list_value_of : ValueList → V
list_value_of = fold-ValueList V V (V × V) value_step list_step head_step

abbrev pub values_of : List Value → List V
values_of [] = []
values_of (v ∷ vs) = value_of v ∷ values_of vs

-- ---- environments

pub record Binding : Type 0 where
  pub name : Name
  pub value : V

abbrev pub Env : Type 0
Env = List Binding

-- a name bound to a value; what nothing reads isn't kept (own)
abbrev pub with_name : Name → V → Env → Env
with_name (Written x) v env = record { name = Written x; value = v } ∷ env
with_name Unread v env = env
with_name (Added h) v env = record { name = Added h; value = v } ∷ env

-- the value of a name: the last bound
abbrev pub value_at : Name → Env → Option V
value_at x [] = None
value_at x (b ∷ bs) = cond (same_name x b.name) (Some b.value) (value_at x bs)

-- ---- what an expression gives

-- A value, an exception, or nothing where the typing rules are broken.
pub data Outcome : Type 0 where
  Gives : V → Outcome
  Throws : Exn → Outcome
  Stuck : Outcome

-- what a list of expressions gives: all values, the first exception, or nothing
pub data Outcomes : Type 0 where
  AllGive : List V → Outcomes
  OneThrows : Exn → Outcomes
  OneStuck : Outcomes

abbrev pub and_one : V → Outcomes → Outcomes
and_one v (AllGive vs) = AllGive (v ∷ vs)
and_one v (OneThrows e) = OneThrows e
and_one v OneStuck = OneStuck

-- from the left to the right: what follows an exception isn't evaluated
abbrev pub and_then : Outcome → Outcomes → Outcomes
and_then (Gives v) rest = and_one v rest
and_then (Throws e) rest = OneThrows e
and_then Stuck rest = OneStuck
