-- What a step of the checker does.
use Rattle.std.specs.Prelude.{◌≡◌, List, [], ◌∷◌, ◌++◌, ◌-◌, ◌≤◌, length, drop, Bool, true, false, cond, Option, Some, None}
use Rattle.hs_base.specs.declared.pos.Pos.{Pos}
use Rattle.hs_base.specs.declared.tree.expr.Name.{Name}
use Rattle.rules_expansion.specs.trees.Trees.{T, Links}
use Rattle.rules_typing.specs.Typing.{Ctx, TypedName, bound, Fault, Need, refusal}
use Rattle.rules_expansion.specs.trees.Programs.{Bl}
use Rattle.typing_judge.specs.Judging.{Found, Founds, met, operand_faults, operand_types}
use Rattle.typing_judge.specs.JudgingActions.{judge_bl}
use Rattle.typing_judge.specs.Least.{least}
use Rattle.typing_table.specs.declared.table.TypeNode.{TypeNode}
use Rattle.typing_parts.specs.Views.{scope_of, kept_of}
use Rattle.typing_parts.specs.declared.checker.Checker.{Checker}

-- what the names of the scope are, by the table of types
abbrev pub names : List TypeNode → Checker → List TypedName
names ms c = scope_of ms c.scope.items

-- what is kept of the broken rules
abbrev pub kept : List TypeNode → Checker → Option Fault
kept ms c = kept_of ms c.first.fault

-- the scope stays, these faults are noted, and this is the type
pub record Judged (ms : List TypeNode) (old new : Checker) (t : Option T) (x : Found) : Type 0 where
  pub scope : names ms new ≡ names ms old
  pub type : t ≡ x.type
  pub faults : kept ms new ≡ least (kept ms old) x.faults

pub record JudgedAll (ms : List TypeNode) (old new : Checker) (ts : Option (List T)) (x : Founds) : Type 0 where
  pub scope : names ms new ≡ names ms old
  pub types : ts ≡ x.types
  pub faults : kept ms new ≡ least (kept ms old) x.faults

abbrev pub unmet1 : Pos → Need → List Fault
unmet1 p n = cond (met n) [] (refusal p n ∷ [])

pub record Needed (ms : List TypeNode) (old new : Checker) (b : Bool) (p : Pos) (n : Need) : Type 0 where
  pub scope : names ms new ≡ names ms old
  pub is : b ≡ met n
  pub faults : kept ms new ≡ least (kept ms old) (unmet1 p n)

-- the faults of needs that follow one another: at most the first
abbrev pub unmet : Pos → List Need → List Fault
unmet p [] = []
unmet p (n ∷ ns) = cond (met n) (unmet p ns) (refusal p n ∷ [])

abbrev pub all_met : List Need → Bool
all_met [] = true
all_met (n ∷ ns) = cond (met n) (all_met ns) false

pub record AllNeeded (ms : List TypeNode) (old new : Checker) (b : Bool) (p : Pos) (ns : List Need) : Type 0 where
  pub scope : names ms new ≡ names ms old
  pub holds : b ≡ all_met ns
  pub faults : kept ms new ≡ least (kept ms old) (unmet p ns)

-- a name was bound where it has a type
abbrev pub BegunBy : List TypeNode → Option T → Checker → Checker → Bool → Name → Type 0
BegunBy ms None old new b x = (b ≡ false) × (names ms new ≡ names ms old) × (kept ms new ≡ kept ms old)
BegunBy ms (Some t) old new b x = (b ≡ true) × (names ms new ≡ bound x t ∷ names ms old) × (kept ms new ≡ kept ms old)

abbrev pub Begun : List TypeNode → Checker → Checker → Bool → Name → Option T → Type 0
Begun ms old new b x t = BegunBy ms t old new b x

abbrev pub pushed : {A : Type 0} → Option (List A) → Option A → Option (List A)
pushed None t = None
pushed (Some ts) None = None
pushed (Some ts) (Some t) = Some (ts ++ t ∷ [])

-- the rule that a name after `restore` breaks was noted
abbrev pub UnmaskedBy : List TypeNode → Option Fault → Checker → Checker → Bool → Type 0
UnmaskedBy ms None old new b = (b ≡ true) × (names ms new ≡ names ms old) × (kept ms new ≡ kept ms old)
UnmaskedBy ms (Some f) old new b = (b ≡ false) × (names ms new ≡ names ms old) × (kept ms new ≡ least (kept ms old) (f ∷ []))

abbrev pub Unmasked : List TypeNode → Checker → Checker → Bool → Option Fault → Type 0
Unmasked ms old new b o = UnmaskedBy ms o old new b

-- after a statement the rest of the block is judged, or nothing more is
abbrev pub Goes : Bool → Found → Found → Option Fault → Option Fault → Type 0
Goes true whole rest old new = (whole.type ≡ rest.type) × (least old whole.faults ≡ least new rest.faults)
Goes false whole rest old new = (whole.type ≡ None) × (least old whole.faults ≡ new)

pub record Stated (ms : List TypeNode) (c : Ctx) (old new : Checker) (b : Bool) (st : Bl → Bl) : Type 0 where
  pub long : length (names ms old) ≤ length (names ms new)
  pub back : drop (length (names ms new) - length (names ms old)) (names ms new) ≡ names ms old
  pub goes : (rest : Bl) → Goes b (judge_bl c (names ms old) (st rest)) (judge_bl c (names ms new) rest) (kept ms old) (kept ms new)

-- the types of the operands were gathered
pub record Gathered (ms : List TypeNode) (c : Ctx) (old new : Checker) (first : Option T) (ts : List (Option T)) (ks : Links) : Type 0 where
  pub scope : names ms new ≡ names ms old
  pub types : ts ≡ first ∷ operand_types c (names ms old) ks
  pub faults : kept ms new ≡ least (kept ms old) (operand_faults c (names ms old) ks)
