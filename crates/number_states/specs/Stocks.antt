-- Tables of a search (own): what its numbers stand for.
use Rattle.std.specs.Prelude.{◌≡◌, ℕ, ◌<◌, List, [], Option, Some, None, MatchOption, length, slice_get}
use Rattle.hs_base.specs.declared.mask.Mask.TheVariants.{Unmasked}
use Rattle.hs_base.specs.declared.exn.Exn.{Exn}
use Rattle.hs_base.specs.declared.exn.Exn.TheVariants.{ThreadKilled}
use Rattle.hs_base.specs.declared.value.Value.{Value}
use Rattle.rules_meaning.specs.Values.{V, UnitValue, value_of}
use Rattle.rules_code.specs.declared.code.CodeBody.{CodeBody}
use Rattle.slot_laws.specs.SlotRules.{SlotTerm, ret, at, local}
use Rattle.local_steps.specs.Machine.{funs_of}
use Rattle.number_tables.specs.Tables.{Grows}
use Rattle.term_graph.specs.tables.Numbered.{Numbered, term_in}
use Rattle.term_graph.specs.tables.Numbered as terms
use Rattle.term_graph.specs.declared.stepping.LocalStep.{LocalStep}
use Rattle.term_graph.specs.Eager.{is_eager}

-- terms with their stacks, values, exceptions and texts, each by number
pub record Stock : Type 0 where
  pub terms : Numbered
  pub values : List Value
  pub exceptions : List Exn
  pub texts : List (List ℕ)

abbrev pub stock : Numbered → List Value → List Exn → List (List ℕ) → Stock
stock g vs es ts = record { terms = g; values = vs; exceptions = es; texts = ts }

-- the other has more of each behind those of the one
pub record HasGrown (old new : Stock) : Type 0 where
  pub terms : terms.HasGrown old.terms new.terms
  pub values : Grows old.values new.values
  pub exceptions : Grows old.exceptions new.exceptions
  pub texts : Grows old.texts new.texts

-- ---- what a number stands for: a number of nothing stands for some default

abbrev pub or_unit : Option Value → V
or_unit None = UnitValue
or_unit (Some v) = value_of v

abbrev pub value_at : Stock → ℕ → V
value_at g n = or_unit (slice_get g.values n)

abbrev pub or_killed : Option Exn → Exn
or_killed None = ThreadKilled
or_killed (Some e) = e

abbrev pub exception_at : Stock → ℕ → Exn
exception_at g n = or_killed (slice_get g.exceptions n)

abbrev pub or_empty : Option (List ℕ) → List ℕ
or_empty None = []
or_empty (Some t) = t

abbrev pub text_at : Stock → ℕ → List ℕ
text_at g n = or_empty (slice_get g.texts n)

abbrev pub or_bare : Option SlotTerm → SlotTerm
or_bare None = at (ret UnitValue) []
or_bare (Some st) = st

abbrev pub term_at : Stock → CodeBody → ℕ → SlotTerm
term_at g b n = or_bare (term_in g.terms b n)

-- ---- numbers of something

-- a value of this meaning has this number
abbrev pub IsValue : Stock → ℕ → V → Type 0
IsValue g n v = (one : Value) × (slice_get g.values n ≡ Some one) × (value_of one ≡ v)

-- the term of a number is there, with its stack
pub record IsTerm (g : Stock) (n : ℕ) : Type 0 where
  pub there : n < length g.terms.terms
  pub term : (b : CodeBody) → (st : SlotTerm) × (term_in g.terms b n ≡ Some st)

-- the term of a number after its next local rule, and whether the next one of that is eager; or nothing, as it has none
abbrev pub HasStepped : CodeBody → Stock → Stock → ℕ → Option LocalStep → Type 0
HasStepped b g h n found =
    let st = term_at g b n in
    MatchOption found (local (funs_of b) Unmasked st.part st.frames ≡ None)
    (λ s. (local (funs_of b) Unmasked st.part st.frames ≡ Some (term_at h b s.term)) × (s.eager ≡ is_eager (funs_of b) st))
