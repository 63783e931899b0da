-- What a list of throws, with its tables, means.
use Rattle.std.specs.Prelude.{◌≡◌, ◌≢◌, ℕ, ◌+◌, ◌-◌, ◌<◌, ◌≤◌, min, List, [], ◌∷◌, length, take, slice_index_or, slice_set, Option, Some, None, IsSome, nat_eq}
use Rattle.std.specs.HashMap.{get, spare}
use Rattle.hs_base.specs.declared.exn.Exn.{Exn}
use Rattle.rules_waiting.specs.Waiting.{Flying}
use Rattle.exn_flight.specs.declared.throws.Throw.{Throw}
use Rattle.exn_flight.specs.declared.throws.Throws.{Throws}

abbrev pub no_throw : Throw
no_throw = record { thrower = 0; target = 0; exn = None; next = 0 }

abbrev pub throw_at : List Throw → ℕ → Throw
throw_at ts i = slice_index_or ts i no_throw

-- this throw's exception is in flight
abbrev pub IsLive : List Throw → ℕ → Type 0
IsLive ts i = IsSome (throw_at ts i).exn

abbrev pub with_exn : ℕ → ℕ → Option Exn → List Flying → List Flying
with_exn t u None fs = fs
with_exn t u (Some e) fs = record { thrower = t; target = u; exn = e } ∷ fs

-- the exceptions in flight
abbrev pub flying : List Throw → List Flying
flying [] = []
flying (t ∷ ts) = with_exn t.thrower t.target t.exn (flying ts)

-- the last throw is followed by the one at this place
abbrev pub followed : List Throw → Option ℕ → ℕ → List Throw
followed ts None place = ts
followed ts (Some last) place = slice_set ts last (record (throw_at ts last) { next = place })

-- place k is before this one, where 0 is the end
abbrev pub IsBefore : ℕ → ℕ → Type 0
IsBefore k next = next ≢ 0 → k < next

-- behind place i, the first throw at u is this next one, or none if it is 0
pub record IsFollowed (ts : List Throw) (u i next : ℕ) : Type 0 where
  pub behind : next ≢ 0 → (i < next) × (next < length ts) × ((throw_at ts next).target ≡ u)
  pub between : (k : ℕ) → i < k → k < length ts → IsBefore k next → (throw_at ts k).target ≢ u

abbrev pub AreLinked : List Throw → Type 0
AreLinked ts = (i : ℕ) → i < length ts → IsFollowed ts (throw_at ts i).target i (throw_at ts i).next

-- none of the throws before this place is in flight to u
abbrev pub NoneBefore : List Throw → ℕ → ℕ → Type 0
NoneBefore ts u i = (k : ℕ) → k < i → IsLive ts k → (throw_at ts k).target ≢ u

abbrev pub NoneTo : List Throw → ℕ → Type 0
NoneTo ts u = (k : ℕ) → IsLive ts k → (throw_at ts k).target ≢ u

-- the first in flight to u is at this place, unless it is the one that is gone
pub record IsFirstBut (gone : ℕ) (ts : List Throw) (u i : ℕ) : Type 0 where
  pub live : i ≢ gone → IsLive ts i
  pub target : (throw_at ts i).target ≡ u
  pub before : NoneBefore ts u i

pub record AreFirstsBut (gone : ℕ) (ts : List Throw) (firsts : ℕ → Option ℕ) : Type 0 where
  pub some : (u i : ℕ) → firsts u ≡ Some i → IsFirstBut gone ts u i
  pub none : (u : ℕ) → firsts u ≡ None → NoneTo ts u

-- the first in flight to each target
pub record IsFirst (ts : List Throw) (u i : ℕ) : Type 0 where
  pub live : IsLive ts i
  pub target : (throw_at ts i).target ≡ u
  pub before : NoneBefore ts u i

pub record AreFirsts (ts : List Throw) (firsts : ℕ → Option ℕ) : Type 0 where
  pub some : (u i : ℕ) → firsts u ≡ Some i → IsFirst ts u i
  pub none : (u : ℕ) → firsts u ≡ None → NoneTo ts u

-- the last throw at u, over or not
pub record IsLast (ts : List Throw) (u i : ℕ) : Type 0 where
  pub within : i < length ts
  pub target : (throw_at ts i).target ≡ u
  pub behind : (k : ℕ) → i < k → k < length ts → (throw_at ts k).target ≢ u

pub record AreLasts (ts : List Throw) (lasts : ℕ → Option ℕ) : Type 0 where
  pub some : (u i : ℕ) → lasts u ≡ Some i → IsLast ts u i
  pub none : (u : ℕ) → lasts u ≡ None → (k : ℕ) → k < length ts → (throw_at ts k).target ≢ u

-- where each thrower's exception is
pub record AreAt (ts : List Throw) (throwers : ℕ → Option ℕ) : Type 0 where
  pub place : (t i : ℕ) → throwers t ≡ Some i → IsLive ts i × ((throw_at ts i).thrower ≡ t)
  pub thrower : (i : ℕ) → IsLive ts i → throwers (throw_at ts i).thrower ≡ Some i

pub record AreThrows (ts : List Throw) (throwers firsts lasts : ℕ → Option ℕ) : Type 0 where
  pub at : AreAt ts throwers
  pub first : AreFirsts ts firsts
  pub last : AreLasts ts lasts
  pub links : AreLinked ts

-- ---- a search for the next in flight at a place's target
-- none is in flight behind this place to its target
abbrev pub NoneBehind : List Throw → ℕ → Type 0
NoneBehind ts place = (k : ℕ) → place < k → IsLive ts k → (throw_at ts k).target ≢ (throw_at ts place).target

pub record IsNextLive (ts : List Throw) (place i : ℕ) : Type 0 where
  pub behind : place < i
  pub live : IsLive ts i
  pub target : (throw_at ts i).target ≡ (throw_at ts place).target
  pub between : (k : ℕ) → place < k → k < i → IsLive ts k → (throw_at ts k).target ≢ (throw_at ts place).target

-- a search from this place has come to another, or to the end
pub record HasSearched (ts : List Throw) (place at : ℕ) : Type 0 where
  pub behind : at ≢ 0 → (place < at) × (at < length ts) × ((throw_at ts at).target ≡ (throw_at ts place).target)
  pub passed : (k : ℕ) → place < k → IsLive ts k → IsBefore k at → (throw_at ts k).target ≢ (throw_at ts place).target

-- ---- throws with their tables
abbrev pub IsSound : Throws → Type 0
IsSound a = AreThrows a.list.items (get nat_eq a.throwers) (get nat_eq a.firsts) (get nat_eq a.lasts)

abbrev pub spare_of : Throws → ℕ
spare_of a = min (a.list.cap - length a.list.items) (min (spare a.throwers) (min (spare a.firsts) (spare a.lasts)))

pub record IsEmpty (a : Throws) : Type 0 where
  pub list : a.list.items ≡ []
  pub throwers : a.throwers.entries ≡ []
  pub firsts : a.firsts.entries ≡ []
  pub lasts : a.lasts.entries ≡ []

-- the exceptions in flight of the first places are moved from this list, which is changed there, and so many throws fitted
pub record Refills (ts us : List Throw) (n : ℕ) (a : Throws) (at : ℕ) : Type 0 where
  pub size : length us ≡ length ts
  pub rest : (k : ℕ) → at ≤ k → throw_at us k ≡ throw_at ts k
  pub sound : IsSound a
  pub list : flying a.list.items ≡ flying (take at ts)
  pub spare : n ≤ spare_of a + length (flying (take at ts))
