-- The typing rules of core actions (own): what sort of value an action gives, in a scope.
--
-- The rules follow those of actions (`rules_typing/specs/TypingActions`) where a script writes the form, and say the sorts of
-- the names that expansions add.
use Rattle.std.specs.Prelude.{◌≡◌, ℕ, true, List, [], ◌∷◌, Some}
use Rattle.rules_expansion.specs.trees.Trees.{T, unit, int, bool, text, thread, exn, pair, maybe, either, list, cell, Exs}
use Rattle.rules_expansion.specs.declared.hidden.Hidden.{Hidden}
use Rattle.rules_expansion.specs.declared.hidden.Hidden.TheVariants as h
use Rattle.rules_expansion.specs.Names.{Name, Written, Added, Unread}
use Rattle.rules_sorts.specs.Sorts.{Sort, a_value, a_masking_name, an_instance, a_scope_cell, SortedName}
use Rattle.rules_typing.specs.Typing as typing
use Rattle.rules_sorts.specs.TypedMeaning.{WellAll}
use Rattle.rules_expansion.specs.Core.{CoreEx, Core, Return, ThrowIo, Let, Bind, If, CaseMaybe, CaseEither, CaseList, CasePair, Call, Perform, Fork, ForkUnmask, Catch, MaskWith, MaskHard, Restore}
use Rattle.rules_expansion.specs.declared.primitive.Primitive.{Primitive}
use Rattle.rules_expansion.specs.declared.primitive.Primitive.TheVariants.{PutStr, PutStrLn, HPutStrLn, NewMVar, NewEmptyMVar, TakeMVar, PutMVar, ReadMVar, TryTakeMVar, TryPutMVar, MyThreadId, GetMaskingState, ClockMicros, ThreadDelay, ThrowTo, NewTimeout, Acquired, Release}
use Rattle.hs_soundness.specs.CoreSorts.{written_in, IsThere, CoreHas}

-- ---- names

-- the cell of a scope is bound to one name
abbrev pub IsScopeCell : Sort → Type 0
IsScopeCell (a_value t) = ⊥
IsScopeCell a_masking_name = ⊥
IsScopeCell an_instance = ⊥
IsScopeCell (a_scope_cell t) = Unit {0}

abbrev pub IsOther : Sort → Type 0
IsOther (a_value t) = Unit {0}
IsOther a_masking_name = Unit {0}
IsOther an_instance = Unit {0}
IsOther (a_scope_cell t) = ⊥

abbrev pub BindsAdded : Hidden → Sort → Type 0
BindsAdded h.ScopeCell k = IsScopeCell k
BindsAdded h k = IsOther k

-- A name takes a slot for a value of this sort: something may read it, no name of a script is an instance or the cell of a
-- scope, and that cell has its own name.
abbrev pub Binds : Name → Sort → Type 0
Binds (Written x) (a_value t) = Unit {0}
Binds (Written x) a_masking_name = Unit {0}
Binds (Written x) an_instance = ⊥
Binds (Written x) (a_scope_cell t) = ⊥
Binds Unread k = ⊥
Binds (Added h) k = BindsAdded h k

-- a scope with one name more
abbrev pub with_bound : Name → Sort → List SortedName → List SortedName
with_bound y k g = record { name = y; sort = k } ∷ g

-- each name of the scope may have its sort
abbrev pub Tidy : List SortedName → Type 0
Tidy [] = Unit {0}
Tidy (c ∷ g) = Binds c.name c.sort × Tidy g

-- a scope whose names of the script are these, as the typing rules see them
pub record Sees (g : List SortedName) (s : List typing.TypedName) : Type 0 where
  pub tidy : Tidy g
  pub same : written_in g ≡ s

-- ---- primitives: the sorts of what they take, and of what they answer

pub data Asks : Primitive → List Sort → Sort → Type 0 where
  asks_put_str : Asks PutStr (a_value text ∷ []) (a_value unit)
  asks_put_str_ln : Asks PutStrLn (a_value text ∷ []) (a_value unit)
  asks_h_put_str_ln : Asks HPutStrLn (a_value text ∷ []) (a_value unit)
  asks_new : {t : T} → Asks NewMVar (a_value t ∷ []) (a_value (cell t))
  asks_new_empty : {t : T} → Asks NewEmptyMVar [] (a_value (cell t))
  asks_new_scope_cell : {t : T} → Asks NewEmptyMVar [] (a_scope_cell t)
  asks_take : {t : T} → Asks TakeMVar (a_value (cell t) ∷ []) (a_value t)
  asks_put : {t : T} → Asks PutMVar (a_value (cell t) ∷ a_value t ∷ []) (a_value unit)
  asks_put_end : {t : T} → Asks PutMVar (a_scope_cell t ∷ a_value (either exn t) ∷ []) (a_value unit)
  asks_read : {t : T} → Asks ReadMVar (a_value (cell t) ∷ []) (a_value t)
  asks_read_end : {t : T} → Asks ReadMVar (a_scope_cell t ∷ []) (a_value (either exn t))
  asks_try_take : {t : T} → Asks TryTakeMVar (a_value (cell t) ∷ []) (a_value (maybe t))
  asks_try_put : {t : T} → Asks TryPutMVar (a_value (cell t) ∷ a_value t ∷ []) (a_value bool)
  asks_my_thread : Asks MyThreadId [] (a_value thread)
  asks_masking : Asks GetMaskingState [] (a_value text)
  asks_clock : Asks ClockMicros [] (a_value int)
  asks_delay : Asks ThreadDelay (a_value int ∷ []) (a_value unit)
  asks_throw_to : Asks ThrowTo (a_value thread ∷ a_value exn ∷ []) (a_value unit)
  asks_new_timeout : Asks NewTimeout [] (a_value exn)
  asks_acquired : Asks Acquired [] an_instance
  asks_release : Asks Release (an_instance ∷ []) (a_value unit)

-- expressions of these sorts, one of each
pub data CoreAllHave (c : typing.Ctx) (g : List SortedName) : List CoreEx → List Sort → Type 0 where
  no_more : CoreAllHave c g [] []
  one_more : {e : CoreEx} {k : Sort} {es : List CoreEx} {ks : List Sort} → CoreHas c g e k → CoreAllHave c g es ks → CoreAllHave c g (e ∷ es) (k ∷ ks)

-- ---- actions

pub data Does (c : typing.Ctx) : List SortedName → Core → Sort → Type 0 where
  does_return : {g : List SortedName} {e : CoreEx} {k : Sort} → CoreHas c g e k → Does c g (Return e) k
  does_throw : {g : List SortedName} {e : CoreEx} {k : Sort} → CoreHas c g e (a_value exn) → Does c g (ThrowIo e) k
  does_let : {g : List SortedName} {y : Name} {e : CoreEx} {a : Core} {j k : Sort} → Binds y j → CoreHas c g e j → Does c (with_bound y j g) a k → Does c g (Let y e a) k
  does_bind : {g : List SortedName} {y : Name} {a b : Core} {j k : Sort} → Binds y j → Does c g a j → Does c (with_bound y j g) b k → Does c g (Bind y a b) k
  does_then : {g : List SortedName} {a b : Core} {j k : Sort} → Does c g a j → Does c g b k → Does c g (Bind Unread a b) k
  does_if : {g : List SortedName} {e : CoreEx} {a b : Core} {k : Sort} → CoreHas c g e (a_value bool) → Does c g a k → Does c g b k → Does c g (If e a b) k
  does_maybe : {g : List SortedName} {e : CoreEx} {x : Name} {a b : Core} {t : T} {k : Sort} → Binds x (a_value t) →
      CoreHas c g e (a_value (maybe t)) → Does c g a k → Does c (with_bound x (a_value t) g) b k → Does c g (CaseMaybe e a x b) k
  does_either : {g : List SortedName} {e : CoreEx} {x y : Name} {a b : Core} {s t : T} {k : Sort} → Binds x (a_value s) → Binds y (a_value t) →
      CoreHas c g e (a_value (either s t)) → Does c (with_bound x (a_value s) g) a k → Does c (with_bound y (a_value t) g) b k → Does c g (CaseEither e x a y b) k
  does_list : {g : List SortedName} {e : CoreEx} {x y : Name} {a b : Core} {t : T} {k : Sort} → Binds x (a_value t) → Binds y (a_value (list t)) →
      CoreHas c g e (a_value (list t)) → Does c g a k → Does c (with_bound y (a_value (list t)) (with_bound x (a_value t) g)) b k → Does c g (CaseList e a x y b) k
  does_pair : {g : List SortedName} {e : CoreEx} {x y : Name} {b : Core} {s t : T} {k : Sort} → Binds x (a_value s) → Binds y (a_value t) →
      CoreHas c g e (a_value (pair s t)) → Does c (with_bound y (a_value t) (with_bound x (a_value s) g)) b k → Does c g (CasePair e x y b) k
  does_call : {g : List SortedName} {f : List ℕ} {es : Exs} (sig : typing.Sig) → typing.find c.sigs f ≡ Some sig
      → sig.acts ≡ true →
      WellAll es → typing.HaveTypes c (written_in g) es sig.params → Does c g (Call f es) (a_value sig.result)
  does_perform : {g : List SortedName} {p : Primitive} {es : List CoreEx} {ks : List Sort} {k : Sort} → Asks p ks k → CoreAllHave c g es ks → Does c g (Perform p es) k
  does_fork : {g : List SortedName} {a : Core} {j : Sort} → Does c g a j → Does c g (Fork a) (a_value thread)
  does_fork_unmask : {g : List SortedName} {r : Name} {a : Core} {j : Sort} → Binds r a_masking_name → Does c (with_bound r a_masking_name g) a j → Does c g (ForkUnmask r a) (a_value thread)
  does_catch : {g : List SortedName} {x : Name} {a b : Core} {k : Sort} → Binds x (a_value exn) → Does c g a k → Does c (with_bound x (a_value exn) g) b k → Does c g (Catch a x b) k
  does_mask : {g : List SortedName} {r : Name} {a : Core} {k : Sort} → Binds r a_masking_name → Does c (with_bound r a_masking_name g) a k → Does c g (MaskWith r a) k
  does_mask_hard : {g : List SortedName} {r : Name} {a : Core} {k : Sort} → Binds r a_masking_name → Does c (with_bound r a_masking_name g) a k → Does c g (MaskHard r a) k
  does_restore : {g : List SortedName} {r : Name} {a : Core} {k : Sort} → IsThere g r a_masking_name → Does c g a k → Does c g (Restore r a) k

-- ---- action functions

-- A scope with parameters: names of the script, with the types of a head, the last one first.
pub data Takes : List SortedName → List Name → List T → List SortedName → Type 0 where
  takes_none : {g : List SortedName} → Takes g [] [] g
  takes_one : {g h : List SortedName} {x : List ℕ} {ps : List Name} {t : T} {ts : List T} → Takes (with_bound (Written x) (a_value t) g) ps ts h → Takes g (Written x ∷ ps) (t ∷ ts) h
