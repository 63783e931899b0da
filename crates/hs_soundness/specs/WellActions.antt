-- Actions and blocks that a script can have (own): so are all their expressions.
use Rattle.rules_expansion.specs.trees.Programs.{SurfaceAction, bare, unary_act, binary_act, throw_io, new_empty, call, choose_act, case_act, modify, scoped, masking, restore, catch, guard, bracket, timeout, with_async, Bl, last, then, bind, let_in, ActArms, maybe_acts, either_acts, list_acts, pair_acts}
use Rattle.rules_sorts.specs.TypedMeaning.{Well, WellAll}

abbrev mutual
  pub WellAct : SurfaceAction → Type 0
  WellAct (bare o p) = Unit {0}
  WellAct (unary_act o p e) = Well e
  WellAct (binary_act o p e f) = Well e × Well f
  WellAct (throw_io p w e) = Well e
  WellAct (new_empty p w) = Unit {0}
  WellAct (call f es) = WellAll es
  WellAct (choose_act p e a c) = Well e × WellBl a × WellBl c
  WellAct (case_act p e arms) = Well e × WellActArms arms
  WellAct (modify p e x a) = Well e × WellBl a
  WellAct (scoped o p a) = WellBl a
  WellAct (masking o p x a) = WellBl a
  WellAct (restore p x a) = WellBl a
  WellAct (catch p a x c) = WellBl a × WellBl c
  WellAct (guard o p a c) = WellBl a × WellBl c
  WellAct (bracket p a x c d) = WellBl a × WellBl c × WellBl d
  WellAct (timeout p e a) = Well e × WellBl a
  WellAct (with_async p a x c) = WellBl a × WellBl c

  pub WellBl : Bl → Type 0
  WellBl (last a) = WellAct a
  WellBl (then a c) = WellAct a × WellBl c
  WellBl (bind x a c) = WellAct a × WellBl c
  WellBl (let_in x e c) = Well e × WellBl c

  pub WellActArms : ActArms → Type 0
  WellActArms (maybe_acts a x c) = WellBl a × WellBl c
  WellActArms (either_acts x a y c) = WellBl a × WellBl c
  WellActArms (list_acts a x y c) = WellBl a × WellBl c
  WellActArms (pair_acts x y a) = WellBl a
