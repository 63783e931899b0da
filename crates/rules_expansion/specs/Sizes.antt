-- Expanded sizes (own): how many nodes an expansion has. One for each bind and each let of a block, each core action, and
-- each node of an expression, the names among them that the expansion reads. What binds a name, the masking name behind
-- `restore`, patterns and types are no nodes.
use Rattle.std.specs.Prelude.{ℕ, ◌+◌, List, [], ◌∷◌}
use Rattle.rules_expansion.specs.trees.Trees.{Ex, Exs, Links, Arms, lit, name, unary, binary, chain, conses, choose, items, empty, side, given, case, none, more, end, link, maybe_arms, either_arms, list_arms, pair_arms}
use Rattle.rules_expansion.specs.Core.{CoreEx, OfScript, Read, JustRead, NoValue, BelowZero, IsZero, SameExn, Killed, Nil, LeftRead, RightRead, RightLeft, RightRight, RightNil, PairRead, FirstOf, SecondOf, Core, Return, ThrowIo, Let, Bind, If, CaseMaybe, CaseEither, CaseList, CasePair, Call, Perform, Fork, ForkUnmask, Catch, MaskWith, MaskHard, Restore}
use Rattle.rules_expansion.specs.trees.Programs.{Bd, pure_body, io_body}
use Rattle.rules_expansion.specs.declared.template.Operand.{Operand}
use Rattle.rules_expansion.specs.declared.template.Operand.TheVariants as x
use Rattle.rules_expansion.specs.declared.template.FormBlock.{FormBlock}
use Rattle.rules_expansion.specs.declared.template.Step.{Step}
use Rattle.rules_expansion.specs.declared.template.Step.TheVariants as s
use Rattle.rules_expansion.specs.Expansion.{block_core}

-- the nodes of an expression: each operator of a chain is one
abbrev mutual
  pub ex_size : Ex → ℕ
  ex_size (lit p l) = 1
  ex_size (name f es) = 1 + exs_size es
  ex_size (unary w p e) = 1 + ex_size e
  ex_size (binary w p e f) = 1 + ex_size e + ex_size f
  ex_size (chain e ks) = ex_size e + links_size ks
  ex_size (conses e ks) = ex_size e + links_size ks
  ex_size (choose p e f g) = 1 + ex_size e + ex_size f + ex_size g
  ex_size (items p es) = 1 + exs_size es
  ex_size (empty w p t) = 1
  ex_size (side w p s t e) = 1 + ex_size e
  ex_size (given x e f) = 1 + ex_size e + ex_size f
  ex_size (case p e arms) = 1 + ex_size e + arms_size arms

  pub exs_size : Exs → ℕ
  exs_size none = 0
  exs_size (more e es) = ex_size e + exs_size es

  pub links_size : Links → ℕ
  links_size end = 0
  links_size (link w p e ks) = 1 + ex_size e + links_size ks

  pub arms_size : Arms → ℕ
  arms_size (maybe_arms e x f) = ex_size e + ex_size f
  arms_size (either_arms x e y f) = ex_size e + ex_size f
  arms_size (list_arms e x y f) = ex_size e + ex_size f
  arms_size (pair_arms x y e) = ex_size e

abbrev pub core_ex_size : CoreEx → ℕ
core_ex_size (OfScript e) = ex_size e
core_ex_size (Read x) = 1
core_ex_size (JustRead x) = 2
core_ex_size NoValue = 1
core_ex_size (BelowZero x) = 3
core_ex_size (IsZero x) = 3
core_ex_size (SameExn x y) = 3
core_ex_size Killed = 1
core_ex_size Nil = 1
core_ex_size (LeftRead x) = 2
core_ex_size (RightRead x) = 2
core_ex_size (RightLeft x) = 3
core_ex_size (RightRight x) = 3
core_ex_size RightNil = 2
core_ex_size (PairRead x y) = 3
core_ex_size (FirstOf x) = 2
core_ex_size (SecondOf x) = 2

abbrev pub core_exs_size : List CoreEx → ℕ
core_exs_size [] = 0
core_exs_size (e ∷ es) = core_ex_size e + core_exs_size es

-- the nodes of a core action
abbrev pub core_size : Core → ℕ
core_size (Return e) = 1 + core_ex_size e
core_size (ThrowIo e) = 1 + core_ex_size e
core_size (Let x e a) = 1 + core_ex_size e + core_size a
core_size (Bind x a b) = 1 + core_size a + core_size b
core_size (If e a b) = 1 + core_ex_size e + core_size a + core_size b
core_size (CaseMaybe e a x b) = 1 + core_ex_size e + core_size a + core_size b
core_size (CaseEither e x a y b) = 1 + core_ex_size e + core_size a + core_size b
core_size (CaseList e a x y b) = 1 + core_ex_size e + core_size a + core_size b
core_size (CasePair e x y a) = 1 + core_ex_size e + core_size a
core_size (Call f es) = 1 + exs_size es
core_size (Perform p es) = 1 + core_exs_size es
core_size (Fork a) = 1 + core_size a
core_size (ForkUnmask r a) = 1 + core_size a
core_size (Catch a x b) = 1 + core_size a + core_size b
core_size (MaskWith r a) = 1 + core_size a
core_size (MaskHard r a) = 1 + core_size a
core_size (Restore r a) = 1 + core_size a

-- the expanded size of a definition's body
abbrev pub body_size : Bd → ℕ
body_size (pure_body w e) = ex_size e
body_size (io_body w a) = core_size (block_core a)

-- ---- the steps of a template, where the form's expression has m nodes and its blocks have n

-- the expression that stands for an operand
abbrev pub operand_size : ℕ → Operand → ℕ
operand_size m x.Subject = m
operand_size m (x.Read y) = 1
operand_size m (x.JustRead y) = 2
operand_size m x.NoValue = 1
operand_size m (x.BelowZero y) = 3
operand_size m (x.IsZero y) = 3
operand_size m (x.SameExn y z) = 3
operand_size m x.Killed = 1
operand_size m x.Nil = 1
operand_size m (x.LeftRead y) = 2
operand_size m (x.RightRead y) = 2
operand_size m (x.RightLeft y) = 3
operand_size m (x.RightRight y) = 3
operand_size m x.RightNil = 2
operand_size m (x.PairRead y z) = 3
operand_size m (x.FirstOf y) = 2
operand_size m (x.SecondOf y) = 2

-- what a step puts on: a name that enters the scope or leaves it is no node
abbrev pub step_size : ℕ → (FormBlock → ℕ) → Step → ℕ
step_size m n (s.Hole i) = n i
step_size m n (s.Under y) = 0
step_size m n s.Off = 0
step_size m n (s.Push e) = operand_size m e
step_size m n s.Return = 1
step_size m n s.Throw = 1
step_size m n s.Let = 1
step_size m n s.Bind = 1
step_size m n s.Then = 1
step_size m n s.If = 1
step_size m n s.CaseEither = 1
step_size m n (s.Perform q) = 1
step_size m n (s.PerformOne q) = 1
step_size m n (s.PerformTwo q) = 1
step_size m n s.Fork = 1
step_size m n s.ForkUnmask = 1
step_size m n s.Catch = 1
step_size m n s.Mask = 1
step_size m n s.MaskHard = 1
step_size m n (s.Restore y) = 1

abbrev pub steps_size : ℕ → (FormBlock → ℕ) → List Step → ℕ
steps_size m n [] = 0
steps_size m n (k ∷ ks) = step_size m n k + steps_size m n ks
