-- What the steps of a template make, with trees in place of numbers (own).
--
-- The names that a template binds stand above the scope of the form; expressions and actions wait on a stack each. A step
-- takes its parts off, the last one first, and puts its own tree on. Where no expression waits, `Nothing` stands for it,
-- and where no action waits, what no node stands for.
use Rattle.std.specs.Prelude.{ℕ, List, [], ◌∷◌, Option, Some, None}
use Rattle.hs_base.specs.declared.tree.expr.Expr.{Expr}
use Rattle.hs_base.specs.declared.tree.forms.EmptyForm.TheVariants as n
use Rattle.rules_expansion.specs.trees.Trees.{ex_of}
use Rattle.rules_expansion.specs.trees.Programs as tree
use Rattle.rules_expansion.specs.trees.Programs.{SurfaceAction}
use Rattle.rules_expansion.specs.declared.template.Binder.{Binder}
use Rattle.rules_expansion.specs.declared.template.Binder.TheVariants as b
use Rattle.rules_expansion.specs.declared.template.FormBlock.{FormBlock}
use Rattle.rules_expansion.specs.declared.template.Step.{Step}
use Rattle.rules_expansion.specs.declared.template.Step.TheVariants as p
use Rattle.rules_expansion.specs.Core.{CoreEx, OfScript, NoValue, Core, Return, ActionFunction}
use Rattle.rules_expansion.specs.Expansion.{block_core, of_three}
use Rattle.rules_expansion.specs.Templates.{Filling, named, operand}
use Rattle.rules_code.specs.Slots.{Sx, s_empty, s_none, s_more, Scope, Root, slot_of}
use Rattle.rules_code.specs.CodeTrees.{Sa, a_return, a_throw, a_let, a_bind, a_then, a_if, a_either, a_perform, a_fork, a_fork_unmask, a_catch, a_mask, a_mask_hard, a_restore, a_bad, slot_or_end, slotted_core, slotted_core_ex}
use Rattle.hs_nodes.specs.declared.names.ScopedName.{ScopedName}
use Rattle.hs_nodes.specs.declared.names.ScopedName.TheVariants as w
use Rattle.hs_nodes.specs.Names.{name_of}

-- ---- what a form puts into its template

abbrev pub subject_of : Option Expr → CoreEx
subject_of None = NoValue
subject_of (Some e) = OfScript (ex_of e)

abbrev pub given_of : Option (List ℕ) → List ℕ
given_of None = []
given_of (Some x) = x

abbrev pub no_block : Core
no_block = Return NoValue

-- the blocks of an action, in the order in which they are written, and its last one in the places of those that it lacks;
-- an action that stands for no others has `return Nothing` there
abbrev pub blocks_of : SurfaceAction → FormBlock → Core
blocks_of (tree.modify q e x a) = λ i. block_core a
blocks_of (tree.scoped k q a) = λ i. block_core a
blocks_of (tree.guard k q a c) = of_three (block_core a) (block_core c) (block_core c)
blocks_of (tree.bracket q a x c e) = of_three (block_core a) (block_core c) (block_core e)
blocks_of (tree.timeout q e a) = λ i. block_core a
blocks_of (tree.with_async q a x c) = of_three (block_core a) (block_core c) (block_core c)
blocks_of (tree.bare k q) = λ i. no_block
blocks_of (tree.unary_act k q e) = λ i. no_block
blocks_of (tree.binary_act k q e f) = λ i. no_block
blocks_of (tree.throw_io q t e) = λ i. no_block
blocks_of (tree.new_empty q t) = λ i. no_block
blocks_of (tree.call f es) = λ i. no_block
blocks_of (tree.choose_act q e a c) = λ i. no_block
blocks_of (tree.case_act q e arms) = λ i. no_block
blocks_of (tree.masking k q x a) = λ i. no_block
blocks_of (tree.restore q x a) = λ i. no_block
blocks_of (tree.catch q a x c) = λ i. no_block

abbrev pub filling_of : Option Expr → Option (List ℕ) → SurfaceAction → Filling
filling_of e x a = record { subject = subject_of e; given = given_of x; block = blocks_of a }

-- ---- what waits

-- the names above the scope of the form, the innermost first, and the trees of expressions and of actions, the last first
pub record Trees : Type 0 where
  pub names : List ScopedName
  pub operands : List Sx
  pub acts : List Sa

abbrev pub nothing_waits : Trees
nothing_waits = record { names = []; operands = []; acts = [] }

-- the scope with these names above it
abbrev pub above : List ScopedName → Scope → Scope
above [] s = s
above (x ∷ xs) s = name_of x ∷ above xs s

abbrev pub behind : {A : Type 0} → List A → List A
behind [] = []
behind (x ∷ xs) = xs

abbrev pub last_operand : List Sx → Sx
last_operand [] = s_empty n.Nothing
last_operand (t ∷ ts) = t

abbrev pub last_act : List Sa → Sa
last_act [] = a_bad
last_act (u ∷ us) = u

-- ---- what a step does

abbrev pub of_none : Sa → Trees → Trees
of_none u t = record { names = t.names; operands = t.operands; acts = u ∷ t.acts }

abbrev pub of_operand : (Sx → Sa) → Trees → Trees
of_operand g t = record { names = t.names; operands = behind t.operands; acts = g (last_operand t.operands) ∷ t.acts }

abbrev pub of_operands : (Sx → Sx → Sa) → Trees → Trees
of_operands g t = record { names = t.names; operands = behind (behind t.operands); acts = g (last_operand (behind t.operands)) (last_operand t.operands) ∷ t.acts }

abbrev pub of_act : (Sa → Sa) → Trees → Trees
of_act g t = record { names = t.names; operands = t.operands; acts = g (last_act t.acts) ∷ behind t.acts }

abbrev pub of_acts : (Sa → Sa → Sa) → Trees → Trees
of_acts g t = record { names = t.names; operands = t.operands; acts = g (last_act (behind t.acts)) (last_act t.acts) ∷ behind (behind t.acts) }

abbrev pub of_operand_act : (Sx → Sa → Sa) → Trees → Trees
of_operand_act g t = record { names = t.names; operands = behind t.operands; acts = g (last_operand t.operands) (last_act t.acts) ∷ behind t.acts }

abbrev pub of_operand_acts : (Sx → Sa → Sa → Sa) → Trees → Trees
of_operand_acts g t = record { names = t.names; operands = behind t.operands; acts = g (last_operand t.operands) (last_act (behind t.acts)) (last_act t.acts) ∷ behind (behind t.acts) }

abbrev pub pushing : Sx → Trees → Trees
pushing x t = record { names = t.names; operands = x ∷ t.operands; acts = t.acts }

abbrev pub under : ScopedName → Trees → Trees
under x t = record { names = x ∷ t.names; operands = t.operands; acts = t.acts }

-- the innermost name goes
abbrev pub leaving : Trees → Trees
leaving t = record { names = behind t.names; operands = t.operands; acts = t.acts }

abbrev pub bound : List ℕ → Binder → ScopedName
bound y (b.Own h) = w.Added h
bound y b.Given = w.Written y

-- restore x A
abbrev pub restoring : Scope → List ℕ → Binder → Trees → Trees
restoring s y x t = of_act (a_restore (slot_or_end (slot_of (above t.names s) (named y x)) (above t.names s))) t

-- with the pure functions and the action functions of the script, and with the scope of a form and what it puts into its
-- template
module _ (rs : List Root) (fs : List ActionFunction) (s : Scope) (f : Filling) where
  abbrev pub after : Step → Trees → Trees
  after (p.Hole i) t = of_none (slotted_core rs fs (above t.names s) (f.block i)) t
  after (p.Under x) t = under (bound f.given x) t
  after p.Off t = leaving t
  after (p.Push e) t = pushing (slotted_core_ex rs (above t.names s) (operand f e)) t
  after p.Return t = of_operand a_return t
  after p.Throw t = of_operand a_throw t
  after p.Let t = of_operand_act a_let t
  after p.Bind t = of_acts a_bind t
  after p.Then t = of_acts a_then t
  after p.If t = of_operand_acts a_if t
  after p.CaseEither t = of_operand_acts a_either t
  after (p.Perform q) t = of_none (a_perform q s_none) t
  after (p.PerformOne q) t = of_operand (λ x. a_perform q (s_more x s_none)) t
  after (p.PerformTwo q) t = of_operands (λ x y. a_perform q (s_more x (s_more y s_none))) t
  after p.Fork t = of_act a_fork t
  after p.ForkUnmask t = of_act a_fork_unmask t
  after p.Catch t = of_acts a_catch t
  after p.Mask t = of_act a_mask t
  after p.MaskHard t = of_act a_mask_hard t
  after (p.Restore x) t = restoring s f.given x t

  abbrev pub run : List Step → Trees → Trees
  run [] t = t
  run (x ∷ xs) t = run xs (after x t)
