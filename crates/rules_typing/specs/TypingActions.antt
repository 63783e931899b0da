-- The typing rules of actions and blocks (own; types follow the signatures of `base`, of `Control.Concurrent.MVar` and
-- of `Control.Exception`; `getMaskingState` gives a Text and `clockMicros` is this project's own; those of `withAsync`, `wait`,
-- `cancel`, `race` and `concurrently` follow `Control.Concurrent.Async`).
--
-- A block binds each name for the statements after it and has its last action's type. A statement whose part is broken
-- ends the judging of its block.
use Rattle.std.specs.Prelude.{◌≡◌, ◌⊎◌, List, [], ◌∷◌, Some, None}
use Rattle.hs_base.specs.declared.pos.Pos.{Pos}
use Rattle.hs_base.specs.declared.tree.forms.BareAction.{BareAction}
use Rattle.hs_base.specs.declared.tree.forms.BareAction.TheVariants as z
use Rattle.hs_base.specs.declared.tree.forms.UnaryAction.{UnaryAction}
use Rattle.hs_base.specs.declared.tree.forms.UnaryAction.TheVariants as u
use Rattle.hs_base.specs.declared.tree.forms.BinaryAction.{BinaryAction}
use Rattle.hs_base.specs.declared.tree.forms.BinaryAction.TheVariants as b
use Rattle.hs_base.specs.declared.tree.forms.BlockAction.{BlockAction}
use Rattle.hs_base.specs.declared.tree.forms.BlockAction.TheVariants as k
use Rattle.hs_base.specs.declared.tree.forms.MaskingAction.{MaskingAction}
use Rattle.hs_base.specs.declared.tree.forms.MaskingAction.TheVariants as m
use Rattle.hs_base.specs.declared.tree.forms.GuardAction.{GuardAction}
use Rattle.hs_base.specs.declared.tree.forms.GuardAction.TheVariants as g
use Rattle.rules_expansion.specs.trees.Trees.{T, unit, int, bool, text, thread, exn, pair, maybe, either, cell, async}
use Rattle.rules_expansion.specs.trees.Programs.{SurfaceAction, bare, unary_act, binary_act, throw_io, new_empty, call, choose_act, case_act, modify, scoped, masking, restore, catch, guard, bracket, timeout, with_async, Bl, last, then, bind, let_in, ActArms, maybe_acts, either_acts, list_acts, pair_acts}
use Rattle.rules_typing.specs.Typing.{Form, a_maybe, an_either, a_list, a_pair, a_cell, an_async, Fault, Has, first_of, second_of, inner_of, is, of, Row, gives, makes, FirstUnmet, Gives, Breaks, row_choose, row_arms, IsWritten, WrittenBreaks, TypedName, bound, masked, Ctx, wrong, meant_act, no_mask, Calls, BreaksCall, NotFull, NoRoom, count, HasType, HaveTypes, BreaksIn, BreaksAny}

-- ---- the table of actions

abbrev pub type_of_bare : BareAction → T
type_of_bare z.MyThreadId = thread
type_of_bare z.ClockMicros = int
type_of_bare z.GetMaskingState = text

abbrev pub row_unary_act : UnaryAction → T → Row
row_unary_act u.Return a = gives [] a
row_unary_act u.PutStr a = gives (is text a ∷ []) unit
row_unary_act u.PutStrLn a = gives (is text a ∷ []) unit
row_unary_act u.HPutStrLn a = gives (is text a ∷ []) unit
row_unary_act u.NewMVar a = makes [] (cell a)
row_unary_act u.TakeMVar a = gives (of a_cell a ∷ []) (inner_of a)
row_unary_act u.ReadMVar a = gives (of a_cell a ∷ []) (inner_of a)
row_unary_act u.TryTakeMVar a = makes (of a_cell a ∷ []) (maybe (inner_of a))
row_unary_act u.KillThread a = gives (is thread a ∷ []) unit
row_unary_act u.ThreadDelay a = gives (is int a ∷ []) unit
row_unary_act u.Wait a = gives (of an_async a ∷ []) (inner_of a)
row_unary_act u.Cancel a = gives (of an_async a ∷ []) unit

abbrev pub row_binary_act : BinaryAction → T → T → Row
row_binary_act b.PutMVar a e = gives (of a_cell a ∷ is (inner_of a) e ∷ []) unit
row_binary_act b.TryPutMVar a e = gives (of a_cell a ∷ is (inner_of a) e ∷ []) bool
row_binary_act b.ThrowTo a e = gives (is thread a ∷ is exn e ∷ []) unit

-- throwIO @t a
abbrev pub row_throw : T → T → Row
row_throw t a = gives (is exn a ∷ []) t

-- newEmptyMVar @t
abbrev pub row_new_empty : T → Row
row_new_empty t = makes [] (cell t)

abbrev pub row_scoped : BlockAction → T → Row
row_scoped k.ForkIo a = gives (is unit a ∷ []) thread
row_scoped k.MaskOnly a = gives [] a
row_scoped k.UninterruptibleMaskOnly a = gives [] a

abbrev pub row_masking : MaskingAction → T → Row
row_masking m.ForkIoWithUnmask a = gives (is unit a ∷ []) thread
row_masking m.Mask a = gives [] a
row_masking m.UninterruptibleMask a = gives [] a

-- modifyMVar_ at a cell of type a, whose block has type e
abbrev pub row_modify : T → T → Row
row_modify a e = gives (is (inner_of a) e ∷ []) unit

-- onException and finally: the first block's type
abbrev pub row_guard : GuardAction → T → T → Row
row_guard g.OnException a e = gives [] a
row_guard g.Finally a e = gives [] a
row_guard g.Race a e = makes [] (either a e)
row_guard g.Concurrently a e = makes [] (pair a e)

-- bracket: of the block that releases, and of the one that uses
abbrev pub row_bracket : T → T → Row
row_bracket e g = gives [] g

abbrev pub row_timeout : T → T → Row
row_timeout a e = makes (is int a ∷ []) (maybe e)

-- what withAsync binds, where its first block has type a
abbrev pub row_async : T → Row
row_async a = makes [] (async a)

abbrev pub form_of_acts : ActArms → Form
form_of_acts (maybe_acts a x e) = a_maybe
form_of_acts (either_acts x a y e) = an_either
form_of_acts (list_acts a x y e) = a_list
form_of_acts (pair_acts x y a) = a_pair

-- ---- the type of an action and of a block, in a scope

abbrev mutual
  pub ActHas : Ctx → List TypedName → SurfaceAction → T → Type 0
  ActHas c s (bare o p) t = t ≡ type_of_bare o
  ActHas c s (unary_act o p a) t = (u : T) × HasType c s a u × Gives (row_unary_act o u) t
  ActHas c s (binary_act o p a e) t = (u v : T) × HasType c s a u × HasType c s e v × Gives (row_binary_act o u v) t
  ActHas c s (throw_io p w a) t = (u v : T) × IsWritten w u × HasType c s a v × Gives (row_throw u v) t
  ActHas c s (new_empty p w) t = (u : T) × IsWritten w u × Gives (row_new_empty u) t
  ActHas c s (call x es) t = (us : List T) × HaveTypes c s es us × Calls (meant_act c s x (count es)) us t
  ActHas c s (choose_act p e a g) t = (u v z : T) × HasType c s e u × BlHas c s a v × BlHas c s g z × Gives (row_choose u v z) t
  ActHas c s (case_act p e arms) t = (u : T) × HasType c s e u × (Has (form_of_acts arms) u × ActArmsHave c s p u arms t)
  ActHas c s (modify p a x g) t = (u : T) × HasType c s a u × (Has a_cell u × ((v : T) × (NotFull s × BlHas c (bound x (inner_of u) ∷ s) g v) × Gives (row_modify u v) t))
  ActHas c s (scoped o p a) t = (u : T) × BlHas c s a u × Gives (row_scoped o u) t
  ActHas c s (masking o p x a) t = (u : T) × (NotFull s × BlHas c (masked x ∷ s) a u) × Gives (row_masking o u) t
  ActHas c s (restore p x a) t = (no_mask c s x ≡ None) × BlHas c s a t
  ActHas c s (catch p a x g) t = (u v : T) × BlHas c s a u × (NotFull s × BlHas c (bound x exn ∷ s) g v) × Gives (row_arms u v) t
  ActHas c s (guard o p a g) t = (u v : T) × BlHas c s a u × BlHas c s g v × Gives (row_guard o u v) t
  ActHas c s (bracket p a x g h) t = (u : T) × BlHas c s a u × (NotFull s × ((v z : T) × BlHas c (bound x u ∷ s) g v × BlHas c (bound x u ∷ s) h z × Gives (row_bracket v z) t))
  ActHas c s (timeout p e a) t = (u v : T) × HasType c s e u × BlHas c s a v × Gives (row_timeout u v) t
  ActHas c s (with_async p a x g) t = (u : T) × BlHas c s a u × ((v : T) × Gives (row_async u) v × (NotFull s × BlHas c (bound x v ∷ s) g t))

  pub BlHas : Ctx → List TypedName → Bl → T → Type 0
  BlHas c s (last a) t = ActHas c s a t
  BlHas c s (then a g) t = (u : T) × ActHas c s a u × BlHas c s g t
  BlHas c s (bind x a g) t = (u : T) × ActHas c s a u × NotFull s × BlHas c (bound x u ∷ s) g t
  BlHas c s (let_in x e g) t = (u : T) × HasType c s e u × NotFull s × BlHas c (bound x u ∷ s) g t

  pub ActArmsHave : Ctx → List TypedName → Pos → T → ActArms → T → Type 0
  ActArmsHave c s p u (maybe_acts a x e) t = (v z : T) × BlHas c s a v × (NotFull s × BlHas c (bound x (inner_of u) ∷ s) e z) × Gives (row_arms v z) t
  ActArmsHave c s p u (either_acts x a y e) t = (v z : T) × (NotFull s × BlHas c (bound x (first_of u) ∷ s) a v) × (NotFull s × BlHas c (bound y (second_of u) ∷ s) e z) × Gives (row_arms v z) t
  ActArmsHave c s p u (list_acts a x y e) t = (v z : T) × BlHas c s a v × (NotFull s × (NotFull (bound x (inner_of u) ∷ s) × BlHas c (bound y u ∷ bound x (inner_of u) ∷ s) e z)) × Gives (row_arms v z) t
  ActArmsHave c s p u (pair_acts x y a) t = NotFull s × (NotFull (bound x (first_of u) ∷ s) × BlHas c (bound y (second_of u) ∷ bound x (first_of u) ∷ s) a t)

-- ---- the rules that an action and a block break

abbrev mutual
  pub ActBreaks : Ctx → List TypedName → SurfaceAction → Fault → Type 0
  ActBreaks c s (bare o p) f = ⊥
  ActBreaks c s (unary_act o p a) f = BreaksIn c s a f ⊎ ((u : T) × HasType c s a u × Breaks p (row_unary_act o u) f)
  ActBreaks c s (binary_act o p a e) f = (BreaksIn c s a f ⊎ BreaksIn c s e f) ⊎ ((u v : T) × HasType c s a u × HasType c s e v × Breaks p (row_binary_act o u v) f)
  ActBreaks c s (throw_io p w a) f = (WrittenBreaks w f ⊎ BreaksIn c s a f) ⊎ ((u v : T) × IsWritten w u × HasType c s a v × Breaks p (row_throw u v) f)
  ActBreaks c s (new_empty p w) f = WrittenBreaks w f ⊎ ((u : T) × IsWritten w u × Breaks p (row_new_empty u) f)
  ActBreaks c s (call x es) f = BreaksAny c s es f ⊎ ((meant_act c s x (count es) ≡ wrong f) ⊎ ((us : List T) × HaveTypes c s es us × BreaksCall x.pos (meant_act c s x (count es)) us f))
  ActBreaks c s (choose_act p e a g) f = (BreaksIn c s e f ⊎ BlBreaks c s a f ⊎ BlBreaks c s g f) ⊎ ((u v z : T) × HasType c s e u × BlHas c s a v × BlHas c s g z × Breaks p (row_choose u v z) f)
  ActBreaks c s (case_act p e arms) f = BreaksIn c s e f ⊎ ((u : T) × HasType c s e u × (FirstUnmet p (of (form_of_acts arms) u ∷ []) f ⊎ (Has (form_of_acts arms) u × ActArmsBreak c s p u arms f)))
  ActBreaks c s (modify p a x g) f = BreaksIn c s a f ⊎ ((u : T) × HasType c s a u × (FirstUnmet p (of a_cell u ∷ []) f
      ⊎ (Has a_cell u × ((NoRoom s x f ⊎ (NotFull s × BlBreaks c (bound x (inner_of u) ∷ s) g f))
      ⊎ ((v : T) × (NotFull s × BlHas c (bound x (inner_of u) ∷ s) g v) × Breaks p (row_modify u v) f)))))
  ActBreaks c s (scoped o p a) f = BlBreaks c s a f ⊎ ((u : T) × BlHas c s a u × Breaks p (row_scoped o u) f)
  ActBreaks c s (masking o p x a) f = (NoRoom s x f ⊎ (NotFull s × BlBreaks c (masked x ∷ s) a f)) ⊎ ((u : T) × (NotFull s × BlHas c (masked x ∷ s) a u) × Breaks p (row_masking o u) f)
  ActBreaks c s (restore p x a) f = (no_mask c s x ≡ Some f) ⊎ BlBreaks c s a f
  ActBreaks c s (catch p a x g) f = (BlBreaks c s a f ⊎ (NoRoom s x f ⊎ (NotFull s × BlBreaks c (bound x exn ∷ s) g f))) ⊎ ((u v : T) × BlHas c s a u × (NotFull s × BlHas c (bound x exn ∷ s) g v) × Breaks p (row_arms u v) f)
  ActBreaks c s (guard o p a g) f = (BlBreaks c s a f ⊎ BlBreaks c s g f) ⊎ ((u v : T) × BlHas c s a u × BlHas c s g v × Breaks p (row_guard o u v) f)
  ActBreaks c s (bracket p a x g h) f = BlBreaks c s a f ⊎ ((u : T) × BlHas c s a u × (NoRoom s x f
      ⊎ (NotFull s × ((BlBreaks c (bound x u ∷ s) g f ⊎ BlBreaks c (bound x u ∷ s) h f)
      ⊎ ((v z : T) × BlHas c (bound x u ∷ s) g v × BlHas c (bound x u ∷ s) h z × Breaks p (row_bracket v z) f)))))
  ActBreaks c s (timeout p e a) f = (BreaksIn c s e f ⊎ BlBreaks c s a f) ⊎ ((u v : T) × HasType c s e u × BlHas c s a v × Breaks p (row_timeout u v) f)
  ActBreaks c s (with_async p a x g) f = BlBreaks c s a f ⊎ ((u : T) × BlHas c s a u × (Breaks p (row_async u) f
      ⊎ ((v : T) × Gives (row_async u) v × (NoRoom s x f ⊎ (NotFull s × BlBreaks c (bound x v ∷ s) g f)))))

  pub BlBreaks : Ctx → List TypedName → Bl → Fault → Type 0
  BlBreaks c s (last a) f = ActBreaks c s a f
  BlBreaks c s (then a g) f = ActBreaks c s a f ⊎ ((u : T) × ActHas c s a u × BlBreaks c s g f)
  BlBreaks c s (bind x a g) f = NoRoom s x f ⊎ (ActBreaks c s a f ⊎ ((u : T) × ActHas c s a u × NotFull s × BlBreaks c (bound x u ∷ s) g f))
  BlBreaks c s (let_in x e g) f = NoRoom s x f ⊎ (BreaksIn c s e f ⊎ ((u : T) × HasType c s e u × NotFull s × BlBreaks c (bound x u ∷ s) g f))

  pub ActArmsBreak : Ctx → List TypedName → Pos → T → ActArms → Fault → Type 0
  ActArmsBreak c s p u (maybe_acts a x e) f = (BlBreaks c s a f ⊎ (NoRoom s x f ⊎ (NotFull s × BlBreaks c (bound x (inner_of u) ∷ s) e f)))
      ⊎ ((v z : T) × BlHas c s a v × (NotFull s × BlHas c (bound x (inner_of u) ∷ s) e z) × Breaks p (row_arms v z) f)
  ActArmsBreak c s p u (either_acts x a y e) f = ((NoRoom s x f ⊎ (NotFull s × BlBreaks c (bound x (first_of u) ∷ s) a f)) ⊎ (NoRoom s y f ⊎ (NotFull s × BlBreaks c (bound y (second_of u) ∷ s) e f)))
      ⊎ ((v z : T) × (NotFull s × BlHas c (bound x (first_of u) ∷ s) a v) × (NotFull s × BlHas c (bound y (second_of u) ∷ s) e z) × Breaks p (row_arms v z) f)
  ActArmsBreak c s p u (list_acts a x y e) f = (BlBreaks c s a f ⊎ (NoRoom s x f ⊎ (NotFull s × (NoRoom (bound x (inner_of u) ∷ s) y f ⊎ (NotFull (bound x (inner_of u) ∷ s) × BlBreaks c (bound y u ∷ bound x (inner_of u) ∷ s) e f)))))
      ⊎ ((v z : T) × BlHas c s a v × (NotFull s × (NotFull (bound x (inner_of u) ∷ s) × BlHas c (bound y u ∷ bound x (inner_of u) ∷ s) e z)) × Breaks p (row_arms v z) f)
  ActArmsBreak c s p u (pair_acts x y a) f = NoRoom s x f ⊎ (NotFull s × (NoRoom (bound x (first_of u) ∷ s) y f ⊎ (NotFull (bound x (first_of u) ∷ s) × BlBreaks c (bound y (second_of u) ∷ bound x (first_of u) ∷ s) a f)))
