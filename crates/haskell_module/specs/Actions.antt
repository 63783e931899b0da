-- Actions and blocks of a script, as a Haskell module has them: each form is the function of base or of async that has its name
-- (the documentation of `Control.Exception`, `Control.Concurrent`, `System.Timeout` and `Control.Concurrent.Async`; `at`, `end` and
-- the environment `en` of a thread are own).
use Rattle.std.specs.Prelude.{ℕ, List, ◌++◌, codes}
use Rattle.hs_base.specs.declared.pos.Pos.{Pos}
use Rattle.hs_base.specs.declared.tree.forms.BareAction.{BareAction}
use Rattle.hs_base.specs.declared.tree.forms.BareAction.TheVariants as r
use Rattle.hs_base.specs.declared.tree.forms.UnaryAction.{UnaryAction}
use Rattle.hs_base.specs.declared.tree.forms.UnaryAction.TheVariants as u
use Rattle.hs_base.specs.declared.tree.forms.BinaryAction.{BinaryAction}
use Rattle.hs_base.specs.declared.tree.forms.BinaryAction.TheVariants as b
use Rattle.hs_base.specs.declared.tree.forms.BlockAction.{BlockAction}
use Rattle.hs_base.specs.declared.tree.forms.BlockAction.TheVariants as s
use Rattle.hs_base.specs.declared.tree.forms.MaskingAction.{MaskingAction}
use Rattle.hs_base.specs.declared.tree.forms.MaskingAction.TheVariants as m
use Rattle.hs_base.specs.declared.tree.forms.GuardAction.{GuardAction}
use Rattle.hs_base.specs.declared.tree.forms.GuardAction.TheVariants as g
use Rattle.rules_expansion.specs.trees.Programs.{SurfaceAction, bare, unary_act, binary_act, throw_io, new_empty, call, choose_act, case_act, modify, scoped, masking, restore, catch, guard, bracket, timeout, with_async, Bl, last, then, bind, let_in, ActArms, maybe_acts, either_acts, list_acts, pair_acts}
use Rattle.haskell_module.specs.Names.{name_text}
use Rattle.haskell_module.specs.Types.{type_text}
use Rattle.haskell_module.specs.Forms.{applied, applied_two, applied_three, typed, lambda, bound, in_thread, choice, case_of, arms_of_maybe, arms_of_either, arms_of_list, arms_of_pair, line, binding, last_line, block_of}
use Rattle.haskell_module.specs.Expressions.{ex_text, arguments}

-- ---- words; behind those that need it stands the environment of their thread

abbrev pub bare_text : BareAction → List ℕ
bare_text r.MyThreadId = codes "(myThreadId en)"
bare_text r.ClockMicros = codes "(clockMicros en)"
bare_text r.GetMaskingState = codes "(getMaskingState)"

abbrev pub unary_act_word : UnaryAction → List ℕ
unary_act_word u.Return = codes "return"
unary_act_word u.PutStr = codes "putStr en"
unary_act_word u.PutStrLn = codes "putStrLn en"
unary_act_word u.HPutStrLn = codes "hPutStrLn en"
unary_act_word u.NewMVar = codes "newMVar"
unary_act_word u.TakeMVar = codes "takeMVar"
unary_act_word u.ReadMVar = codes "readMVar"
unary_act_word u.TryTakeMVar = codes "tryTakeMVar"
unary_act_word u.KillThread = codes "killThread"
unary_act_word u.ThreadDelay = codes "threadDelay en"
unary_act_word u.Wait = codes "wait"
unary_act_word u.Cancel = codes "cancel"

abbrev pub binary_act_word : BinaryAction → List ℕ
binary_act_word b.PutMVar = codes "putMVar"
binary_act_word b.TryPutMVar = codes "tryPutMVar"
binary_act_word b.ThrowTo = codes "throwTo"

-- ---- forms

unfoldable pub throw_text : (part type : List ℕ) → List ℕ
throw_text part type = typed (codes "throwIO " ++ part) (codes "IO " ++ type)

unfoldable pub new_empty_text : (type : List ℕ) → List ℕ
new_empty_text type = typed (codes "newEmptyMVar") (codes "IO (MVar " ++ type ++ codes ")")

unfoldable pub act_call_text : (word parts : List ℕ) → List ℕ
act_call_text word parts = codes "(" ++ name_text word ++ codes " en" ++ parts ++ codes ")"

abbrev pub scoped_text : BlockAction → (body : List ℕ) → List ℕ
scoped_text s.ForkIo body = applied (codes "forkIO en") (in_thread body)
scoped_text s.MaskOnly body = applied (codes "mask_") body
scoped_text s.UninterruptibleMaskOnly body = applied (codes "uninterruptibleMask_") body

abbrev pub masking_text : MaskingAction → (name body : List ℕ) → List ℕ
masking_text m.ForkIoWithUnmask name body = applied (codes "forkIOWithUnmask en") (in_thread (lambda name ++ body))
masking_text m.Mask name body = applied (codes "mask") (bound name body)
masking_text m.UninterruptibleMask name body = applied (codes "uninterruptibleMask") (bound name body)

abbrev pub guard_text : GuardAction → (body other : List ℕ) → List ℕ
guard_text g.OnException body other = applied_two (codes "onException") body other
guard_text g.Finally body other = applied_two (codes "finally") body other
guard_text g.Race body other = applied_two (codes "race en") (in_thread body) (in_thread other)
guard_text g.Concurrently body other = applied_two (codes "concurrently en") (in_thread body) (in_thread other)

-- the position of an action: its first word, or the name of a call
abbrev pub act_pos : SurfaceAction → Pos
act_pos (bare w p) = p
act_pos (unary_act w p e) = p
act_pos (binary_act w p e f) = p
act_pos (throw_io p w e) = p
act_pos (new_empty p w) = p
act_pos (call f es) = f.pos
act_pos (choose_act p e a c) = p
act_pos (case_act p e arms) = p
act_pos (modify p e x a) = p
act_pos (scoped w p a) = p
act_pos (masking w p x a) = p
act_pos (restore p x a) = p
act_pos (catch p a x c) = p
act_pos (guard w p a c) = p
act_pos (bracket p a x c e) = p
act_pos (timeout p e a) = p
act_pos (with_async p a x c) = p

abbrev mutual
  pub act_text : SurfaceAction → List ℕ
  act_text (bare w p) = bare_text w
  act_text (unary_act w p e) = applied (unary_act_word w) (ex_text e)
  act_text (binary_act w p e f) = applied_two (binary_act_word w) (ex_text e) (ex_text f)
  act_text (throw_io p w e) = throw_text (ex_text e) (type_text w.ty)
  act_text (new_empty p w) = new_empty_text (type_text w.ty)
  act_text (call f es) = act_call_text f.text (arguments es)
  act_text (choose_act p e a c) = choice (ex_text e) (block_of (lines a)) (block_of (lines c))
  act_text (case_act p e arms) = case_of (ex_text e) (act_arms_text arms)
  act_text (modify p e x a) = applied_two (codes "modifyMVar_") (ex_text e) (bound x.text (block_of (lines a)))
  act_text (scoped w p a) = scoped_text w (block_of (lines a))
  act_text (masking w p x a) = masking_text w x.text (block_of (lines a))
  -- the masking name is the function that restores
  act_text (restore p x a) = applied (name_text x.text) (block_of (lines a))
  act_text (catch p a x c) = applied_two (codes "catch") (block_of (lines a)) (bound x.text (block_of (lines c)))
  act_text (guard w p a c) = guard_text w (block_of (lines a)) (block_of (lines c))
  act_text (bracket p a x c e) = applied_three (codes "bracket") (block_of (lines a)) (bound x.text (block_of (lines c))) (bound x.text (block_of (lines e)))
  act_text (timeout p e a) = applied_two (codes "timeout en") (ex_text e) (block_of (lines a))
  act_text (with_async p a x c) = applied_two (codes "withAsync en") (in_thread (block_of (lines a))) (bound x.text (block_of (lines c)))

  -- the lines of a block
  pub lines : Bl → List ℕ
  lines (last a) = last_line (act_pos a) (act_text a)
  lines (then a c) = line (act_pos a) (act_text a) ++ lines c
  lines (bind x a c) = binding x.text ++ line (act_pos a) (act_text a) ++ lines c
  lines (let_in x e c) = binding x.text ++ line x.pos (applied (codes "evaluate") (ex_text e)) ++ lines c

  pub act_arms_text : ActArms → List ℕ
  act_arms_text (maybe_acts a x c) = arms_of_maybe (block_of (lines a)) x.text (block_of (lines c))
  act_arms_text (either_acts x a y c) = arms_of_either x.text (block_of (lines a)) y.text (block_of (lines c))
  act_arms_text (list_acts a x y c) = arms_of_list (block_of (lines a)) x.text y.text (block_of (lines c))
  act_arms_text (pair_acts x y a) = arms_of_pair x.text y.text (block_of (lines a))

abbrev pub bl_text : Bl → List ℕ
bl_text c = block_of (lines c)
