-- What the controls and stacks of a code stand for: terms with slots (own).
use Rattle.std.specs.Prelude.{List, [], ◌∷◌}
use Rattle.rules_expansion.specs.declared.primitive.Primitive.TheVariants.{PutStr, PutStrLn, HPutStrLn, NewMVar, NewEmptyMVar, TakeMVar, PutMVar, ReadMVar, TryTakeMVar, TryPutMVar, MyThreadId, GetMaskingState, ClockMicros, ThreadDelay, ThrowTo, NewTimeout, Acquired, Release}
use Rattle.rules_meaning.specs.Values as val
use Rattle.rules_meaning.specs.Values.{value_of, values_of}
use Rattle.rules_code.specs.declared.code.CodeBody.{CodeBody}
use Rattle.slot_laws.specs.SlotRules.{SlotOp, calls, forks, forks_unmask, SlotPart, ret, throw, doing, performs, SlotTerm, at}
use Rattle.local_steps.specs.declared.active.Frame.{Frame}
use Rattle.local_steps.specs.Machine.{act_of, frames_of}
use Rattle.frame_stack.specs.declared.control.Operation.{Operation}
use Rattle.frame_stack.specs.declared.control.Operation.TheVariants as p
use Rattle.frame_stack.specs.declared.control.Control.{Control}
use Rattle.frame_stack.specs.declared.control.Control.TheVariants as c

-- the operation of a primitive with its values, or of a fork
abbrev pub op_of : CodeBody → Operation → SlotOp
op_of b (p.PutStr t) = calls PutStr (val.Text t ∷ [])
op_of b (p.PutStrLn t) = calls PutStrLn (val.Text t ∷ [])
op_of b (p.HPutStrLn t) = calls HPutStrLn (val.Text t ∷ [])
op_of b (p.NewMVar v) = calls NewMVar (value_of v ∷ [])
op_of b p.NewEmptyMVar = calls NewEmptyMVar []
op_of b (p.TakeMVar m) = calls TakeMVar (val.Cell m ∷ [])
op_of b (p.PutMVar m v) = calls PutMVar (val.Cell m ∷ value_of v ∷ [])
op_of b (p.ReadMVar m) = calls ReadMVar (val.Cell m ∷ [])
op_of b (p.TryTakeMVar m) = calls TryTakeMVar (val.Cell m ∷ [])
op_of b (p.TryPutMVar m v) = calls TryPutMVar (val.Cell m ∷ value_of v ∷ [])
op_of b p.MyThreadId = calls MyThreadId []
op_of b p.GetMaskingState = calls GetMaskingState []
op_of b p.ClockMicros = calls ClockMicros []
op_of b (p.ThreadDelay n) = calls ThreadDelay (val.Int n ∷ [])
op_of b (p.ThrowTo t e) = calls ThrowTo (val.Thread t ∷ val.Exception e ∷ [])
op_of b p.NewTimeout = calls NewTimeout []
op_of b p.Acquired = calls Acquired []
op_of b (p.Release i) = calls Release (val.Inst i ∷ [])
op_of b (p.Fork i vs) = forks (act_of b i) (values_of vs)
op_of b (p.ForkUnmask i vs) = forks_unmask (act_of b i) (values_of vs)

abbrev pub part_of : CodeBody → Control → SlotPart
part_of b (c.Doing i vs) = doing (act_of b i) (values_of vs)
part_of b (c.Ret v) = ret (value_of v)
part_of b (c.Throw e) = throw e
part_of b (c.Op p) = performs (op_of b p)

-- a stack: its control, and its frames, the innermost first
pub record Stacked : Type 0 where
  pub control : Control
  pub frames : List Frame

abbrev pub stacked : Control → List Frame → Stacked
stacked p fs = record { control = p; frames = fs }

-- the term that a stack stands for
abbrev pub term_of : CodeBody → Stacked → SlotTerm
term_of b s = at (part_of b s.control) (frames_of b s.frames)

abbrev pub IsOp : Control → Type 0
IsOp (c.Doing i vs) = ⊥
IsOp (c.Ret v) = ⊥
IsOp (c.Throw e) = ⊥
IsOp (c.Op p) = Unit {0}

abbrev pub IsThrow : Control → Type 0
IsThrow (c.Doing i vs) = ⊥
IsThrow (c.Ret v) = ⊥
IsThrow (c.Throw e) = Unit {0}
IsThrow (c.Op p) = ⊥

abbrev pub MeetsOne : Control → List Frame → Type 0
MeetsOne (c.Doing i vs) fs = ⊥
MeetsOne (c.Op p) fs = ⊥
MeetsOne (c.Ret v) [] = ⊥
MeetsOne (c.Ret v) (f ∷ fs) = Unit {0}
MeetsOne (c.Throw e) [] = ⊥
MeetsOne (c.Throw e) (f ∷ fs) = Unit {0}

-- a value or an exception stands in a frame
abbrev pub Meets : Stacked → Type 0
Meets s = MeetsOne s.control s.frames
