-- Small scripts in few words, and a scheduler, for worked runs.
use Rattle.std.proofs.Common.{ℕ, zero, suc, ◌+◌, pos, List, [], ◌∷◌, Option, Some, None, codes}
use Rattle.hs_base.specs.declared.pos.Pos.{Pos}
use Rattle.hs_base.specs.declared.tree.expr.Name.{Name}
use Rattle.hs_rules.specs.declared.entry.Entry.{Entry}
use Rattle.hs_rules.specs.declared.entry.Entry.TheVariants.{Tick}
use Rattle.hs_base.specs.declared.tree.forms.UnaryForm.TheVariants.{Show, ErrorCall}
use Rattle.hs_base.specs.declared.tree.forms.UnaryAction.TheVariants.{Return, PutStrLn, TakeMVar, KillThread, ThreadDelay}
use Rattle.hs_base.specs.declared.tree.forms.BinaryAction.TheVariants.{PutMVar}
use Rattle.hs_base.specs.declared.tree.forms.BlockAction.TheVariants.{ForkIo}
use Rattle.rules_expansion.specs.trees.Trees.{unit, Wr, Ex, lit, name, none, unary, number, letters, nothing_more}
use Rattle.rules_expansion.specs.trees.Programs.{SurfaceAction, unary_act, binary_act, throw_io, new_empty, call, scoped, Bl, bind, io_body, Par, Fn}
use Rattle.hs_rules.specs.State.{State}
use Rattle.hs_rules.specs.Entries.{next}
use Rattle.hs_rules.specs.Runs.{first_of}
use Rattle.rules_meaning.specs.CoreMeaning.{code_of}

-- ---- small scripts

abbrev pub here : Pos
here = record { line = 1; col = 1 }

abbrev pub named : List ℕ → Name
named x = record { text = x; pos = here }

abbrev pub text : List ℕ → Ex
text x = lit here (letters x)

abbrev pub int : ℕ → Ex
int n = lit here (number (pos n))

abbrev pub var : List ℕ → Ex
var x = name (named x) none

abbrev pub ty : Wr
ty = record { ty = unit; pos = here }

abbrev pub say : List ℕ → SurfaceAction
say x = unary_act PutStrLn here (text x)

abbrev pub say_it : List ℕ → SurfaceAction
say_it x = unary_act PutStrLn here (var x)

-- main :: IO () = this block
abbrev pub script : Bl → List Fn
script b = record { name = named (codes "main"); params = []; body = io_body ty b } ∷ []

abbrev pub params : List (List ℕ) → List Par
params [] = []
params (x ∷ xs) = record { name = named x; ty = ty } ∷ params xs

abbrev pub def : List ℕ → List (List ℕ) → Bl → Fn
def f xs b = record { name = named f; params = params xs; body = io_body ty b }

abbrev pub run_it : List ℕ → SurfaceAction
run_it f = call (named f) none

abbrev pub throwing : List ℕ → SurfaceAction
throwing x = throw_io here ty (unary ErrorCall here (text x))

abbrev pub show_it : List ℕ → SurfaceAction
show_it x = unary_act PutStrLn here (unary Show here (var x))

abbrev pub new : List ℕ → Bl → Bl
new x b = bind (named x) (new_empty here ty) b

abbrev pub fork : List ℕ → Bl → Bl → Bl
fork t a b = bind (named t) (scoped ForkIo here a) b

abbrev pub take : List ℕ → SurfaceAction
take m = unary_act TakeMVar here (var m)

abbrev pub put : List ℕ → Ex → SurfaceAction
put m e = binary_act PutMVar here (var m) e

abbrev pub nothing : Ex
nothing = lit here nothing_more

abbrev pub return_unit : SurfaceAction
return_unit = unary_act Return here nothing

abbrev pub kill : List ℕ → SurfaceAction
kill t = unary_act KillThread here (var t)

abbrev pub nap : ℕ → SurfaceAction
nap n = unary_act ThreadDelay here (int n)

-- ---- a scheduler: the first legal entry of a list, and else the clock goes on

abbrev pub first_legal : List Fn → List Entry → State → Option State
first_legal ds [] s = None
first_legal ds (e ∷ es) s = elim (next (code_of ds) s e) [ None ↦ first_legal ds es s | Some u ↦ Some u ]

abbrev pub drive : List Fn → List Entry → ℕ → State → State
drive ds es zero s = s
drive ds es (suc n) s =
    elim (first_legal ds es s) [ None ↦ elim (next (code_of ds) s (Tick (s.clock + 5))) [ None ↦ s | Some u ↦ drive ds es n u ] | Some u ↦ drive ds es n u ]

abbrev pub driven : List Fn → List Entry → ℕ → Option State
driven ds es n = elim (first_of ds) [ None ↦ None | Some s ↦ Some (drive ds es n s) ]
