-- The whole module of a script (own): what it imports, the program's `main`, and a definition for each of the script's, in order. No
-- `module` line stands there, so the text alone is a program, and braces and semicolons are written out.
use Rattle.std.specs.Prelude.{ℕ, List, ◌++◌, codes}
use Rattle.std.specs.List.{flat_map}
use Rattle.hs_base.specs.declared.tree.expr.Name.{Name}
use Rattle.rules_expansion.specs.trees.Programs.{Par, Bd, pure_body, io_body, Fn}
use Rattle.haskell_module.specs.Names.{name_text}
use Rattle.haskell_module.specs.Types.{type_text}
use Rattle.haskell_module.specs.Forms.{lambda}
use Rattle.haskell_module.specs.Expressions.{ex_text}
use Rattle.haskell_module.specs.Actions.{bl_text}

-- ---- parameters

abbrev pub parameter_type : Par → List ℕ
parameter_type p = type_text p.ty.ty ++ codes " -> "

-- An argument is evaluated before the next one and before the body; a parameter may hide an earlier one.
abbrev pub parameter_head : Par → List ℕ
parameter_head p = codes "(strict (" ++ lambda p.name.text

abbrev pub parameter_end : Par → List ℕ
parameter_end p = codes "))"

-- ---- definitions

unfoldable pub signature : (name before types result : List ℕ) → List ℕ
signature name before types result = name_text name ++ before ++ types ++ result ++ codes ";\n"

unfoldable pub equation : (name before heads body ends behind : List ℕ) → List ℕ
equation name before heads body ends behind = name_text name ++ before ++ heads ++ body ++ ends ++ behind

-- a pure function
abbrev pub pure_text : Name → List Par → (type body : List ℕ) → List ℕ
pure_text f ps type body =
    signature f.text (codes " :: ") (flat_map parameter_type ps) type
    ++ equation f.text (codes " = ") (flat_map parameter_head ps) body (flat_map parameter_end ps) (codes ";\n")

-- An action takes the environment of its thread first.
abbrev pub action_text : Name → List Par → (type body : List ℕ) → List ℕ
action_text f ps type body =
    signature f.text (codes " :: Env -> ") (flat_map parameter_type ps) (codes "IO " ++ type)
    ++ equation f.text (codes " = (\\ en -> ") (flat_map parameter_head ps) body (flat_map parameter_end ps) (codes ");\n")

abbrev pub body_text : Name → List Par → Bd → List ℕ
body_text f ps (pure_body w e) = pure_text f ps (type_text w.ty) (ex_text e)
body_text f ps (io_body w a) = action_text f ps (type_text w.ty) (bl_text a)

abbrev pub def_text : Fn → List ℕ
def_text d = body_text d.name d.params d.body

-- ---- the whole

unfoldable pub head : List ℕ
head = codes "{import Prelude ();\nimport Litmus;\nmain :: IO ();\nmain = run script;\nscript :: Env -> IO ();\nscript = v_main;\n"

-- The module of a script.
abbrev pub module_text : List Fn → List ℕ
module_text ds = head ++ flat_map def_text ds ++ codes "}\n"
