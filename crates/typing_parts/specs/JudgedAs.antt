-- What the walks over a script do to the checker: each promises that its part was judged by the rule of the part's form.
use Rattle.std.specs.Prelude.{List, [], ◌∷◌, Option, Result, IfOk}
use Rattle.hs_base.specs.declared.no_memory.NoMemory.{NoMemory}
use Rattle.hs_base.specs.declared.tree.expr.Name.{Name}
use Rattle.rules_expansion.specs.trees.Trees.{T}
use Rattle.rules_typing.specs.Typing.{Ctx, TypedName, bound, Row, gives, of, is, a_cell, inner_of}
use Rattle.typing_judge.specs.Judging.{Found, typed, unless_full}
use Rattle.typing_table.specs.declared.table.TypeTable.{TypeTable}
use Rattle.typing_table.specs.declared.ty.TypeTerm.{TypeTerm}
use Rattle.typing_parts.specs.Views.{opt_ty, part_of}
use Rattle.typing_parts.specs.Contexts.{ctx_of}
use Rattle.typing_parts.specs.Judged.{Judged, names}
use Rattle.typing_parts.specs.declared.checker.Checker.{Checker}
use Rattle.typing_parts.specs.declared.funs.Funs.{Funs}
use Rattle.typing_parts.specs.declared.parts.NamedPart.{NamedPart}

-- Where memory sufficed, this is what was found: the scope stays, the type is the one that was answered, and the faults
-- were noted.
abbrev pub JudgedAs : TypeTable → Checker → Checker → Result (Option TypeTerm) NoMemory → Found → Type 0
JudgedAs types old new result x = IfOk result (λ t. Judged types.nodes old new (opt_ty types.nodes t) x)

-- The same for a part that is judged at its place: by the functions, and in the scope that stood before.
abbrev pub JudgedIn : Funs → Checker → Checker → Result (Option TypeTerm) NoMemory → (Ctx → List TypedName → Found) → Type 0
JudgedIn f old new result rule = JudgedAs f.types old new result (rule (ctx_of f) (names f.types.nodes old))

-- an earlier part of a form, of which the type alone is left: its faults were noted where it was judged
abbrev pub earlier : Funs → Option TypeTerm → Found
earlier f t = typed (opt_ty f.types.nodes t)

-- what is judged under one more name of a type, where the scope takes it
abbrev pub under_name : List TypedName → Name → T → (List TypedName → Found) → Found
under_name s x t rule = unless_full s x (rule (bound x t ∷ s))

-- the same where the name is bound to a part of that type, as in the arms of a `case`
abbrev pub under_part : T → NamedPart → List TypedName → (List TypedName → Found) → Found
under_part t x s rule = under_name s x.name.now (part_of x.part t) rule

-- what has a cell and a value of the type that the cell is of, as `putMVar`, and gives that type
abbrev pub content_row : T → T → T → Row
content_row c v t = gives (of a_cell c ∷ is (inner_of c) v ∷ []) t
