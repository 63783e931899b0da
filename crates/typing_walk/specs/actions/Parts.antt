-- The last part of an action, after the types of the parts before it.
use Rattle.std.specs.Prelude.{List, [], ◌∷◌, Option}
use Rattle.hs_base.specs.declared.pos.Pos.{Pos}
use Rattle.hs_base.specs.declared.tree.expr.Name.{Name}
use Rattle.rules_expansion.specs.trees.Trees.{T, exn}
use Rattle.rules_expansion.specs.trees.Programs.{Bl, ActArms}
use Rattle.rules_typing.specs.Typing.{Ctx, TypedName, Row, of, a_cell, inner_of}
use Rattle.rules_typing.specs.TypingActions.{form_of_acts, row_async, row_guard, row_bracket, row_modify, row_timeout}
use Rattle.typing_judge.specs.Judging.{Found, after, needing, own, part, parts2, with2, with3}
use Rattle.typing_judge.specs.JudgingActions.{judge_act_arms, judge_bl}
use Rattle.typing_parts.specs.JudgedAs.{under_name}
use Rattle.typing_walk.specs.declared.actions.closing.TwoParts.{TwoParts}
use Rattle.typing_walk.specs.declared.actions.closing.TwoParts.TheVariants as o

abbrev pub row_two : TwoParts → T → T → Row
row_two (o.Guard w) u v = row_guard w u v
row_two o.Bracket u v = row_bracket u v
row_two o.Timeout u v = row_timeout u v

abbrev pub second_part : Option T → Found → (T → T → Found) → Found
second_part t x k = after x.faults (with2 t x.type k)

abbrev pub third_part : Option T → Option T → Found → (T → T → T → Found) → Found
third_part t u x k = after x.faults (with3 t u x.type k)

-- ---- what the rule of a form asks after its first part, of which the type is given

-- `catch`: the handler, under the name of the exception
abbrev pub handler_part : Ctx → List TypedName → Name → Bl → Found
handler_part c s x g = under_name s x exn (λ s. judge_bl c s g)

-- `modifyMVar_`: the first part is a cell, and the block, under the name of its content, gives the content again
abbrev pub modify_part : Ctx → List TypedName → Pos → Name → Bl → T → Found
modify_part c s p x g u = needing p (of a_cell u ∷ []) (part (under_name s x (inner_of u) (λ s. judge_bl c s g)) (λ v. own p (row_modify u v)))

-- `withAsync`: the block, under the name of the one that runs beside it
abbrev pub async_part : Ctx → List TypedName → Pos → Name → Bl → T → Found
async_part c s p x g u = part (own p (row_async u)) (λ v. under_name s x v (λ s. judge_bl c s g))

-- `bracket`: what releases and what uses, both under the name of what was acquired
abbrev pub bracket_part : Ctx → List TypedName → Pos → Name → Bl → Bl → T → Found
bracket_part c s p x g h u = under_name s x u (λ s. parts2 (judge_bl c s g) (judge_bl c s h) (λ v w. own p (row_bracket v w)))

-- `case`: the first part is of the form that the arms ask for, and then they are judged
abbrev pub case_part : Ctx → List TypedName → Pos → ActArms → T → Found
case_part c s p arms u = needing p (of (form_of_acts arms) u ∷ []) (judge_act_arms c s p u arms)
