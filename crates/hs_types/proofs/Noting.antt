-- What a body is to have is one need.
use Rattle.std.proofs.Common.{◌≡◌, List, [], ◌∷◌, Bool, true, false, cond, Option, Some, refl, ap, ◌∙◌, sym}
use Rattle.hs_base.specs.declared.tree.expr.Name.{Name}
use Rattle.hs_base.specs.declared.tree.ty.Written.{Written}
use Rattle.rules_expansion.specs.trees.Trees.{T, ty_of, wr_of}
use Rattle.rules_typing.specs.Typing.{Fault, is, refusal}
use Rattle.typing_judge.specs.Judging.{bad, good, met, with1}
use Rattle.typing_judge.specs.JudgingScripts.{ends}
use Rattle.typing_judge.specs.Least.{least}
use Rattle.typing_table.specs.declared.table.TypeNode.{TypeNode}
use Rattle.typing_table.specs.declared.ty.TypeTerm.{TypeTerm}
use Rattle.typing_table.specs.Meaning.{type_in}
use Rattle.typing_parts.specs.Judged.{unmet1}
use Rattle.typing_parts.specs.Views.{opt_ty}

one_need : (b : Bool) (f : Fault) (u : T) → cond b [] (f ∷ []) ≡ (cond b (good u) (bad f)).faults
one_need true f u = refl
one_need false f u = refl

pub ended : (o : Option Fault) (x : Name) (w : Written) (ms : List TypeNode) (t : Option TypeTerm) (v : TypeTerm) → t ≡ Some v
    → least o (unmet1 x.pos (is (ty_of w.ty) (type_in ms v))) ≡ least o (with1 (opt_ty ms t) (ends x (wr_of w))).faults
ended o x w ms t v e =
    let u = type_in ms v in
    ap (least o) (one_need (met (is (ty_of w.ty) u)) (refusal x.pos (is (ty_of w.ty) u)) u) ∙ sym (ap (λ z. least o (with1 (opt_ty ms z) (ends x (wr_of w))).faults) e)
