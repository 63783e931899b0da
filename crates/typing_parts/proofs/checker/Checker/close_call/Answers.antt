use Rattle.std.proofs.Common.{◌≡◌, ◌∷◌, [], cond, Some, ltb, refl, ap, ◌∙◌, sym}
use Rattle.std.proofs.lemmas.Bool.{le-ltb, ne_eqb}
use Rattle.rules_typing.specs.Typing.{arity, forward, kind, wrong, takes, meant, meant_args, meant_sig, meant_sort, shown_count}
use Rattle.typing_judge.specs.Least.{least}
use Rattle.typing_table.specs.Meaning.{known, type_in}
use Rattle.typing_parts.specs.Contexts.{ctx_of}
use Rattle.typing_parts.specs.Judged.{kept, names}
use Rattle.typing_parts.specs.Views.{opt_sig, opt_sort, opt_tys, place_types}
use Rattle.typing_parts.proofs.Arguments.{judged_wrong}
use Rattle.typing_parts.proofs.Indexes.{find_sigs}
use Rattle.typing_parts.proofs.Tables.{look-scope}
use Rattle.typing_parts.proofs.checker.Checker.close_call.Goals as goal

pub returns-then-n-ne0 : goal.returns-then-n-ne0
returns-then-n-ne0 c =
    let ms = c.args.funs.now.types.nodes in
    let x = c.args.x.now in
    let n = c.args.n in
    let s = names ms c.args.self.now in
    let f = arity x.pos 0 (shown_count n) in
    let e : meant (ctx_of c.args.funs.now) s x n ≡ wrong f =
    ap (meant_sort (ctx_of c.args.funs.now) x n) (look-scope ms c.args.self.now.scope.items x.text ∙ ap (opt_sort ms) (c.in-Some-Value.ensures ∙ ap Some c.in-Some-Value.field-0-is))
    ∙ ap (λ b. cond b (takes [] (type_in ms c.in-Some-Value.t)) (wrong f)) (ne_eqb 0 n (λ h. c.if-n-ne0.true (sym h))) in
    judged_wrong ms c.args.self.now (record { alloc = c.args.self.now.alloc; scope = c.args.self.now.scope; first = c.note-then-n-ne0.new.self }) x.pos (meant (ctx_of c.args.funs.now) s x n) f (opt_tys ms c.args.ts) e refl
    (c.note-then-n-ne0.ensures ∙ ap (λ z. least (kept c.args.funs.now.types.nodes c.args.self.now) (arity x.pos 0 z ∷ [])) c.shown_count.ensures)

pub returns-then-f-funs : goal.returns-then-f-funs
returns-then-f-funs c =
    let funs = c.args.funs.now in
    let ms = funs.types.nodes in
    let x = c.args.x.now in
    let n = c.args.n in
    let s = names ms c.args.self.now in
    let g = c.in-Some-find.f.now in
    let late = wrong (forward x.pos) in
    let called = meant_args x.pos n (place_types ms g.params) (known ms g.result) in
    let e : meant (ctx_of funs) s x n ≡ late =
    ap (meant_sort (ctx_of funs) x n) (look-scope ms c.args.self.now.scope.items x.text ∙ ap (opt_sort ms) c.in-None.ensures)
    ∙ (ap (meant_sig (ctx_of funs) x.pos n) (find_sigs ms funs.sigs x.text ∙ ap (opt_sig ms) c.in-Some-find.ensures)
    ∙ (ap (λ b. cond b (wrong (kind x.pos)) (cond (ltb g.place funs.here) called late)) c.if-f.false ∙ ap (λ b. cond b called late) (le-ltb g.place funs.here c.if-f-funs.true))) in
    judged_wrong ms c.args.self.now (record { alloc = c.args.self.now.alloc; scope = c.args.self.now.scope; first = c.note-then-f-funs.new.self }) x.pos (meant (ctx_of funs) s x n) (forward x.pos) (opt_tys ms c.args.ts) e refl c.note-then-f-funs.ensures
