use Rattle.std.proofs.Common.{◌≡◌, sym, ap, ◌∙◌, subst, refl, Some, List}
use mathlib.Core.Option.{some-injective}
use Rattle.std.specs.Option.{IsSome}
use mathlib.Core.List.{IsPrefix}
use Rattle.hs_rules.specs.declared.entry.Entry.{Entry}
use Rattle.conc_turn.specs.Views.{view_in, IsAtRest}
use Rattle.conc_turn.proofs.Keeps.{left}
use Rattle.conc_turn.proofs.turn.Turn.close.Goals as goal

pub unwrap-kept-requires : goal.unwrap-kept-requires
unwrap-kept-requires g c = let e = ap view_in c.into_seat.ensures.2 in
    let l = left g.D.Kept.plan g.D.Kept.history _ _ _ _ _ (subst IsAtRest e c.args.seat.at_rest).0 (sym (ap (λ v. v.shares) e) ∙ c.requires.all) c.close_with-closed.ensures.values.2 in
    subst IsSome (some-injective _ _ (sym l.1 ∙ c.take.ensures.value)) refl

pub returns-clause-plan : goal.returns-clause-plan
returns-clause-plan g c = let e = ap view_in c.into_seat.ensures.2 in
    let l = left g.D.Kept.plan g.D.Kept.history _ _ _ _ _ (subst IsAtRest e c.args.seat.at_rest).0 (sym (ap (λ v. v.shares) e) ∙ c.requires.all) c.close_with-closed.ensures.values.2 in
    let is : Some c.unwrap-kept.result ≡ Some l.0 = sym c.unwrap-kept.ensures ∙ some-injective _ _ (sym c.take.ensures.value ∙ l.1) in
    ap g.D.Kept.plan (cc is) ∙ l.2

pub returns-clause-seen : goal.returns-clause-seen
returns-clause-seen g c = let e = ap view_in c.into_seat.ensures.2 in
    let l = left g.D.Kept.plan g.D.Kept.history _ _ _ _ _ (subst IsAtRest e c.args.seat.at_rest).0 (sym (ap (λ v. v.shares) e) ∙ c.requires.all) c.close_with-closed.ensures.values.2 in
    let is : Some l.0 ≡ Some c.unwrap-kept.result = sym (some-injective _ _ (sym c.take.ensures.value ∙ l.1)) ∙ c.unwrap-kept.ensures in
    let same : l.0 ≡ c.unwrap-kept.result = cc is in
    subst (λ (x : List Entry × g.row.D.Denot). IsPrefix x.0 (g.D.Kept.history x.1)) (λ i. (sym (ap (λ v. v.seen) e) i, same i)) l.3
