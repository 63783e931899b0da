use Rattle.std.proofs.Common.{rules, ◌≡◌, ◌<◌, sym, ap, ◌∙◌, subst, Some, [], ◌∷◌}
use mathlib.Core.List.{IsPrefix}
use Rattle.atomic_table.specs.Table.{rest}
use Rattle.conc_turn.specs.declared.view.View.{View}
use Rattle.conc_turn.proofs.Keeps.{may_give}
use Rattle.conc_turn.proofs.turn.Held.give.Goals as goal

pub store-requires : goal.store-requires
store-requires g c = let x = c.exchange-was.ensures in let h = c.requires.taken in
    let view : c.exchange-was.new.seat.me.0 ≡ c.args.self.seat.me.0 = ap (λ m. m.0) x.3 in
    let out : c.exchange-was.new.seat.me.1 ≡ (0, Some c.args.self.kept) ∷ [] = ap (λ m. m.1) x.3 ∙ ap (λ l. (0, Some c.args.self.kept) ∷ rest l) h.4 in (
      search rules,
      search rules,
      may_give g.D.Kept.plan g.D.Kept.history _ _ _ c.exchange-was.new.seat.me c.args.self.kept out (ap (λ v. v.holds) view ∙ h.1) (subst (λ (v : View). 0 < v.shares) (sym view) h.2) (sym c.requires.plan ∙ sym (ap (λ v. v.plan) view))
          (subst (λ (v : View). IsPrefix v.found (g.D.Kept.history c.args.self.kept)) (sym view) c.requires.history),
    )
