use Rattle.std.proofs.Common.{List, ◌≡◌}
use Rattle.std.specs.Prelude.{◌⊎◌}
use Rattle.std.proofs.Common.{inl}
use Rattle.conc_outcomes.specs.declared.order.ended.Ended.{Ended}
use Rattle.conc_outcomes.specs.order.Rising.{IsRising, Holds}
use Rattle.conc_outcomes.proofs.order_lemmas.Placing.{put_or_not, put_where_ok, put_rising, put_keeps, put_only, on_ok, on_err}
use Rattle.conc_outcomes.proofs.order.endings.put.Goals as goal
use Rattle.conc_outcomes.proofs.order.endings.put.Goals.{in-Ok, in-Err}

pub returns-clause-rising : goal.returns-clause-rising
returns-clause-rising c =
    let xs = c.args.list.now.items in
    put_or_not IsRising _ xs c.insert.new.self.items c.args.place c.args.ended c.insert.ensures.items c.requires.rising (put_rising c.args.place xs c.args.ended c.requires.rising c.requires.place)

pub returns-clause-has : goal.returns-clause-has
returns-clause-has c =
    elim c.match-insert.branch [
      | in-Ok w ↦ on_ok c.match-insert.result (put_where_ok c.insert.result _ c.args.list.now.items c.insert.new.self.items c.args.place c.args.ended c.insert.ensures.items w.in-Ok.is)
      | in-Err w ↦ on_err _ c.match-insert.result _ w.result-is
    ]

pub returns-clause-keeps : goal.returns-clause-keeps
returns-clause-keeps c =
    let xs = c.args.list.now.items in
    put_or_not (λ (zs : List Ended). (e : Ended) → Holds xs e → Holds zs e) _ xs c.insert.new.self.items c.args.place c.args.ended c.insert.ensures.items (λ e h. h) (put_keeps c.args.place xs c.args.ended)

pub returns-clause-only : goal.returns-clause-only
returns-clause-only c =
    let xs = c.args.list.now.items in
    put_or_not (λ (zs : List Ended). (e : Ended) → Holds zs e → Holds xs e ⊎ (e ≡ c.args.ended)) _ xs c.insert.new.self.items c.args.place c.args.ended c.insert.ensures.items (λ e h. inl h) (put_only c.args.place xs c.args.ended)
