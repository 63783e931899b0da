use Rattle.std.proofs.Common.{sym, ap, ◌∙◌, subst, arith}
use Rattle.rules_meaning.specs.CoreMeaning.{code_of}
use Rattle.trace_checker.specs.declared.player.player.Reached.{Reached}
use Rattle.trace_checker.specs.player.Playing.{script, ReachedAs}
use Rattle.trace_checker.specs.player.Reaching.{ended_as}
use Rattle.trace_checker.proofs.player_lemmas.Ends.{reached_finished, reached_going}
use Rattle.trace_checker.proofs.player_lemmas.Following.{still_stood}
use Rattle.trace_checker.proofs.player_lemmas.Main.{some_main, main_is}
use Rattle.trace_checker.proofs.player.player.Player.reached.Goals as goal

pub index-main-requires : goal.index-main-requires
index-main-requires c = let p = c.args.self.now in let some = some_main p in let size = p.world.threads.list.ok.0 in omega arith

pub returns-then-main-clause-reached : goal.returns-then-main-clause-reached
returns-then-main-clause-reached c = λ es s played run.
    let p = c.args.self.now in
    let th = c.index-main.result.now in
    subst (λ (r : Reached). ReachedAs r (code_of (script p)) s) (sym (c.ended_as.ensures ∙ ap ended_as c.control.ensures))
    (reached_finished p es s played run th (main_is p th c.index-main.ensures) c.if-main.true)

pub next_of-requires : goal.next_of-requires
next_of-requires c =
    let p = c.args.self.now in
    let th = c.index-main.result.now in
    record { goes = record { main = th; is = main_is p th c.index-main.ensures; unfinished = c.if-main.false } }

pub invariant_of-self : goal.invariant_of-self
invariant_of-self c = let p = c.args.self.now in record { live = still_stood p.of.value p.world c.next_of.new.world c.next_of.ensures.same p.live }

pub returns-clause-reached : goal.returns-clause-reached
returns-clause-reached c = λ es s played run.
    let p = c.args.self.now in
    subst (λ (r : Reached). ReachedAs r (code_of (script p)) s) (sym c.going_as.ensures)
    (reached_going p es s played run c.next_of.result c.next_of.new.world c.next_of.ensures.same c.next_of.ensures.next)
