use Rattle.std.proofs.Common.{refl, arith}
use Rattle.trace_checker.proofs.player_lemmas.Main.{some_main, main_is, main_tells}
use Rattle.trace_checker.proofs.player.player.Player.goes.Goals as goal

pub index-requires : goal.index-requires
index-requires c = let p = c.args.self.now in let some = some_main p in let size = p.world.threads.list.ok.0 in omega arith

pub returns : goal.returns
returns c =
    let p = c.args.self.now in
    main_tells p c.index.result.now (main_is p c.index.result.now c.index.ensures) c.index.result.now.finished refl
