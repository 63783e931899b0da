-- The main thread of a player is there.
use Rattle.std.proofs.Props.{props}
use Rattle.std.proofs.Math.Logic.{∥∥₁_elim}
use Rattle.std.proofs.Common.{◌≡◌, get_or, ◌<◌, length, Bool, true, false, not, Some, refl, sym, ap, ◌∙◌, slice_get}
use Rattle.std.specs.Prelude.{MatchBool}
use Rattle.std.proofs.lemmas.Option.{slice_get_read}
use Rattle.thread_table.specs.declared.thread.Thread.{Thread}
use Rattle.world_entries.specs.Worlds.{Goes}
use Rattle.run_course.proofs.history_lemmas.Finished.{main_below}
use Rattle.trace_checker.specs.declared.player.player.Player.{Player}

pub some_main : (p : Player) → 0 < length p.world.threads.list.items
some_main p = ∥∥₁_elim p.live (hlevel props) (λ k. main_below p.of.value k.0 p.world k.1)

-- as it is read
pub main_is : (p : Player) (th : Thread) → th ≡ get_or p.world.threads.list.items 0 th → slice_get p.world.threads.list.items 0 ≡ Some th
main_is p th e = slice_get_read p.world.threads.list.items (length p.world.threads.list.items) 0 th refl (some_main p) e

-- whether it hasn't finished
pub main_tells : (p : Player) (th : Thread) → slice_get p.world.threads.list.items 0 ≡ Some th → (f : Bool) → th.finished ≡ f → MatchBool (not f) (Goes p.world) (Goes p.world → ⊥)
main_tells p th is false e = record { main = th; is = is; unfinished = e }
main_tells p th is true e = λ g. let z : Some g.main ≡ Some th = sym g.is ∙ is in let same : g.main ≡ th = cc z in let q : false ≡ true = sym g.unfinished ∙ (ap (λ (y : Thread). y.finished) same ∙ e) in cc q
