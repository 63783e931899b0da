use Rattle.std.proofs.Common.{◌++◌, ◌∷◌, [], ap, ◌∙◌, vec_items}
use Rattle.std.specs.declared.snapshot.Snapshot.{Snapshot}
use Rattle.std.proofs.lemmas.Result.{err_from_is_err_and}
use Rattle.rules_code.specs.declared.code.CodeBody.{CodeBody}
use Rattle.rules_code.specs.Codes.{body_of}
use Rattle.trace_checker.proofs.Following.{fewer_bytes, none_read, some_read}
use Rattle.lane_picture.specs.declared.film.Event.TheVariants as event
use Rattle.trace_picture.specs.declared.filming.Shot.{Shot}
use Rattle.trace_picture.specs.Looking.{frame_at}
use Rattle.trace_picture.proofs.Filmed.{films_begun, films_on, shot_of}
use Rattle.trace_picture.proofs.filming.shoot.Goals as goal

pub lines-init : goal.lines-init
lines-init c =
    films_begun (body_of c.args.code.now) c.args.text.now c.in_ok-walk.walk (vec_items c.add.new.film) c.in_ok-walk.ensures.ok
    (c.in_ok-add.ensures ∙ ap (λ z. z ++ frame_at event.Nothing c.in_ok-walk.walk.player.world ∷ []) c.new-film.ensures.items)

pub play-requires : goal.play-requires
play-requires c = ap (λ (z : Snapshot CodeBody). z.value) c.next.ensures.of ∙ c.lines.invariant.far.of

pub returns-in_err-play-clause-err : goal.returns-in_err-play-clause-err
returns-in_err-play-clause-err c =
    let h = c.lines.invariant in
    let read = some_read (body_of c.args.code.now) c.args.text.now h.list c.next.new.self c.in_ok-entry.field-0 c.in-Some.entry c.in-Some.is (c.in_ok-entry.ensures.ok (body_of c.args.code.now) c.args.text.now h.list h.far) in
    let p = err_from_is_err_and c.from_residual-in_err-play.result c.from_residual-in_err-play.ensures.1 in
    rw (p.1, p.2) (c.in_err-play.ensures.err (body_of c.args.code.now) c.args.text.now h.list read)

pub lines-preserved : goal.lines-preserved
lines-preserved c =
    let h = c.lines.invariant in
    let read = some_read (body_of c.args.code.now) c.args.text.now h.list c.next.new.self c.in_ok-entry.field-0 c.in-Some.entry c.in-Some.is (c.in_ok-entry.ensures.ok (body_of c.args.code.now) c.args.text.now h.list h.far) in
    let on = c.in_ok-play.ensures.ok (body_of c.args.code.now) c.args.text.now h.list read in
    films_on (body_of c.args.code.now) c.args.text.now h.list (vec_items c.lines.film) (vec_items c.add-in-Some.new.film) c.in-Some.entry c.next.new.self c.play.new.self read on h.filmed
    c.in_ok-event.event c.in_ok-event.ensures c.in_ok-add-2.ensures

pub lines-smaller : goal.lines-smaller
lines-smaller c =
    let h = c.lines.invariant in
    let read = some_read (body_of c.args.code.now) c.args.text.now h.list c.next.new.self c.in_ok-entry.field-0 c.in-Some.entry c.in-Some.is (c.in_ok-entry.ensures.ok (body_of c.args.code.now) c.args.text.now h.list h.far) in
    let on = c.in_ok-play.ensures.ok (body_of c.args.code.now) c.args.text.now h.list read in
    fewer_bytes c.args.text.now c.lines.walk.lines.rest c.play.new.self.lines.rest h.list c.in-Some.entry h.far.read on.read

pub returns-clause-ok : goal.returns-clause-ok
returns-clause-ok c =
    let h = c.lines.invariant in
    let end = none_read (body_of c.args.code.now) c.args.text.now h.list c.next.new.self c.in_ok-entry.field-0 c.in_default.not-Some (c.in_ok-entry.ensures.ok (body_of c.args.code.now) c.args.text.now h.list h.far) in
    let shot : Shot = record { film = c.lines.film; threads = c.in_ok-threads.threads; cells = c.in_ok-threads.cells } in
    shot_of (body_of c.args.code.now) c.args.text.now h.list c.next.new.self shot end.1 end.0 h.filmed c.in_ok-threads.ensures.0 c.in_ok-threads.ensures.1
