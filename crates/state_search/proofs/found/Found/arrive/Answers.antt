use Rattle.std.proofs.Common.{◌≡◌, ◌+◌, length, refl}
use Rattle.state_search.specs.declared.found.Origin.{Origin}
use Rattle.state_search.specs.Meaning.{shown}
use Rattle.state_search.proofs.Keeping.{noted_so, ruled}
use Rattle.state_search.proofs.Arriving.{meets_left, rested, IsRested, comes_rested, arrives_rested, extends_on}
use Rattle.state_search.proofs.found.Found.arrive.Goals as goal

-- src/going.rt
pub returns-in-Some-clause-going : goal.returns-in-Some-clause-going
returns-in-Some-clause-going c = λ n within going.
    let bounds = c.args.bounds.now in
    let b = c.args.body.now in
    let f = c.args.self.now in
    let x = shown f.numbers b c.args.state in
    let first = rw c.in-Some.is at c.in_ok-kind.ensures in
    noted_so bounds b n f c.note.new.self c.note.ensures.same going c.note.ensures.gap
    (c.note.ensures.shows b bounds going.searched (x.slots, meets_left bounds b f c.args.entry c.args.parent x c.args.steps c.requires.left, first b, c.new.ensures.items))

pub returns-in-None : goal.returns-in-None
returns-in-None c =
    let bounds = c.args.bounds.now in
    let b = c.args.body.now in
    let f = c.args.self.now in
    let g = c.rest.new.numbers in
    let o : Origin = record { parent = c.args.parent; entry = c.args.entry; rest = c.rest.new.locals; steps = c.args.steps + c.in_ok-eager.eager } in
    let rests = c.in_ok-eager.ensures in
    let keep = c.in_ok-keep.ensures in
    let fits = rw c.in_default.is at c.in_ok-kind.ensures in
    let all : IsRested bounds b (shown f.numbers b c.args.state) o.rest.items (shown g b c.rest.new.state) × (length o.rest.items ≡ c.in_ok-eager.eager) =
    rested bounds b f.numbers g c.args.state c.forget_time.new.state c.rest.new.state c.new.result.items o.rest.items c.in_ok-eager.eager c.requires.there (fits b) c.forget_time.ensures rests.rests c.new.ensures.items rests.output rests.errors rests.grows in
    record {
      going = λ n within going.
          keep.going b n within (ruled bounds b n f g c.rest.new.rules going rests.grows rests.rules)
          (comes_rested bounds b f g c.rest.new.rules c.args.state c.rest.new.state o c.args.steps c.in_ok-eager.eager c.requires.left all refl going.searched rests.grows);
      arrived = rw c.in-None.is at keep.kept;
      extends = λ n within going. extends_on bounds b f g c.rest.new.rules c.keep.new.self going.searched rests.grows (keep.extends b);
      moves = keep.moves;
    }

pub returns-in-Some-2 : goal.returns-in-Some-2
returns-in-Some-2 c =
    let bounds = c.args.bounds.now in
    let b = c.args.body.now in
    let f = c.args.self.now in
    let g = c.rest.new.numbers in
    let o : Origin = record { parent = c.args.parent; entry = c.args.entry; rest = c.rest.new.locals; steps = c.args.steps + c.in_ok-eager.eager } in
    let rests = c.in_ok-eager.ensures in
    let keep = c.in_ok-keep.ensures in
    let fits = rw c.in_default.is at c.in_ok-kind.ensures in
    let kept = rw c.in-Some-2.is at keep.kept in
    let all : IsRested bounds b (shown f.numbers b c.args.state) o.rest.items (shown g b c.rest.new.state) × (length o.rest.items ≡ c.in_ok-eager.eager) =
    rested bounds b f.numbers g c.args.state c.forget_time.new.state c.rest.new.state c.new.result.items o.rest.items c.in_ok-eager.eager c.requires.there (fits b) c.forget_time.ensures rests.rests c.new.ensures.items rests.output rests.errors rests.grows in
    record {
      going = λ n within going.
          keep.going b n within (ruled bounds b n f g c.rest.new.rules going rests.grows rests.rules)
          (comes_rested bounds b f g c.rest.new.rules c.args.state c.rest.new.state o c.args.steps c.in_ok-eager.eager c.requires.left all refl going.searched rests.grows);
      arrived = λ n within going.
          arrives_rested bounds b f g c.rest.new.rules c.args.state c.rest.new.state o c.args.steps c.in_ok-eager.eager c.requires.left all refl going.searched rests.grows c.keep.new.self c.in-Some-2.number (keep.extends b) (kept b);
      extends = λ n within going. extends_on bounds b f g c.rest.new.rules c.keep.new.self going.searched rests.grows (keep.extends b);
      moves = keep.moves;
    }
