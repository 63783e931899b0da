use Rattle.std.proofs.Common.{◌≡◌, ◌≤◌, ◌<◌, ◌+◌, ◌^◌, refl, sym, ap, ◌∙◌, subst, arith, ◌∷◌, ◌++◌, [], length}
use Rattle.local_steps.specs.Machine.{funs_of}
use Rattle.number_states.specs.States.{contents, slots}
use Rattle.number_states.proofs.Growth.{all_in_on}
use Rattle.number_states.proofs.Changes.{got_mapped}
use Rattle.number_moves.proofs.rests_lemmas.Ruling.{rules_on}
use Rattle.search_laws.specs.Found.{IsFollowed}
use Rattle.search_laws.proofs.Growing.{followed_last}
use Rattle.state_search.specs.declared.found.Found.{Found}
use Rattle.state_search.specs.declared.found.Move.{Move}
use Rattle.state_search.specs.Meaning.{shown, edges_of, edge_of}
use Rattle.state_search.proofs.Keeping.{grown, noted_so}
use Rattle.state_search.proofs.Trying.{extends_on, extends_gap, extends_move, extends_grown, has_move, going_move, tried_none, tried_next, reads_here, reads_then, timeless_then, left_here, origin_there, few_steps}
use Rattle.state_search.proofs.found.Found.take.Goals as goal

-- ---- where the entry has no next state

pub returns-in_default-2-clause-going : goal.returns-in_default-2-clause-going
returns-in_default-2-clause-going c = grown c.args.bounds.now c.args.body.now c.args.at c.args.self.now c.next.new.numbers c.requires.going c.in_ok-left.ensures.grows

pub returns-in_default-2-clause-extends : goal.returns-in_default-2-clause-extends
returns-in_default-2-clause-extends c =
    extends_grown c.args.bounds.now c.args.body.now c.args.self.now c.args.at c.in-Some.state.now c.next.new.numbers c.args.entry c.requires.going (sym c.in-Some.ensures) c.in_ok-left.ensures.grows

pub returns-in_default-2-clause-tried : goal.returns-in_default-2-clause-tried
returns-in_default-2-clause-tried c =
    let is = rw c.in_default-2.is at c.in_ok-left.ensures.is in
    tried_none c.args.bounds.now c.args.body.now c.args.self.now c.args.at c.in-Some.state.now c.next.new.numbers c.args.entry c.requires.going (sym c.in-Some.ensures) c.in_ok-left.ensures.grows is

-- ---- where it reads the clock

pub reads_time-requires : goal.reads_time-requires
reads_time-requires c = all_in_on c.args.self.now.numbers c.next.new.numbers c.in_ok-left.ensures.grows (contents c.in-Some.state.now) (c.requires.going.searched.there c.args.at c.in-Some.state.now (sym c.in-Some.ensures))

pub returns-then-reads_time-clause-going : goal.returns-then-reads_time-clause-going
returns-then-reads_time-clause-going c =
    let b = c.args.body.now in
    let more = c.in_ok-left.ensures.grows in
    let old = grown c.args.bounds.now b c.args.at c.args.self.now c.next.new.numbers c.requires.going more in
    let is = rw c.in-Some-2.is at c.in_ok-left.ensures.is in
    let reads = reads_here c.args.bounds.now b c.args.self.now c.args.at c.in-Some.state.now c.next.new.numbers c.args.entry c.requires.going (sym c.in-Some.ensures) more (slots c.next.new.numbers b c.in-Some-2.left)
    (reads_then c.args.bounds.now b c.args.self.now c.args.at c.in-Some.state.now c.next.new.numbers c.args.entry c.requires.going (sym c.in-Some.ensures) more (c.if-reads_time.ensures b)) is in
    noted_so c.args.bounds.now b c.args.at (record c.args.self.now { numbers = c.next.new.numbers }) c.note.new.self c.note.ensures.same old c.note.ensures.gap (c.note.ensures.shows b c.args.bounds.now old.searched reads)

pub returns-then-reads_time-clause-extends : goal.returns-then-reads_time-clause-extends
returns-then-reads_time-clause-extends c =
    let b = c.args.body.now in
    let first = extends_grown c.args.bounds.now b c.args.self.now c.args.at c.in-Some.state.now c.next.new.numbers c.args.entry c.requires.going (sym c.in-Some.ensures) c.in_ok-left.ensures.grows in
    let found : Found = record c.args.self.now { numbers = c.next.new.numbers } in
    extends_on b c.args.self.now found c.note.new.self first (extends_gap b found c.note.new.self c.note.ensures.same c.note.ensures.gap)

pub returns-then-reads_time-clause-tried : goal.returns-then-reads_time-clause-tried
returns-then-reads_time-clause-tried c =
    let b = c.args.body.now in
    let found : Found = record c.args.self.now { numbers = c.next.new.numbers } in
    let is = rw c.in-Some-2.is at c.in_ok-left.ensures.is in
    tried_next c.args.bounds.now b c.args.self.now c.args.at c.in-Some.state.now c.next.new.numbers c.args.entry c.requires.going (sym c.in-Some.ensures) c.in_ok-left.ensures.grows
    c.note.new.self (slots c.next.new.numbers b c.in-Some-2.left) (extends_gap b found c.note.new.self c.note.ensures.same c.note.ensures.gap) is (λ none. absurd (c.note.ensures.gap none))

-- ---- where it is taken

pub overflow_add-steps : goal.overflow_add-steps
overflow_add-steps c = let h : c.index.result.now.steps + c.steps_by.result < 2 ^ 33 = subst (λ n. c.index.result.now.steps + n < 2 ^ 33) (sym c.steps_by.ensures) (few_steps c.args.bounds.now c.args.body.now c.args.self.now c.args.at c.index.result.now c.args.entry c.args.bounds.now.clock c.requires.going.searched (origin_there c.args.bounds.now c.args.body.now c.args.self.now c.args.at c.index.result.now c.requires.going c.requires.there c.index.ensures) (omega arith)) in omega arith

pub arrive-requires-clause-few : goal.arrive-requires-clause-few
arrive-requires-clause-few c = subst (λ n. c.index.result.now.steps + n < 2 ^ 33) (sym c.steps_by.ensures) (few_steps c.args.bounds.now c.args.body.now c.args.self.now c.args.at c.index.result.now c.args.entry c.args.bounds.now.clock c.requires.going.searched (origin_there c.args.bounds.now c.args.body.now c.args.self.now c.args.at c.index.result.now c.requires.going c.requires.there c.index.ensures) (omega arith))

pub arrive-requires-clause-rules : goal.arrive-requires-clause-rules
arrive-requires-clause-rules c = rules_on c.args.body.now c.args.self.now.numbers c.next.new.numbers c.args.self.now.rules c.in_ok-left.ensures.grows c.requires.going.rules

pub arrive-requires-clause-left : goal.arrive-requires-clause-left
arrive-requires-clause-left c =
    let b = c.args.body.now in
    let e = c.in_ok-left.ensures in
    let is = rw c.in-Some-2.is at e.is in
    let output = rw c.in-Some-2.is at e.output in
    let errors = rw c.in-Some-2.is at e.errors in
    let timeless = timeless_then c.args.bounds.now b c.args.self.now c.args.at c.in-Some.state.now c.next.new.numbers c.args.entry c.requires.going (sym c.in-Some.ensures) e.grows (c.if-reads_time.ensures b) in
    left_here c.args.bounds.now b c.args.self.now c.args.at c.in-Some.state.now c.next.new.numbers c.args.entry c.requires.going (sym c.in-Some.ensures) e.grows c.in-Some-2.left c.index.result.now
    (c.index.result.now.steps + c.steps_by.result) (origin_there c.args.bounds.now b c.args.self.now c.args.at c.index.result.now c.requires.going c.requires.there c.index.ensures)
    (c.requires.may (shown c.args.self.now.numbers b c.in-Some.state.now) (got_mapped (shown c.args.self.now.numbers b) c.args.self.now.states c.args.at c.in-Some.state.now (sym c.in-Some.ensures))) timeless is output errors (ap (λ n. c.index.result.now.steps + n) c.steps_by.ensures)

pub returns-in_default-3-clause-going : goal.returns-in_default-3-clause-going
returns-in_default-3-clause-going c =
    let old = grown c.args.bounds.now c.args.body.now c.args.at c.args.self.now c.next.new.numbers c.requires.going c.in_ok-left.ensures.grows in
    (c.in_ok-to.ensures {u = tt}).going c.args.at (omega (arith, c.requires.there)) old

pub returns-in_default-3-clause-extends : goal.returns-in_default-3-clause-extends
returns-in_default-3-clause-extends c =
    let b = c.args.body.now in
    let more = c.in_ok-left.ensures.grows in
    let old = grown c.args.bounds.now b c.args.at c.args.self.now c.next.new.numbers c.requires.going more in
    let first = extends_grown c.args.bounds.now b c.args.self.now c.args.at c.in-Some.state.now c.next.new.numbers c.args.entry c.requires.going (sym c.in-Some.ensures) more in
    extends_on b c.args.self.now (record c.args.self.now { numbers = c.next.new.numbers }) c.arrive.new.self first ((c.in_ok-to.ensures {u = tt}).extends c.args.at (omega (arith, c.requires.there)) old)

pub returns-in_default-3-clause-tried : goal.returns-in_default-3-clause-tried
returns-in_default-3-clause-tried c =
    let b = c.args.body.now in
    let more = c.in_ok-left.ensures.grows in
    let old = grown c.args.bounds.now b c.args.at c.args.self.now c.next.new.numbers c.requires.going more in
    let is = rw c.in-Some-2.is at c.in_ok-left.ensures.is in
    let gapped = rw c.in_default-3.is at (c.in_ok-to.ensures {u = tt}).arrived in
    tried_next c.args.bounds.now b c.args.self.now c.args.at c.in-Some.state.now c.next.new.numbers c.args.entry c.requires.going (sym c.in-Some.ensures) more c.arrive.new.self (slots c.next.new.numbers b c.in-Some-2.left)
    ((c.in_ok-to.ensures {u = tt}).extends c.args.at (omega (arith, c.requires.there)) old) is (λ none. absurd (gapped none))

-- ---- where it comes to a state

pub returns-in_ok-reserve-clause-going : goal.returns-in_ok-reserve-clause-going
returns-in_ok-reserve-clause-going c =
    let b = c.args.body.now in
    let more = c.in_ok-left.ensures.grows in
    let old = grown c.args.bounds.now b c.args.at c.args.self.now c.next.new.numbers c.requires.going more in
    let arrived = rw c.in-Some-3.is at (c.in_ok-to.ensures {u = tt}).arrived in
    let m : Move = record { from = c.args.at; entry = c.args.entry; to = c.in-Some-3.to; eager = c.in-Some-3.eager } in
    let h : Found = c.arrive.new.self in
    let k : Found = record h { moves = c.push_reserved.new.self } in
    let items : k.moves.items ≡ h.moves.items ++ m ∷ [] = c.push_reserved.ensures.items ∙ ap (λ ms. ms ++ m ∷ []) (c.in_ok-reserve.ensures {u = tt}).items in
    let within : c.args.at ≤ length c.args.self.now.states = omega (arith, c.requires.there) in
    going_move c.args.bounds.now b c.args.at h k m (has_move h k m refl items) ((c.in_ok-to.ensures {u = tt}).going c.args.at within old) refl (arrived c.args.at within old)

pub returns-in_ok-reserve-clause-extends : goal.returns-in_ok-reserve-clause-extends
returns-in_ok-reserve-clause-extends c =
    let b = c.args.body.now in
    let more = c.in_ok-left.ensures.grows in
    let old = grown c.args.bounds.now b c.args.at c.args.self.now c.next.new.numbers c.requires.going more in
    let m : Move = record { from = c.args.at; entry = c.args.entry; to = c.in-Some-3.to; eager = c.in-Some-3.eager } in
    let f : Found = record c.args.self.now { numbers = c.next.new.numbers } in
    let h : Found = c.arrive.new.self in
    let k : Found = record h { moves = c.push_reserved.new.self } in
    let items : k.moves.items ≡ h.moves.items ++ m ∷ [] = c.push_reserved.ensures.items ∙ ap (λ ms. ms ++ m ∷ []) (c.in_ok-reserve.ensures {u = tt}).items in
    let second = extends_on b f h k ((c.in_ok-to.ensures {u = tt}).extends c.args.at (omega (arith, c.requires.there)) old) (extends_move b h k m (has_move h k m refl items)) in
    extends_on b c.args.self.now f k (extends_grown c.args.bounds.now b c.args.self.now c.args.at c.in-Some.state.now c.next.new.numbers c.args.entry c.requires.going (sym c.in-Some.ensures) more) second

pub returns-in_ok-reserve-clause-tried : goal.returns-in_ok-reserve-clause-tried
returns-in_ok-reserve-clause-tried c =
    let b = c.args.body.now in
    let more = c.in_ok-left.ensures.grows in
    let old = grown c.args.bounds.now b c.args.at c.args.self.now c.next.new.numbers c.requires.going more in
    let is = rw c.in-Some-2.is at c.in_ok-left.ensures.is in
    let m : Move = record { from = c.args.at; entry = c.args.entry; to = c.in-Some-3.to; eager = c.in-Some-3.eager } in
    let f : Found = record c.args.self.now { numbers = c.next.new.numbers } in
    let h : Found = c.arrive.new.self in
    let k : Found = record h { moves = c.push_reserved.new.self } in
    let items : k.moves.items ≡ h.moves.items ++ m ∷ [] = c.push_reserved.ensures.items ∙ ap (λ ms. ms ++ m ∷ []) (c.in_ok-reserve.ensures {u = tt}).items in
    let move = has_move h k m refl items in
    let second = extends_on b f h k ((c.in_ok-to.ensures {u = tt}).extends c.args.at (omega (arith, c.requires.there)) old) (extends_move b h k m move) in
    let one = shown c.args.self.now.numbers b c.in-Some.state.now in
    tried_next c.args.bounds.now b c.args.self.now c.args.at c.in-Some.state.now c.next.new.numbers c.args.entry c.requires.going (sym c.in-Some.ensures) more k (slots c.next.new.numbers b c.in-Some-2.left) second is
    (λ none. subst (λ es. IsFollowed (funs_of b) es c.args.at one c.args.entry) (sym move.1) (followed_last (funs_of b) (edges_of h) (edge_of m) c.args.at one c.args.entry refl refl))
