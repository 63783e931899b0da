use Rattle.std.proofs.Common.{◌≡◌, ◌≤◌, ◌<◌, ℕ, Option, Some, None, MatchOption, length, refl, arith}
use Rattle.rules_code.specs.declared.code.CodeBody.{CodeBody}
use Rattle.outcome_listing.specs.declared.bounds.Bounds.{Bounds}
use Rattle.state_search.specs.declared.found.Found.{Found}
use Rattle.state_search.specs.Working.{Going, HasBegun}
use Rattle.state_search.proofs.Arriving.{nothing_yet}
use Rattle.state_search.proofs.found.Found.begin.Goals as goal

-- the first state arrives, or there is a gap
begun_so : (bounds : Bounds) (b : CodeBody) (f h : Found) (o : Option (ℕ × ℕ)) → MatchOption o (h.gap ≡ None → ⊥) (λ r. (n : ℕ) → n ≤ length f.states → Going bounds b n f → r.0 < length h.states) → Going bounds b 0 f → HasBegun h
begun_so bounds b f h None gap going none = absurd (gap none)
begun_so bounds b f h (Some r) arrived going none = let w = arrived 0 (omega arith) going in omega arith

-- src/going.rt
pub arrive-requires-clause-rules : goal.arrive-requires-clause-rules
arrive-requires-clause-rules c = c.new-2.ensures c.args.body.now c.first.new.numbers

pub returns : goal.returns
returns c =
    let bounds = c.args.bounds.now in
    let b = c.args.body.now in
    let f : Found = record { numbers = c.first.new.numbers; rules = c.new-2.result; states = c.new-3.result; origins = c.new-4.result; kinds = c.new-5.result; moves = c.new-6.result; gap = None } in
    let arrived = c.in_ok-arrive.ensures in
    let nothing : Going bounds b 0 f = nothing_yet bounds b f (c.new-2.ensures b c.first.new.numbers) c.new-3.ensures c.new-4.ensures.items c.new-5.ensures.items c.new-6.ensures.items refl in
    record { going = arrived.going 0 (omega arith) nothing; begun = begun_so bounds b f c.arrive.new.self c.in_ok-arrive.field-0 arrived.arrived nothing }
