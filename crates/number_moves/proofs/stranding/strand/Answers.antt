use Rattle.std.proofs.Common.{◌≡◌, true, length, sym, ap, ◌∙◌, arith}
use Rattle.hs_rules.specs.declared.entry.Entry.TheVariants as entry
use Rattle.rules_code.specs.declared.code.CodeBody.{CodeBody}
use Rattle.local_steps.specs.Machine.{funs_of}
use Rattle.slot_states.specs.SlotStates.{strands}
use Rattle.slot_states.specs.entering.Entering.{entered, rest_from}
use Rattle.number_states.specs.States.{slots}
use Rattle.number_changes.proofs.Made.{of_copy, makes}
use Rattle.number_moves.proofs.Strands.{strands_none, strands_some}
use Rattle.number_moves.proofs.stranding.strand.Goals as goal

-- src/stranding.rt
pub returns-clause-is : goal.returns-clause-is
returns-clause-is c = λ b.
    let g = c.args.numbers.now in
    let x = c.args.state.now in
    let h = c.strand_all.new.numbers in
    let y = c.strand_all.new.state in
    let ts = c.as_slice.result.now in
    let known = c.in_ok-strand_all.ensures {u = tt} in
    let awake : length x.sleepers.items ≡ 0 = omega (arith, x.sleepers.ok.0) in
    let rests : rest_from (slots g b x).flight 0 (slots g b x).threads ≡ true = sym (c.in_ok-all_rest.ensures {u = tt} b) ∙ c.if-not-branch.false in
    let some : length ts ≡ 0 → ⊥ = λ e. omega (arith, e, c.in_ok-stranded.stranded.ok.0, ap length c.as_slice.ensures.value) in
    let f = λ (b : CodeBody). strands ts in
    makes f (λ s. entered (funs_of b) s entry.Stranded) b g h x y c.requires known.grows (of_copy f g h x c.in_ok-next.next y (c.in_ok-next.ensures {u = tt}) known.is)
    (strands_some x.sleepers.items ts (slots g b x) awake rests (c.as_slice.ensures.value ∙ c.in_ok-stranded.ensures {u = tt} b) some)

pub returns-then-len-ne0-clause-is : goal.returns-then-len-ne0-clause-is
returns-then-len-ne0-clause-is c = λ b.
    let x = c.args.state.now in
    strands_none x.sleepers.items (slots c.args.numbers.now b x) (λ e. omega (arith, e, x.sleepers.ok.0))
