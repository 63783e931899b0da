use Rattle.std.proofs.Common.{◌≡◌, Some, None, MatchOption, ◌∙◌, subst}
use Rattle.hs_base.specs.declared.mask.Mask.TheVariants.{Unmasked}
use Rattle.hs_rules.specs.declared.entry.Entry.TheVariants as entry
use Rattle.rules_code.specs.declared.code.CodeBody.{CodeBody}
use Rattle.slot_laws.specs.SlotRules.{locals}
use Rattle.slot_states.specs.SlotStates.{moves}
use Rattle.slot_states.specs.entering.Entering.{entered, local_entry}
use Rattle.local_steps.specs.Machine.{funs_of}
use Rattle.number_states.specs.Stocks.{term_at}
use Rattle.number_states.specs.States.{contents, thread_of, slots}
use Rattle.number_states.proofs.Growth.{all_in_on}
use Rattle.number_changes.proofs.Made.{of_copy, of_older, copy_in, makes, on_acting}
use Rattle.number_moves.proofs.Steps.{local_moves}
use Rattle.number_moves.proofs.local.local.Goals as goal

-- src/local.rt
pub move_to-requires-clause-state : goal.move_to-requires-clause-state
move_to-requires-clause-state c =
    let h = c.steps.new.numbers in
    copy_in h c.args.state.now c.in_ok-next.next (c.in_ok-next.ensures {u = tt}) (all_in_on c.args.numbers.now h (c.in_ok-term.ensures {u = tt}).grows (contents c.args.state.now) c.requires)

pub returns-clause-is : goal.returns-clause-is
returns-clause-is c =
    let b = c.args.body.now in
    let funs = funs_of b in
    let g = c.args.numbers.now in
    let h = c.steps.new.numbers in
    let x = c.args.state.now in
    let y = c.move_to.new.self in
    let th = c.in-Some.thread in
    let known = c.in_ok-term.ensures {u = tt} in
    let term = c.in-Some-2.term in
    let f = λ (b : CodeBody). moves c.args.t (term_at h b term) in
    let acts = c.in-Some.ensures {u = tt} in
    let led : locals funs Unmasked c.args.k (term_at g b th.term) ≡ Some (term_at h b term) =
    subst (λ o. MatchOption o (locals funs Unmasked c.args.k (term_at g b th.term) ≡ None) (λ n. locals funs Unmasked c.args.k (term_at g b th.term) ≡ Some (term_at h b n))) c.in-Some-2.is known.is in
    makes f (λ s. entered funs s (entry.Local c.args.t c.args.k)) b g h x y c.requires known.grows
    (of_older f g h h x y c.requires known.grows (of_copy f h h x c.in_ok-next.next y (c.in_ok-next.ensures {u = tt}) c.move_to.ensures))
    (on_acting g b x c.args.t th (λ u. local_entry funs c.args.t c.args.k u (slots g b x)) acts
    ∙ local_moves funs c.args.t c.args.k (thread_of g b th) (term_at h b term) (slots g b x) c.if-k-eq0.false c.if-thread.false led)
