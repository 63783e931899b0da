use Rattle.std.proofs.Common.{◌≡◌, ◌≤◌, ◌<◌, ℕ, subst, arith}
use Rattle.hs_base.specs.declared.limits.Limits.{Limits}
use Rattle.hs_rules.specs.declared.entry.LimitKind.TheVariants as limit
use Rattle.slot_states.specs.SlotStates.{SlotState}
use Rattle.slot_states.specs.Resting.{used}
use Rattle.number_states.specs.States.{slots}
use Rattle.search_laws.specs.Shown.{FitsIn}
use Rattle.state_search.proofs.kinds.exceeded.Goals as goal

-- what is counted is past a limit, or isn't
past : (most n u : ℕ) → most < n → n ≡ u → most < u
past most n u h e = omega arith

within : (most n u : ℕ) → n ≤ most → n ≡ u → most < u → ⊥
within most n u h e k = absurd (omega arith)

fits : (limits : Limits) (x : SlotState) (t c f o : ℕ) → t ≤ limits.threads → t ≡ used limit.Threads x → c ≤ limits.cells → c ≡ used limit.Cells x → f ≤ limits.frames → f ≡ used limit.Frames x → o ≤ limits.output → o ≡ used limit.Output x → FitsIn limits x
fits limits x t c f o ht et hc ec hf ef ho eo limit.Threads = subst (λ n. n ≤ limits.threads) et ht
fits limits x t c f o ht et hc ec hf ef ho eo limit.Cells = subst (λ n. n ≤ limits.cells) ec hc
fits limits x t c f o ht et hc ec hf ef ho eo limit.Frames = subst (λ n. n ≤ limits.frames) ef hf
fits limits x t c f o ht et hc ec hf ef ho eo limit.Output = subst (λ n. n ≤ limits.output) eo ho

-- src/kinds.rt
pub returns-then-branch-limits-2 : goal.returns-then-branch-limits-2
returns-then-branch-limits-2 c = λ b. (
  within c.args.limits.now.threads c.in_ok-used.field-0 (used limit.Threads (slots c.args.numbers.now b c.args.state.now)) c.if-branch-limits.false (c.in_ok-used.ensures {u = tt} b),
  past c.args.limits.now.cells c.in_ok-used-2.field-0 (used limit.Cells (slots c.args.numbers.now b c.args.state.now)) c.if-branch-limits-2.true (c.in_ok-used-2.ensures {u = tt} b),
)

pub returns-then-branch-limits-3 : goal.returns-then-branch-limits-3
returns-then-branch-limits-3 c = λ b. (
  within c.args.limits.now.threads c.in_ok-used.field-0 (used limit.Threads (slots c.args.numbers.now b c.args.state.now)) c.if-branch-limits.false (c.in_ok-used.ensures {u = tt} b),
  within c.args.limits.now.cells c.in_ok-used-2.field-0 (used limit.Cells (slots c.args.numbers.now b c.args.state.now)) c.if-branch-limits-2.false (c.in_ok-used-2.ensures {u = tt} b),
  past c.args.limits.now.frames c.in_ok-used-3.field-0 (used limit.Frames (slots c.args.numbers.now b c.args.state.now)) c.if-branch-limits-3.true (c.in_ok-used-3.ensures {u = tt} b),
)

pub returns-then-branch-limits-4 : goal.returns-then-branch-limits-4
returns-then-branch-limits-4 c = λ b. (
  within c.args.limits.now.threads c.in_ok-used.field-0 (used limit.Threads (slots c.args.numbers.now b c.args.state.now)) c.if-branch-limits.false (c.in_ok-used.ensures {u = tt} b),
  within c.args.limits.now.cells c.in_ok-used-2.field-0 (used limit.Cells (slots c.args.numbers.now b c.args.state.now)) c.if-branch-limits-2.false (c.in_ok-used-2.ensures {u = tt} b),
  within c.args.limits.now.frames c.in_ok-used-3.field-0 (used limit.Frames (slots c.args.numbers.now b c.args.state.now)) c.if-branch-limits-3.false (c.in_ok-used-3.ensures {u = tt} b),
  past c.args.limits.now.output c.in_ok-used-4.field-0 (used limit.Output (slots c.args.numbers.now b c.args.state.now)) c.if-branch-limits-4.true (c.in_ok-used-4.ensures {u = tt} b),
)

pub returns : goal.returns
returns c = λ b.
    fits c.args.limits.now (slots c.args.numbers.now b c.args.state.now) c.in_ok-used.field-0 c.in_ok-used-2.field-0 c.in_ok-used-3.field-0 c.in_ok-used-4.field-0 c.if-branch-limits.false (c.in_ok-used.ensures {u = tt} b)
    c.if-branch-limits-2.false (c.in_ok-used-2.ensures {u = tt} b) c.if-branch-limits-3.false (c.in_ok-used-3.ensures {u = tt} b) c.if-branch-limits-4.false (c.in_ok-used-4.ensures {u = tt} b)
