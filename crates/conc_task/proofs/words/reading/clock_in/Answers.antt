use Rattle.std.proofs.Common.{◌≡◌, ◌∙◌, Bool, cond, Some, None, true, false, refl, sym, ap, codes}
use Rattle.std.specs.Prelude.{option_and_then}
use Rattle.std.proofs.lemmas.Slice.Eq.{bytes_eq-Decides}
use Rattle.clap.specs.Words.{Text, found_of}
use Rattle.clap.proofs.WalkLemmas.{first_value-rows}
use Rattle.hs_base.specs.declared.clock_choice.ClockChoice.TheVariants.{Real, Virtual}
use Rattle.conc_task.specs.words.Commands.{named_clock}
use Rattle.conc_task.proofs.words.reading.clock_in.Goals as goal

-- a text that is neither name names no clock
other : (text : Text) → (text ≡ codes "real" → ⊥) → (text ≡ codes "virtual" → ⊥) → None ≡ named_clock text
other text not_real not_virtual = go _ _ (λ e. not_real ((bytes_eq-Decides text (codes "real")).0 e)) (λ e. not_virtual ((bytes_eq-Decides text (codes "virtual")).0 e))
  where
    go : (a b : Bool) → (a ≡ true → ⊥) → (b ≡ true → ⊥) → None ≡ cond a (Some Real) (cond b (Some Virtual) None)
    go true b p q = absurd (p refl)
    go false true p q = absurd (q refl)
    go false false p q = refl

pub returns-in_err-get_str : goal.returns-in_err-get_str
returns-in_err-get_str c = c.from_residual.ensures ∙ ap (option_and_then named_clock) (c.in_err-get_str.ensures ∙ first_value-rows (found_of c.args.entries.now) (codes "clock"))

pub returns-in-real : goal.returns-in-real
returns-in-real c = ap named_clock (sym c.in-real.is) ∙ ap (option_and_then named_clock) (c.in_ok-get_str.ensures ∙ first_value-rows (found_of c.args.entries.now) (codes "clock"))

pub returns-in-virtual : goal.returns-in-virtual
returns-in-virtual c = ap named_clock (sym c.in-virtual.is) ∙ ap (option_and_then named_clock) (c.in_ok-get_str.ensures ∙ first_value-rows (found_of c.args.entries.now) (codes "clock"))

pub returns-in_default : goal.returns-in_default
returns-in_default c =
    other c.in_ok-get_str.field-0.now c.in_default.not-real c.in_default.not-virtual
    ∙ ap (option_and_then named_clock) (c.in_ok-get_str.ensures ∙ first_value-rows (found_of c.args.entries.now) (codes "clock"))
