use Rattle.std.proofs.Common.{sym, ◌∙◌}
use Rattle.trace_text.proofs.Numbers.{no_digits, digits_are_text}
use Rattle.trace_text.proofs.number.value.Goals as goal

pub returns-in_err-text : goal.returns-in_err-text
returns-in_err-text c = absurd (no_digits c.from_utf8.result _ _ _ c.from_utf8.ensures.cases (digits_are_text c.args.digits.now c.requires.digits) (sym c.ok.ensures.value ∙ c.in_err-text.was))
