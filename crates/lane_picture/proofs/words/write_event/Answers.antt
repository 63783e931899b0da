use Rattle.std.proofs.Common.{◌≡◌, ◌++◌, OnOk, string_bytes, subst, sym}
use Rattle.lane_picture.specs.declared.film.Event.{Event}
use Rattle.lane_picture.specs.Words.{event_words}
use Rattle.lane_picture.proofs.words.write_event.Goals as goal

pub returns-in-Steps : goal.returns-in-Steps
returns-in-Steps c = subst (λ (d : Event). OnOk c.write_steps.result (string_bytes c.write_steps.new.text ≡ string_bytes c.args.text.now ++ event_words c.args.before.now c.args.after.now d)) (sym c.in-Steps.is) c.write_steps.ensures

pub returns-in-Wakes : goal.returns-in-Wakes
returns-in-Wakes c = subst (λ (d : Event). OnOk c.write_wakes.result (string_bytes c.write_wakes.new.text ≡ string_bytes c.args.text.now ++ event_words c.args.before.now c.args.after.now d)) (sym c.in-Wakes.is) c.write_wakes.ensures

pub returns-in-Returns : goal.returns-in-Returns
returns-in-Returns c = subst (λ (d : Event). OnOk c.write_returns.result (string_bytes c.write_returns.new.text ≡ string_bytes c.args.text.now ++ event_words c.args.before.now c.args.after.now d)) (sym c.in-Returns.is) c.write_returns.ensures

pub returns-in-Fails : goal.returns-in-Fails
returns-in-Fails c = subst (λ (d : Event). OnOk c.write_fails.result (string_bytes c.write_fails.new.text ≡ string_bytes c.args.text.now ++ event_words c.args.before.now c.args.after.now d)) (sym c.in-Fails.is) c.write_fails.ensures

pub returns-in-Ticks : goal.returns-in-Ticks
returns-in-Ticks c = subst (λ (d : Event). OnOk c.write_ticks.result (string_bytes c.write_ticks.new.text ≡ string_bytes c.args.text.now ++ event_words c.args.before.now c.args.after.now d)) (sym c.in-Ticks.is) c.write_ticks.ensures
