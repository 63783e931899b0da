use Rattle.std.proofs.Common.{◌≡◌, ◌++◌, OnOk, codes, string_bytes, subst, sym}
use Rattle.lane_picture.specs.declared.film.Deed.{Deed}
use Rattle.lane_picture.specs.declared.film.Deed.TheVariants as deed
use Rattle.std.specs.Fmt.{decimal}
use Rattle.lane_picture.specs.Words.{deed_words}
use Rattle.lane_picture.proofs.words.write_deed.Goals as goal

pub returns-in-Takes : goal.returns-in-Takes
returns-in-Takes c = subst (λ (d : Deed). OnOk c.push_number-in-Takes.result (string_bytes c.push_number-in-Takes.new.text ≡ string_bytes c.args.text.now ++ deed_words c.args.before.now d)) (sym c.in-Takes.is) c.push_number-in-Takes.ensures

pub returns-in-Reads : goal.returns-in-Reads
returns-in-Reads c = subst (λ (d : Deed). OnOk c.push_number-in-Reads.result (string_bytes c.push_number-in-Reads.new.text ≡ string_bytes c.args.text.now ++ deed_words c.args.before.now d)) (sym c.in-Reads.is) c.push_number-in-Reads.ensures

pub returns-in-Puts : goal.returns-in-Puts
returns-in-Puts c = subst (λ (d : Deed). OnOk c.push_number-in-Puts.result (string_bytes c.push_number-in-Puts.new.text ≡ string_bytes c.args.text.now ++ deed_words c.args.before.now d)) (sym c.in-Puts.is) c.push_number-in-Puts.ensures

pub returns-in-TriesToTake : goal.returns-in-TriesToTake
returns-in-TriesToTake c = subst (λ (d : Deed). OnOk c.push_number-in-TriesToTake.result (string_bytes c.push_number-in-TriesToTake.new.text ≡ string_bytes c.args.text.now ++ deed_words c.args.before.now d)) (sym c.in-TriesToTake.is) c.push_number-in-TriesToTake.ensures

pub returns-in-TriesToPut : goal.returns-in-TriesToPut
returns-in-TriesToPut c = subst (λ (d : Deed). OnOk c.push_number-in-TriesToPut.result (string_bytes c.push_number-in-TriesToPut.new.text ≡ string_bytes c.args.text.now ++ deed_words c.args.before.now d)) (sym c.in-TriesToPut.is) c.push_number-in-TriesToPut.ensures

pub returns-in-Throws : goal.returns-in-Throws
returns-in-Throws c = subst (λ (d : Deed). OnOk c.write_throws.result (string_bytes c.write_throws.new.text ≡ string_bytes c.args.text.now ++ deed_words c.args.before.now d)) (sym c.in-Throws.is) c.write_throws.ensures

pub returns-in-Delays : goal.returns-in-Delays
returns-in-Delays c = subst (λ (d : Deed). OnOk c.push.result (string_bytes c.push.new.text ≡ string_bytes c.args.text.now ++ deed_words c.args.before.now d)) (sym c.in-Delays.is) c.push.ensures

pub returns-in-Acquires : goal.returns-in-Acquires
returns-in-Acquires c = subst (λ (d : Deed). OnOk c.push-in-Acquires.result (string_bytes c.push-in-Acquires.new.text ≡ string_bytes c.args.text.now ++ deed_words c.args.before.now d)) (sym c.in-Acquires.is) c.push-in-Acquires.ensures

pub returns-in-Releases : goal.returns-in-Releases
returns-in-Releases c = subst (λ (d : Deed). OnOk c.push-in-Releases.result (string_bytes c.push-in-Releases.new.text ≡ string_bytes c.args.text.now ++ deed_words c.args.before.now d)) (sym c.in-Releases.is) c.push-in-Releases.ensures

pub returns-in-Asks : goal.returns-in-Asks
returns-in-Asks c = subst (λ (d : Deed). OnOk c.push-in-Asks.result (string_bytes c.push-in-Asks.new.text ≡ string_bytes c.args.text.now ++ deed_words c.args.before.now d)) (sym c.in-Asks.is) c.push-in-Asks.ensures

pub returns-in-Reports : goal.returns-in-Reports
returns-in-Reports c =
    let told = c.as_str-in-Reports.ensures in
    subst (λ (d : Deed). OnOk c.push_both-in-Reports.result (string_bytes c.push_both-in-Reports.new.text ≡ string_bytes c.args.text.now ++ deed_words c.args.before.now d)) (sym c.in-Reports.is)
    (subst (λ x. OnOk c.push_both-in-Reports.result (string_bytes c.push_both-in-Reports.new.text ≡ string_bytes c.args.text.now ++ deed_words c.args.before.now (deed.Reports x))) told c.push_both-in-Reports.ensures)

pub returns-in-Forks : goal.returns-in-Forks
returns-in-Forks c =
    subst (λ (d : Deed). OnOk c.push_number-in-Forks.result (string_bytes c.push_number-in-Forks.new.text ≡ string_bytes c.args.text.now ++ deed_words c.args.before.now d)) (sym c.in-Forks.is)
    (subst (λ n. OnOk c.push_number-in-Forks.result (string_bytes c.push_number-in-Forks.new.text ≡ string_bytes c.args.text.now ++ (codes "forks thread " ++ decimal n))) c.len-in-Forks.ensures c.push_number-in-Forks.ensures)
