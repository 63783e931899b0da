-- What places and replies in numbers are in the words of one cell alone.
use Rattle.std.specs.Prelude.{ℕ, List, [], ◌∷◌}
use Rattle.rules_waiting.specs.OneCell as one
use Rattle.number_states.specs.declared.waits.places.Want.{Want}
use Rattle.number_states.specs.declared.waits.places.Want.TheVariants as want
use Rattle.number_states.specs.declared.waits.places.Place.{Place}
use Rattle.number_states.specs.declared.waits.places.Answer.{Answer}
use Rattle.number_states.specs.declared.waits.places.Answer.TheVariants as answer
use Rattle.number_states.specs.declared.waits.places.Reply.{Reply}

abbrev pub want_of : Want → one.Want ℕ
want_of want.Take = one.To_take
want_of want.Read = one.To_read
want_of (want.Put v) = one.To_put v

-- a line, place by place
abbrev pub places : List Place → List (one.Place ℕ)
places [] = []
places (p ∷ ps) = record { thread = p.thread; want = want_of p.want } ∷ places ps

abbrev pub answer_of : Answer → one.Answer ℕ
answer_of (answer.Took v) = one.Took v
answer_of (answer.Saw v) = one.Saw v
answer_of answer.Gave = one.Gave
answer_of (answer.TriedTake o) = one.Tried_take o
answer_of (answer.TriedPut b) = one.Tried_put b

-- replies, one by one
abbrev pub answers : List Reply → List (one.Reply ℕ)
answers [] = []
answers (r ∷ rs) = one.reply_of r.thread (answer_of r.answer) ∷ answers rs

-- who is answered
abbrev pub threads_of : List Reply → List ℕ
threads_of [] = []
threads_of (r ∷ rs) = r.thread ∷ threads_of rs
