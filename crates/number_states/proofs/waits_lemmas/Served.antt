-- Lines of places in numbers, and replies.
use Rattle.std.proofs.Common.{◌≡◌, ℕ, ◌≤◌, ◌==◌, not, true, false, cond, List, [], ◌∷◌, ◌++◌, length, drop, refl, ap, ◌∙◌, arith}
use Rattle.std.specs.List.{filter}
use Rattle.rules_waiting.specs.OneCell as one
use Rattle.rules_waiting.specs.OneCell.{leaves_line, shown}
use Rattle.number_states.specs.declared.waits.places.Place.{Place}
use Rattle.number_states.specs.declared.waits.places.Reply.{Reply}
use Rattle.number_states.specs.waits.Places.{places, want_of, answers, answer_of, threads_of}

pub places_append : (ps qs : List Place) → places (ps ++ qs) ≡ places ps ++ places qs
places_append [] qs = refl
places_append (p ∷ ps) qs = let here : one.Place ℕ = record { thread = p.thread; want = want_of p.want } in ap (λ rs. here ∷ rs) (places_append ps qs)

pub answers_append : (rs qs : List Reply) → answers (rs ++ qs) ≡ answers rs ++ answers qs
answers_append [] qs = refl
answers_append (r ∷ rs) qs = ap (λ xs. one.reply_of r.thread (answer_of r.answer) ∷ xs) (answers_append rs qs)

-- the places of all others
pub left : (t : ℕ) (ps : List Place) → places (filter (λ (p : Place). not (p.thread == t)) ps) ≡ leaves_line t (places ps)
left t [] = refl
left t (p ∷ ps) =
    let rest = left t ps in
    let here : one.Place ℕ = record { thread = p.thread; want = want_of p.want } in
    elim (p.thread == t) as (λ b. places (cond (not b) (p ∷ filter (λ (q : Place). not (q.thread == t)) ps) (filter (λ (q : Place). not (q.thread == t)) ps)) ≡ cond b (leaves_line t (places ps)) (here ∷ leaves_line t (places ps))) [
      | true ↦ rest
      | false ↦ ap (λ xs. here ∷ xs) rest
    ]

-- ---- who was answered last
abbrev heard : List (one.Reply ℕ) → List ℕ
heard [] = []
heard (r ∷ rs) = r.thread ∷ heard rs

heard_answers : (rs : List Reply) → threads_of rs ≡ heard (answers rs)
heard_answers [] = refl
heard_answers (r ∷ rs) = ap (λ ts. r.thread ∷ ts) (heard_answers rs)

heard_shown : (v : ℕ) (ts : List ℕ) → heard (shown v ts) ≡ ts
heard_shown v [] = refl
heard_shown v (t ∷ ts) = ap (λ us. t ∷ us) (heard_shown v ts)

abbrev rest_of : List (one.Reply ℕ) → List (one.Reply ℕ)
rest_of [] = []
rest_of (r ∷ rs) = rs

-- what was answered since
behind : (old new : List Reply) (more : List (one.Reply ℕ)) → answers new ≡ answers old ++ more → answers (drop (length old) new) ≡ more
behind [] new more e = e
behind (o ∷ old) [] more e = absurd (cc e)
behind (o ∷ old) (n ∷ new) more e = behind old new more (ap rest_of e)

pub no_shorter : (old new : List Reply) (more : List (one.Reply ℕ)) → answers new ≡ answers old ++ more → length old ≤ length new
no_shorter [] new more e = omega arith
no_shorter (o ∷ old) [] more e = absurd (cc e)
no_shorter (o ∷ old) (n ∷ new) more e = let h = no_shorter old new more (ap rest_of e) in omega (arith, h)

-- those who were shown a value since
pub seen : (old new : List Reply) (v : ℕ) (ts : List ℕ) → answers new ≡ answers old ++ shown v ts → threads_of (drop (length old) new) ≡ ts
seen old new v ts e = heard_answers (drop (length old) new) ∙ ap heard (behind old new (shown v ts) e) ∙ heard_shown v ts
