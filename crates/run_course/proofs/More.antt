-- The steps of a history, one entry on.
use Rattle.std.proofs.Common.{◌≡◌, ◌<◌, ◌⊎◌, inl, inr, ℕ, suc, Bool, true, false, not, ◌-◌, Option, Some, None, IsSome, arith, refl, sym, ap, ◌∙◌, subst}
use Rattle.hs_rules.specs.declared.entry.Entry.{Entry}
use Rattle.hs_rules.specs.declared.entry.Entry.TheVariants as entry
use Rattle.hs_rules.specs.Histories.{cost_of, steps_of}
use Rattle.hs_rules.proofs.Histories.{steps_of_last}
use Rattle.run_course.specs.declared.history.acts.NextEntry.{NextEntry}
use Rattle.run_course.specs.declared.history.acts.Next.{Next}
use Rattle.run_course.specs.declared.history.record.Record.{Record}
use Rattle.run_course.specs.history.Acts.{entry_of}
use Rattle.run_course.specs.history.Records.{IsNext, Appended}
use Rattle.run_course.proofs.history_lemmas.Exceeding.{cost_one}
use Rattle.run_course.specs.clocked.Clocks.{Looked}
use Rattle.run_course.specs.declared.ends.RunEnd.{RunEnd}
use Rattle.run_course.specs.Settled.{Acted, KeepsPlan}

-- a history has more steps than the other
abbrev pub Less : Record → Record → Type 0
Less old new = steps_of old.history.list < steps_of new.history.list

pub appended_more : (e : Entry) (old new : Record) → cost_of e ≡ 1 → Appended e old new → Less old new
appended_more e old new one h =
    let k = ap steps_of h.history ∙ steps_of_last old.history.list e in
    omega (arith, k, one)

pub looked_more : (ticked : Bool) (old new : Record) → not ticked ≡ false → Looked ticked old new → Less old new
looked_more true old new e h = appended_more (entry.Tick h.0) old new refl h.1
looked_more false old new e h = absurd (cc e)

pub looked_same : (ticked : Bool) (old new : Record) → not ticked ≡ true → Looked ticked old new → new ≡ old
looked_same true old new e h = absurd (cc e)
looked_same false old new e h = h

some_end : {A : Type 0} (o : Option A) (x : A) → o ≡ Some x → IsSome o
some_end o x e = subst IsSome (sym e) refl

pub acted_more : (a : NextEntry) (ended : Option RunEnd) (old new : Record) → Acted (entry_of a) ended old new → IsSome ended ⊎ Less old new
acted_more a ended old new (inl h) = inr (appended_more (entry_of a) old new (cost_one a) h.0)
acted_more a ended old new (inr h) = inl (some_end ended _ h.1.1)

-- what is next stays so for the same record
pub next_kept : (r q : Record) (n m : Next) → q ≡ r → n ≡ m → IsNext n r → IsNext m q
next_kept r q n m same is h = subst (IsNext m) (sym same) (subst (λ z. IsNext z r) is h)

-- what a loop of turns has left to do
abbrev pub left_to_do : Bool → Option RunEnd → ℕ → ℕ
left_to_do true ended n = 0
left_to_do false None n = suc n
left_to_do false (Some e) n = 0

-- a turn that comes after it has less to do
turn_less : (rests : Bool) (ended : Option RunEnd) (n m : ℕ) → (rests ≡ false → IsSome ended ⊎ (m < n)) → left_to_do rests ended m < suc n
turn_less true ended n m h = omega arith
turn_less false (Some e) n m h = omega arith
turn_less false None n m h = by (h refl)
  where
    by : IsSome {T = RunEnd} None ⊎ (m < n) → suc m < suc n
    by (inl s) = absurd (cc s)
    by (inr less) = omega (arith, less)

pub turns_less : (was rests : Bool) (old_end new_end : Option RunEnd) (old new : Record) → was ≡ false → old_end ≡ None → KeepsPlan old new → (rests ≡ false → IsSome new_end ⊎ Less old new)
    → left_to_do rests new_end (new.fuel - steps_of new.history.list) < left_to_do was old_end (old.fuel - steps_of old.history.list)
turns_less was rests old_end new_end old new a b plan more =
    subst (λ z. left_to_do rests new_end (new.fuel - steps_of new.history.list) < left_to_do z old_end (old.fuel - steps_of old.history.list)) (sym a)
    (subst (λ z. left_to_do rests new_end (new.fuel - steps_of new.history.list) < left_to_do false z (old.fuel - steps_of old.history.list)) (sym b)
    (turn_less rests new_end _ _ (λ e. by (more e))))
  where
    by : IsSome new_end ⊎ Less old new → IsSome new_end ⊎ (new.fuel - steps_of new.history.list < old.fuel - steps_of old.history.list)
    by (inl s) = inl s
    by (inr less) = let fuel = plan.fuel in let within = new.within in inr (omega (arith, less, fuel, within))
