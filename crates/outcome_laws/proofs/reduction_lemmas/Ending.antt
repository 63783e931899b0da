-- Where runs end, and what two states have that differ in one thread.
use Rattle.std.proofs.Common.{◌≡◌, ℕ, slice_get, Bool, true, false, Option, Some, None, refl, sym, ap, ◌∙◌, subst, ◌⊎◌, inl, inr, ⊎_elim}
use Rattle.hs_rules.specs.declared.entry.Entry.{Entry}
use Rattle.hs_rules.specs.declared.entry.Entry.TheVariants as entry
use Rattle.rules_meaning.specs.CoreMeaning.{Code}
use Rattle.hs_rules.specs.Terms.{Term}
use Rattle.rules_waiting.specs.Waiting.{sleepers_of}
use Rattle.hs_rules.specs.State.{Thread, State}
use Rattle.hs_rules.specs.Entries.{IsTimely, Leads}
use Rattle.hs_rules.specs.Entries as entries
use Rattle.hs_rules.specs.Endings.{IsTick, IsDone, IsUncaught, ended_by, result_of}
use Rattle.hs_laws.proofs.Lists.{item_other}
use Rattle.hs_laws.proofs.HowItEnds.{done_is_over}
use Rattle.outcome_laws.proofs.timing_lemmas.Passing.{same_item}
use Rattle.outcome_laws.specs.reduction.Paths.{MainRuns, HasEnded, ShowsSame, EndsLike}
use Rattle.hs_laws.proofs.SameCases.{put_in}
use Rattle.outcome_laws.proofs.reduction_lemmas.Apart.{IsApart, apart_next}
use Rattle.outcome_laws.proofs.reduction_lemmas.Own.{main_runs, Poised, gone, stands, poised_on}

-- ---- where a run ends

pub runs_or : (s : State) → MainRuns s ⊎ ¬ MainRuns s
runs_or s = by (slice_get s.threads 0) refl
  where
    flag : (th : Thread) → slice_get s.threads 0 ≡ Some th → (b : Bool) → th.finished ≡ b → MainRuns s ⊎ ¬ MainRuns s
    flag th e true f = inr (λ m. let same : th ≡ m.0 = same_item (sym e ∙ m.1) in let c : true ≡ false = sym f ∙ (ap (λ z. z.finished) same ∙ m.2) in cc c)
    flag th e false f = inl (th, e, f)

    by : (o : Option Thread) → slice_get s.threads 0 ≡ o → MainRuns s ⊎ ¬ MainRuns s
    by None e = inr (λ m. let c : None ≡ Some m.0 = sym e ∙ m.1 in cc c)
    by (Some th) e = flag th e th.finished refl

-- where an entry other than a Tick leads on a run hasn't ended
pub not_end : (code : Code) (s : State) (e : Entry) (u : State) → ¬ IsTick e → Leads code s e u → HasEnded code s → ⊥
not_end code s e u n l d = ⊎_elim (λ a. over (inl a)) (λ q. ⊎_elim (λ a. over (inr a)) (λ q. q.0 e n (u, l)) q) d
  where
    over : IsDone s ⊎ IsUncaught s → ⊥
    over h = let z : None ≡ Some u = sym (done_is_over code s e h) ∙ l.0 in cc z

pub alike_gone : (code : Code) (t : ℕ) (s : State) (th : Thread) (x : Term) → ¬ MainRuns s → Poised code t s th x → ShowsSame s (put_in t (gone th x) s)
alike_gone code t s th x n h = record {
  main = sym (item_other s.threads t 0 (gone th x) (λ e. n (th, subst (λ k. slice_get s.threads k ≡ Some th) (sym e) h.is, h.unfinished)));
  blocked = refl;
  output = refl;
  errors = refl;
}

pub keeps_end : (code : Code) (s u : State) → EndsLike s u → HasEnded code s → HasEnded code u
keeps_end code s u (inl e) d = subst (HasEnded code) e d
keeps_end code s u (inr l) (inl d) = inl (subst (λ o. ended_by (result_of o) true) l.1.main d)
keeps_end code s u (inr l) (inr (inl d)) = inr (inl (subst (λ o. ended_by (result_of o) false) l.1.main d))
keeps_end code s u (inr l) (inr (inr d)) =
    inr (inr (
      (λ e n k. let m = main_runs u (λ main. entries.entered code u e) k.0 k.1.0 in l.0 (m.0, l.1.main ∙ m.1, m.2)),
      ap (λ ws. sleepers_of ws) (sym l.1.blocked) ∙ d.1,
    ))

pub like_then : (a b c : State) → EndsLike a b → EndsLike b c → EndsLike a c
like_then a b c (inl e) h = subst (λ q. EndsLike q c) (sym e) h
like_then a b c (inr l) (inl e) = subst (EndsLike a) e (inr l)
like_then a b c (inr l) (inr k) = inr (l.0, record { main = l.1.main ∙ k.1.main; blocked = l.1.blocked ∙ k.1.blocked; output = l.1.output ∙ k.1.output; errors = l.1.errors ∙ k.1.errors })

-- ---- what both states have

pub timely : (code : Code) (t : ℕ) (s : State) (e : Entry) → IsApart t e → IsTimely code s e
timely code t s entry.Stranded n = absurd n
timely code t s _ n = tt

-- an entry of another thread leads on from both
pub apart_leads : (code : Code) (t : ℕ) (s : State) (th : Thread) (x : Term) (e : Entry) (m : State) → Poised code t s th x → IsApart t e → Leads code s e m →
    Leads code (put_in t (gone th x) s) e (put_in t (gone th x) m) × Poised code t m th x
apart_leads code t s th x e m h n l =
    let b = apart_next t th (gone th x) (inl refl) code s e m n (inl refl) (stands h) l.0 in
    ((b.0, timely code t (put_in t (gone th x) s) e n), poised_on h e m l.0 b.1)
