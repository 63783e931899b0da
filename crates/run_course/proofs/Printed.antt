-- What a history prints with one more entry, and what the sinks were told of it.
use Rattle.std.proofs.Common.{◌≡◌, ◌⊎◌, inl, inr, ℕ, List, [], ◌∷◌, ◌++◌, append-nil, take, Option, sym, ap, ◌∙◌, subst}
use Rattle.std.proofs.KnownBytes.{Appends-trans}
use Rattle.std.proofs.lemmas.List.{append_cancel_left}
use Rattle.std.proofs.Props.{props}
use Rattle.std.proofs.Math.Logic.{∥∥₁_elim}
use Rattle.std.specs.Io.KnownBytes.{Appends}
use Rattle.hs_rules.specs.declared.entry.Entry.{Entry}
use Rattle.hs_rules.specs.Runs.{out, err}
use Rattle.rules_expansion.specs.trees.Programs.{Fn, script_of}
use Rattle.rules_code.specs.declared.code.CodeBody.{CodeBody}
use Rattle.hs_laws.proofs.RunParts.{run_before}
use Rattle.slot_states.specs.SlotStates.{Represents}
use Rattle.slot_states.specs.Printing.{output_by, errors_by}
use Rattle.slot_states.proofs.Printed.{entry_adds}
use Rattle.world_entries.specs.declared.world.World.{World}
use Rattle.world_entries.specs.Worlds.{state_of, Live}
use Rattle.run_course.specs.declared.history.record.Record.{Record}
use Rattle.run_course.specs.history.Records.{script, Appended}
use Rattle.run_course.proofs.history_lemmas.GoingOn.{one_state}
use Rattle.run_course.specs.Told.{AppendsPart, IsCutOff, Both, OneFailed}

-- ---- what one more entry prints

-- the history prints what the one before it prints, and then what the entry prints
abbrev pub Prints : (ds : List Fn) → (es fs : List Entry) → (output errors : List ℕ) → Type 0
Prints ds es fs output errors = (out ds fs ≡ out ds es ++ output) × (err ds fs ≡ err ds es ++ errors)

live_prints : (b : CodeBody) (es : List Entry) (e : Entry) (old new : World) → Live b es old → Live b (es ++ e ∷ []) new → Prints (script_of b.of.value) es (es ++ e ∷ []) (output_by (state_of b old) e) (errors_by (state_of b old) e)
live_prints b es e old new l m =
    let ds : List Fn = script_of b.of.value in
    let k = run_before ds es (e ∷ []) m.state m.run in
    let same = one_state ds es l.state k.0 l.run k.1 in
    entry_adds ds es k.0 k.2.0 e (state_of b old) k.1 (subst (Represents ds (state_of b old)) same l.represents) k.2.1

-- the same, where the code and the history are known by equations
living : (b c : CodeBody) (es fs : List Entry) (e : Entry) (old new : World) → c ≡ b → fs ≡ es ++ e ∷ [] → ∥ Live b es old ∥₁ → ∥ Live c fs new ∥₁
    → Prints (script_of c.of.value) es fs (output_by (state_of b old) e) (errors_by (state_of b old) e)
living b c es fs e old new same is live more =
    ∥∥₁_elim live (hlevel props) (λ l. ∥∥₁_elim more (hlevel props) (λ m.
    let n : Live b (es ++ e ∷ []) new = subst (λ (z : CodeBody). Live z (es ++ e ∷ []) new) same (subst (λ zs. Live c zs new) is m) in
    subst (λ (z : CodeBody). Prints (script_of z.of.value) es fs (output_by (state_of b old) e) (errors_by (state_of b old) e)) (sym same)
    (subst (λ zs. Prints (script_of b.of.value) es zs (output_by (state_of b old) e) (errors_by (state_of b old) e)) (sym is) (live_prints b es e old new l n))))

pub printed : (old new : Record) (e : Entry) → Appended e old new
    → Prints (script new) old.history.list new.history.list (output_by (state_of old.of.value old.world) e) (errors_by (state_of old.of.value old.world) e)
printed old new e h = living old.of.value new.of.value old.history.list new.history.list e old.world new.world (ap (λ z. z.value) h.plan.2) h.history old.after new.after

-- ---- and what was told of it

module _ (ds : List Fn) (es fs : List Entry) (output errors : List ℕ) (prints : Prints ds es fs output errors) (out_lent out_old out_new err_lent err_old err_new : Option (List ℕ)) where
  module _ (told : Appends out_lent out_old (out ds es) × Appends err_lent err_old (err ds es)) where
    -- both pieces were put
    pub told_both : Both out_old out_new err_old err_new output errors → Appends out_lent out_new (out ds fs) × Appends err_lent err_new (err ds fs)
    told_both both = (
      subst (Appends out_lent out_new) (sym prints.0) (Appends-trans out_lent out_old out_new (out ds es) output told.0 both.0),
      subst (Appends err_lent err_new) (sym prints.1) (Appends-trans err_lent err_old err_new (err ds es) errors told.1 both.1),
    )

    -- a put failed
    pub told_cut : (e : Entry) → fs ≡ es ++ e ∷ [] → OneFailed out_old out_new err_old err_new output errors → IsCutOff ds fs out_lent out_new err_lent err_new
    told_cut e is failed = record { front = es; last = e; is = is; told = by failed; prints = some failed }
      where
        by : OneFailed out_old out_new err_old err_new output errors
            → (AppendsPart out_lent out_new (out ds es) (out ds fs) × Appends err_lent err_new (err ds es)) ⊎ (Appends out_lent out_new (out ds es) × AppendsPart err_lent err_new (err ds es) (err ds fs))
        by (inl f) = inl ((output, prints.0, f.0.0, Appends-trans out_lent out_old out_new (out ds es) (take f.0.0 output) told.0 f.0.1), subst (λ z. Appends err_lent z (err ds es)) (sym f.2) told.1)
        by (inr f) = inr (subst (λ z. Appends out_lent z (out ds es)) (sym f.2) told.0, (errors, prints.1, f.0.0, Appends-trans err_lent err_old err_new (err ds es) (take f.0.0 errors) told.1 f.0.1))

        some : OneFailed out_old out_new err_old err_new output errors → (out ds fs ≡ out ds es) × (err ds fs ≡ err ds es) → ⊥
        some (inl f) same = f.1 (append_cancel_left (out ds es) output [] (sym prints.0 ∙ same.0 ∙ sym (append-nil (out ds es))))
        some (inr f) same = f.1 (append_cancel_left (err ds es) errors [] (sym prints.1 ∙ same.1 ∙ sym (append-nil (err ds es))))

    -- an entry that prints nothing
    pub told_still : output ≡ [] → errors ≡ [] → Appends out_lent out_old (out ds fs) × Appends err_lent err_old (err ds fs)
    told_still a b = (
      subst (Appends out_lent out_old) (sym (prints.0 ∙ ap (λ z. out ds es ++ z) a ∙ append-nil (out ds es))) told.0,
      subst (Appends err_lent err_old) (sym (prints.1 ∙ ap (λ z. err ds es ++ z) b ∙ append-nil (err ds es))) told.1,
    )
