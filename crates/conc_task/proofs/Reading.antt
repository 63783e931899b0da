-- What reading the source comes to: a script, or why there is none.
use Rattle.std.proofs.Common.{◌≡◌, ◌≤◌, ◌<◌, ◌++◌, ◌+◌, ℕ, List, [], length, drop, refl, sym, ap, subst, ◌∙◌, append-nil, arith, inl, inr}
use Rattle.std.specs.Prelude.{Option, Some, None, Result, Ok, Err, MatchResult}
use Rattle.std.specs.Io.KnownBytes.{Consumes, IsAtEnd}
use Rattle.std.proofs.lemmas.List.{drop_all, length-append}
use Rattle.std.proofs.Math.Seq.{drop-append_seam}
use Rattle.hs_base.specs.declared.tree.script.Script.{Script}
use Rattle.rules_code.specs.declared.code.Code.{Code}
use Rattle.rules_code.specs.Codes.{body_of}
use Rattle.hs_compile.specs.declared.refusal.Refusal.{Refusal}
use Rattle.hs_compile.specs.declared.refusal.Refusal.TheVariants.{TooLong, Lex, Parse, Types}
use Rattle.hs_compile.specs.declared.refusal.CompileFault.{CompileFault}
use Rattle.hs_compile.specs.declared.refusal.CompileFault.TheVariants as compile
use Rattle.hs_compile.specs.Verdicts.{script_limit, Denied, IsAccepted, IsRefused}
use Rattle.conc_task.specs.declared.stop.Stop.{Stop}
use Rattle.conc_task.specs.declared.stop.Stop.TheVariants.{Words, Refused, Read, NoScript, Memory}
use Rattle.conc_task.specs.Inputs.{HadBytes, HadScript, HadSome, IsScript, IsWhole, ReadThrough, Took, TookFew}
use Rattle.conc_task.specs.Stops.{HadNone, IsDenied, IsUnread, stop_of}
use Rattle.conc_task.specs.Documents.{IsLeft}

-- ---- the source was read through

some_left : (limit : ℕ) (known left bytes : List ℕ) → known ≡ bytes ++ left → length bytes ≡ limit + 1 → Some left ≡ Some (drop (limit + 1) known)
some_left limit known left bytes whole long =
    ap Some (sym (ap (λ n. drop n known) (sym long) ∙ ap (λ k. drop (length bytes) k) whole ∙ drop-append_seam bytes left))

pub cut_through : (limit : ℕ) (old new : Option (List ℕ)) (bytes : List ℕ) → length bytes ≡ limit + 1 → Consumes old new bytes → ReadThrough limit old new
cut_through limit None new bytes long taken = tt
cut_through limit (Some known) None bytes long taken = absurd taken
cut_through limit (Some known) (Some left) bytes long taken = some_left limit known left bytes taken long

none_left : (known left bytes : List ℕ) → known ≡ bytes ++ left → left ≡ [] → known ≡ bytes
none_left known left bytes whole empty = whole ∙ ap (λ l. bytes ++ l) empty ∙ append-nil bytes

all_left : (limit : ℕ) (known left bytes : List ℕ) → known ≡ bytes ++ left → left ≡ [] → length bytes ≤ limit → Some left ≡ Some (drop (limit + 1) known)
all_left limit known left bytes whole empty short =
    let same = ap (λ k. length k) (none_left known left bytes whole empty) in
    ap Some (empty ∙ sym (drop_all (limit + 1) known (omega (arith, same, short))))

pub end_through : (limit : ℕ) (old new : Option (List ℕ)) (bytes : List ℕ) → length bytes ≤ limit → Consumes old new bytes → IsAtEnd new → ReadThrough limit old new
end_through limit None new bytes short taken end = tt
end_through limit (Some known) None bytes short taken end = absurd taken
end_through limit (Some known) (Some left) bytes short taken end = all_left limit known left bytes taken end short

-- ---- the bytes of the input

pub known_left : (before now : Option (List ℕ)) (taken : List ℕ) → Consumes before now taken → IsAtEnd now → IsLeft before taken
known_left None now taken consumed end = tt
known_left (Some known) None taken consumed end = absurd consumed
known_left (Some known) (Some left) taken consumed end = none_left known left taken consumed end

pub any_left : (before : Option (List ℕ)) → (bytes : List ℕ) × IsLeft before bytes
any_left None = ([], tt)
any_left (Some known) = (known, refl)

few_left : (known left taken : List ℕ) → known ≡ taken ++ left → Some left ≡ Some (drop (length taken) known)
few_left known left taken whole = ap Some (sym (ap (λ k. drop (length taken) k) whole ∙ drop-append_seam taken left))

pub took_few : (limit : ℕ) (before now : Option (List ℕ)) (taken : List ℕ) → Took limit before now taken → TookFew limit before now
took_few limit None now taken took = tt
took_few limit (Some known) None taken took = absurd took.consumed
took_few limit (Some known) (Some left) taken took = (length taken, took.few, few_left known left taken took.consumed)

pub few_of : (limit : ℕ) (before now : Option (List ℕ)) (taken : List ℕ) → Consumes before now taken → IsWhole limit taken now → TookFew limit before now
few_of limit before now taken consumed (inl all) = took_few limit before now taken (record { consumed = consumed; few = omega (arith, all.0) })
few_of limit before now taken consumed (inr long) = took_few limit before now taken (record { consumed = consumed; few = omega (arith, long) })

longer : (limit : ℕ) (known left taken : List ℕ) → known ≡ taken ++ left → length taken ≡ limit + 1 → limit < length known
longer limit known left taken whole long = omega (arith, ap (λ k. length k) whole, length-append taken left, long)

pub long_left : (limit : ℕ) (before now : Option (List ℕ)) (taken : List ℕ) → length taken ≡ limit + 1 → Consumes before now taken
    → (bytes : List ℕ) × IsLeft before bytes × (limit < length bytes)
long_left limit None now taken long consumed = (taken, tt, omega (arith, long))
long_left limit (Some known) None taken long consumed = absurd consumed
long_left limit (Some known) (Some left) taken long consumed = (known, refl, longer limit known left taken consumed long)

-- so many bytes are no script, and no other refusal of them is due
not_short : (taken : List ℕ) → length taken ≡ script_limit + 1 → length taken ≤ script_limit → ⊥
not_short taken long short = omega (arith, long, short)

-- ---- a script that the source had

whole_script : (before now : Option (List ℕ)) (taken : List ℕ) (s : Script) → Consumes before now taken → IsWhole script_limit taken now → IsAccepted taken s → HadScript before now s
whole_script before now taken s consumed (inl all) accepted =
    record { bytes = taken; left = known_left before now taken consumed all.1; accepted = accepted; through = end_through script_limit before now taken all.0 consumed all.1 }
whole_script before now taken s consumed (inr long) accepted = absurd (not_short taken long accepted.0.0)

pub had_script : (before now : Option (List ℕ)) (taken lent : List ℕ) (s : Script) → Consumes before now taken → IsWhole script_limit taken now → lent ≡ taken → IsAccepted lent s → HadScript before now s
had_script before now taken lent s consumed read same accepted = whole_script before now taken s consumed read (subst (λ b. IsAccepted b s) same accepted)

-- ---- no script

short_refused : (fault : Type 0) (before now : Option (List ℕ)) (taken : List ℕ) (r : Refusal) → length taken ≤ script_limit → Consumes before now taken → IsAtEnd now → IsRefused r taken
    → HadNone fault before now (Refused r)
short_refused fault before now taken r short consumed end why = (taken, known_left before now taken consumed end, why, end_through script_limit before now taken short consumed end)

too_long : (fault : Type 0) (before now : Option (List ℕ)) (taken : List ℕ) → length taken ≡ script_limit + 1 → Consumes before now taken → HadNone fault before now (Refused TooLong)
too_long fault before now taken long consumed =
    let found = long_left script_limit before now taken long consumed in
    (found.0, found.1, found.2, cut_through script_limit before now taken long consumed)

long_refused : (fault : Type 0) (before now : Option (List ℕ)) (taken : List ℕ) (r : Refusal) → length taken ≡ script_limit + 1 → Consumes before now taken → IsRefused r taken
    → HadNone fault before now (Refused r)
long_refused fault before now taken TooLong long consumed why = too_long fault before now taken long consumed
long_refused fault before now taken (Lex f) long consumed why = absurd (not_short taken long why.0)
long_refused fault before now taken (Parse f) long consumed why = absurd (not_short taken long why.0)
long_refused fault before now taken (Types f) long consumed why = absurd (not_short taken long why.1.0)

refused_of : (fault : Type 0) (before now : Option (List ℕ)) (taken : List ℕ) (r : Refusal) → Consumes before now taken → IsWhole script_limit taken now → IsRefused r taken → HadNone fault before now (Refused r)
refused_of fault before now taken r consumed (inl all) why = short_refused fault before now taken r all.0 consumed all.1 why
refused_of fault before now taken r consumed (inr long) why = long_refused fault before now taken r long consumed why

-- the bytes were read, and are no accepted script
denied_of : (fault : Type 0) (before now : Option (List ℕ)) (taken : List ℕ) (e : Stop) → Consumes before now taken → IsWhole script_limit taken now → IsDenied taken e → HadNone fault before now e
denied_of fault before now taken (Refused r) consumed read why = refused_of fault before now taken r consumed read why
denied_of fault before now taken Memory consumed read why = few_of script_limit before now taken consumed read
denied_of fault before now taken Words consumed read why = absurd why
denied_of fault before now taken Read consumed read why = absurd why
denied_of fault before now taken NoScript consumed read why = absurd why

pub had_none : (fault : Type 0) (before now : Option (List ℕ)) (taken lent : List ℕ) (e : Stop) → Consumes before now taken → IsWhole script_limit taken now → lent ≡ taken → IsDenied lent e
    → HadNone fault before now e
had_none fault before now taken lent e consumed read same why = denied_of fault before now taken e consumed read (subst (λ b. IsDenied b e) same why)

pub denied : (bytes : List ℕ) (fault : CompileFault) → Denied bytes fault → IsDenied bytes (stop_of fault)
denied bytes (compile.Refused r) why = why
denied bytes compile.NoMemory why = tt

-- the bytes were not read
pub unread : (fault : Type 0) (before now : Option (List ℕ)) (e : Stop) → IsUnread script_limit fault before now e → HadNone fault before now e
unread fault before now Read why = why
unread fault before now Memory why = why
unread fault before now (Refused r) why = absurd why
unread fault before now Words why = absurd why
unread fault before now NoScript why = absurd why

-- ---- what a stage answers of the bytes that were read

pub code_had : (answer : Result Code Stop) (fault : Type 0) (before now : Option (List ℕ)) (taken lent : List ℕ) → Consumes before now taken → IsWhole script_limit taken now → lent ≡ taken
    → MatchResult answer (λ code. IsAccepted lent (body_of code).of.value) (IsDenied lent) → MatchResult answer (λ code. HadScript before now (body_of code).of.value) (HadNone fault before now)
code_had (Ok code) fault before now taken lent consumed read same accepted = had_script before now taken lent (body_of code).of.value consumed read same accepted
code_had (Err e) fault before now taken lent consumed read same why = had_none fault before now taken lent e consumed read same why

had_bytes : (before now : Option (List ℕ)) (taken : List ℕ) (s : Script) → Consumes before now taken → IsWhole script_limit taken now → IsAccepted taken s → HadBytes before now s taken
unfolding whole_script
had_bytes before now taken s consumed (inl all) accepted = (whole_script before now taken s consumed (inl all) accepted, refl)
had_bytes before now taken s consumed (inr long) accepted = absurd (not_short taken long accepted.0.0)

pub traced_had : (before now : Option (List ℕ)) (taken lent : List ℕ) (s : Script) → Consumes before now taken → IsWhole script_limit taken now → lent ≡ taken → IsAccepted lent s → HadBytes before now s taken
traced_had before now taken lent s consumed read same accepted = had_bytes before now taken s consumed read (subst (λ b. IsAccepted b s) same accepted)

pub check_had : (answer : Result Script Stop) (fault : Type 0) (before now : Option (List ℕ)) (taken lent : List ℕ) → Consumes before now taken → IsWhole script_limit taken now → lent ≡ taken
    → MatchResult answer (IsAccepted lent) (IsDenied lent) → MatchResult answer (HadScript before now) (HadNone fault before now)
check_had (Ok script) fault before now taken lent consumed read same accepted = had_script before now taken lent script consumed read same accepted
check_had (Err e) fault before now taken lent consumed read same why = had_none fault before now taken lent e consumed read same why
