-- What the tests of texts and of parts say.
use Rattle.std.proofs.Common.{◌≡◌, ℕ, ◌-◌, Bool, true, false, ◌↔◌, IsTrue, MatchBool, List, length, take, None, refl, sym, ◌∙◌, append_assoc}
use Rattle.std.specs.Bool.{beq}
use Rattle.std.specs.Str.Pattern.{HasMatch, HasSuffixMatch, FindsText, FindsTextSuffix}
use Rattle.std.proofs.lemmas.Str.Pattern.{contains_text}
use Rattle.outcome_laws.specs.Outcomes.{Outcome}
use Rattle.claim_lines.specs.declared.claim.Part.{Part}
use Rattle.claim_lines.specs.Meaning.{Has, EndsWith, MetIs}

-- ---- texts

pub standing : (r : Bool) (whole part : List ℕ) → MatchBool r (HasMatch (FindsText part) whole) (FindsText part whole None) → IsTrue r ↔ Has whole part
standing r whole part h =
    let both = contains_text r part whole h in (
      λ t. let s = both.0 t in record { before = s.0; after = s.1; split = s.2 ∙ sym (append_assoc s.0 part s.1) },
      λ has. both.1 (has.before, has.after, has.split ∙ append_assoc has.before part has.after),
    )

pub ending : (r : Bool) (whole part : List ℕ) → MatchBool r (HasSuffixMatch (FindsTextSuffix part) whole) (FindsTextSuffix part whole None) → IsTrue r ↔ EndsWith whole part
ending true whole part h = (λ t. record { before = take (length whole - h.0) whole; split = h.1.1 }, λ e. refl)
ending false whole part h = (λ t. cc, λ e. absurd (h e.before e.split))

-- ---- parts

-- whether it meets them is what was looked for
pub met_same : (parts : List Part) (o : Outcome) (r met : Bool) → beq r met ≡ true → MetIs parts r o → MetIs parts met o
met_same parts o true true e h = h
met_same parts o true false e h = let never : ⊥ = cc in absurd never
met_same parts o false true e h = let never : ⊥ = cc in absurd never
met_same parts o false false e h = h
