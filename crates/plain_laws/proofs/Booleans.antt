-- Tests.
use Rattle.std.proofs.Common.{◌≡◌, Bool, true, false, cond, refl, sym}

-- tests that hold together have one answer
pub same_bool : (a b : Bool) → (a ≡ true → b ≡ true) → (b ≡ true → a ≡ true) → a ≡ b
same_bool true b f g = sym (f refl)
same_bool false true f g = g refl
same_bool false false f g = refl

-- where a choice of two tests fails, both do
pub both_false : (a b : Bool) → cond a true b ≡ false → (a ≡ false) × (b ≡ false)
both_false true b h = absurd (cc h)
both_false false b h = (refl, h)

-- what holds of each choice holds of the one that a test makes
pub cond_cases : {A : Type 0} (P : A → Type 0) (b : Bool) (x y : A) → (b ≡ true → P x) → (b ≡ false → P y) → P (cond b x y)
cond_cases P true x y f g = f refl
cond_cases P false x y f g = g refl
