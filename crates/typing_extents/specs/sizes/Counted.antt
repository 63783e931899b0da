-- Counts of what a form puts into its template.
use Rattle.std.specs.Prelude.{◌≡◌, ℕ, min}
use Rattle.rules_expansion.specs.declared.template.FormBlock.TheVariants as part
use Rattle.rules_expansion.specs.Templates.{Filling}
use Rattle.rules_expansion.specs.Sizes.{core_ex_size, core_size}

-- the form's expression and its blocks have so many nodes, up to the greatest count
pub record Counted (f : Filling) (m a c e : ℕ) : Type 0 where
  pub subject : m ≡ min (core_ex_size f.subject) 1000001
  pub first : a ≡ min (core_size (f.block part.First)) 1000001
  pub second : c ≡ min (core_size (f.block part.Second)) 1000001
  pub third : e ≡ min (core_size (f.block part.Third)) 1000001
