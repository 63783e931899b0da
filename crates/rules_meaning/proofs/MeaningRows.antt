-- What some expressions give, by computing in the definitions.
use Rattle.std.proofs.Common.{◌≡◌, ℤ, pos, List, [], ◌∷◌, refl, false}
use Rattle.std.specs.Prelude.{codes}
use Rattle.std.specs.Int.{int_wrap}
use Rattle.std.specs.Fmt.{digits}
use Rattle.hs_base.specs.declared.pos.Pos.{Pos}
use Rattle.hs_base.specs.declared.exn.Exn.TheVariants as x
use Rattle.hs_base.specs.declared.tree.forms.UnaryForm.TheVariants as u
use Rattle.hs_base.specs.declared.tree.forms.BinaryForm.TheVariants as b
use Rattle.rules_expansion.specs.trees.Trees.{Ex, lit, number, truth, unary, binary, chain, Links, end, link}
use Rattle.rules_meaning.specs.Values.{Text, Outcome, Gives, Throws}
use Rattle.rules_meaning.specs.Meaning.{value_of_ex}

abbrev here : Pos
here = record { line = 1; col = 1 }

abbrev n : ℤ → Ex
n m = lit here (number m)

abbrev neg : Ex → Ex
neg e = unary u.Negate here e

abbrev shows : Ex → Outcome
shows e = value_of_ex [] [] (unary u.Show here e)

abbrev least : Ex
least = chain (neg (n (pos 9223372036854775807))) (link b.Minus here (n (pos 1)) end)

abbrev fails : Ex
fails = binary b.Equal here (binary b.Div here (n (pos 1)) (n (pos 0))) (n (pos 0))

div_row : shows (binary b.Div here (neg (n (pos 7))) (n (pos 2))) ≡ Gives (Text (codes "-4"))
unfolding int_wrap digits
div_row = refl

mod_row : shows (binary b.Mod here (neg (n (pos 7))) (n (pos 2))) ≡ Gives (Text (codes "1"))
unfolding int_wrap digits
mod_row = refl

mod_row_negative : shows (binary b.Mod here (n (pos 7)) (neg (n (pos 2)))) ≡ Gives (Text (codes "-1"))
unfolding int_wrap digits
mod_row_negative = refl

least_row : shows (binary b.Div here least (neg (n (pos 1)))) ≡ Throws x.Overflow
unfolding int_wrap digits
least_row = refl

least_mod_row : shows (binary b.Mod here least (neg (n (pos 1)))) ≡ Gives (Text (codes "0"))
unfolding int_wrap digits
least_mod_row = refl

skips_row : shows (chain (lit here (truth false)) (link b.And here fails end)) ≡ Gives (Text (codes "False"))
unfolding int_wrap digits
skips_row = refl

throws_row : shows (chain fails (link b.And here (lit here (truth false)) end)) ≡ Throws x.DivideByZero
unfolding int_wrap digits
throws_row = refl

show_least_row : shows least ≡ Gives (Text (codes "-9223372036854775808"))
unfolding int_wrap digits
show_least_row = refl
