-- States that may not be there, and tests.
use Rattle.std.proofs.Common.{◌≡◌, Bool, true, false, cond, Option, Some, None, refl, ap, ◌∙◌, subst}
use Rattle.std.proofs.lemmas.Option.{same_Some}
use Rattle.hs_rules.specs.State.{Thread, State}
use Rattle.hs_rules.specs.Entries.{on_thread}

-- what holds of the one state holds of the other
pub landed : (P : State → Type 0) (s u : State) → Some s ≡ Some u → P s → P u
landed P s u h p = subst P (same_Some s u h) p

pub nowhere : (P : State → Type 0) (u : State) → None ≡ Some u → P u
nowhere P u h = absurd (cc h)

-- a test decides whether there is a state
pub tested : (P : Type 0) (b : Bool) (x y : Option State) (u : State) → (b ≡ true → x ≡ Some u → P) → (b ≡ false → y ≡ Some u → P) → cond b x y ≡ Some u → P
tested P true x y u f g h = f refl h
tested P false x y u f g h = g refl h

-- what goes on at a thread that is there and has not finished
pub on_running : (o : Option Thread) (th : Thread) (k : Thread → Option State) → o ≡ Some th → th.finished ≡ false → on_thread o k ≡ k th
on_running o th k e f = ap (λ p. on_thread p k) e ∙ ap (λ b. cond b None (k th)) f
