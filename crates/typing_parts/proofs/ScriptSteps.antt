-- The rules by which heads and scripts are checked.
use Rattle.std.proofs.Common.{◌≡◌, List, [], ◌∷◌, ◌++◌, ◌&&◌, Bool, true, false, Option, Some, None, refl, append_assoc, ⊎_elim}
use Rattle.std.proofs.lemmas.List.{append-nil}
use Rattle.std.proofs.Math.Bool.{and-true}
use Rattle.rules_typing.specs.Typing.{Fault}
use Rattle.rules_typing.specs.TypingFaults.{In, Precedes}
use Rattle.rules_typing.specs.TypingScripts.{none_of}
use Rattle.typing_judge.specs.Least.{least}
use Rattle.typing_judge.proofs.Least.{least_is, least_none}
use Rattle.typing_parts.proofs.Noted.{noted_rules}
use Rattle.typing_parts.proofs.Indexes.{find_sigs}

pub none-append : (fs gs : List Fault) → none_of (fs ++ gs) ≡ (none_of fs && none_of gs)
none-append [] gs = refl
none-append (f ∷ fs) gs = refl

pub and_assoc : (a b c : Bool) → ((a && b) && c) ≡ (a && (b && c))
and_assoc true b c = refl
and_assoc false b c = refl

pub first_is : (fs : List Fault) (f : Fault) → least None fs ≡ Some f → In fs f × ((g : Fault) → In fs g → Precedes f g)
first_is fs f h = let r = least_is fs None f h in (⊎_elim (λ e. let z : None ≡ Some f = e in cc) (λ w. w) r.0, r.2)

pub first_none : (fs : List Fault) → least None fs ≡ None → (f : Fault) → In fs f → ⊥
first_none fs h f w = least_none fs None h f w

pub ruleset script_rules = (noted_rules, find_sigs, none-append, and_assoc, and-true, append_assoc, append-nil)
