-- The index of the table of functions.
use Rattle.std.proofs.Common.{◌≡◌, ℕ, List, [], ◌∷◌, Bool, true, false, cond, Option, Some, None, MatchOption, Bor, refl, ap, ◌∙◌, sym}
use Rattle.std.specs.Prelude.{slice_get}
use Rattle.std.specs.Option.{option_copied}
use Rattle.std.specs.Str.{bytes_eq}
use Rattle.hs_index.specs.Indexing.{first_among, next}
use Rattle.rules_typing.specs.Typing.{find}
use Rattle.typing_table.specs.declared.table.TypeNode.{TypeNode}
use Rattle.typing_parts.specs.Views.{sig_of, sigs_of, texts_of, first_named, opt_sig}
use Rattle.typing_parts.specs.declared.entry.Fun.{Fun}

-- the head that stands at a place
abbrev head_at : List Fun → Option ℕ → Option Fun
head_at fs None = None
head_at fs (Some k) = slice_get fs k

found_by : (f : Fun) (fs : List Fun) (b : Bool) (o : Option ℕ) → cond b (Some f) (head_at fs o) ≡ head_at (f ∷ fs) (cond b (Some 0) (next o))
found_by f fs true o = refl
found_by f fs false None = refl
found_by f fs false (Some k) = refl

-- the head that is found stands at the place of the first such name
found : (fs : List Fun) (x : List ℕ) → first_named fs x ≡ head_at fs (first_among (texts_of fs) x)
found [] x = refl
found (f ∷ fs) x = ap (cond (bytes_eq f.text x) (Some f)) (found fs x) ∙ found_by f fs (bytes_eq f.text x) (first_among (texts_of fs) x)

pub found_none : (fs : List Fun) (x : List ℕ) → first_among (texts_of fs) x ≡ None → first_named fs x ≡ None
found_none fs x p = found fs x ∙ ap (head_at fs) p

-- what is found where the name has a place
pub found_some : (fs : List Fun) (x : List ℕ) (k : ℕ) (r : Option (Bor Fun)) → first_among (texts_of fs) x ≡ Some k → option_copied r ≡ slice_get fs k
    → MatchOption r (first_named fs x ≡ None) (λ f. first_named fs x ≡ Some f.now)
found_some fs x k None p q = found fs x ∙ (ap (head_at fs) p ∙ sym q)
found_some fs x k (Some f) p q = found fs x ∙ (ap (head_at fs) p ∙ sym q)

sig_by : (ms : List TypeNode) (f : Fun) (b : Bool) (o : Option Fun) → cond b (Some (sig_of ms f)) (opt_sig ms o) ≡ opt_sig ms (cond b (Some f) o)
sig_by ms f true o = refl
sig_by ms f false o = refl

-- what the rules find of a name is the first head of that name
pub find_sigs : (ms : List TypeNode) (fs : List Fun) (x : List ℕ) → find (sigs_of ms fs) x ≡ opt_sig ms (first_named fs x)
find_sigs ms [] x = refl
find_sigs ms (f ∷ fs) x = ap (cond (bytes_eq f.text x) (Some (sig_of ms f))) (find_sigs ms fs x) ∙ sig_by ms f (bytes_eq f.text x) (first_named fs x)
