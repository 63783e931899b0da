-- Scopes, functions and faults as the rules see them.
use Rattle.std.specs.Prelude.{ℕ, List, [], ◌∷◌, map, Bool, true, false, cond, Option, Some, None}
use Rattle.std.specs.Option.{option_or}
use Rattle.std.specs.Str.{bytes_eq}
use Rattle.typing_table.specs.declared.base.Base.TheVariants as o
use Rattle.typing_table.specs.declared.kind.TypeKind.{TypeKind}
use Rattle.typing_table.specs.declared.kind.TypeKind.TheVariants as k
use Rattle.typing_table.specs.declared.table.TypeNode.{TypeNode}
use Rattle.typing_table.specs.declared.ty.TypeTerm.{TypeTerm}
use Rattle.typing_table.specs.Meaning.{known, type_in}
use Rattle.rules_expansion.specs.trees.Trees.{T, ty_of}
use Rattle.rules_typing.specs.Typing as rule
use Rattle.rules_typing.specs.Typing.{Sort, value, masking_name, TypedName, Sig, Fault, Wanted, exactly}
use Rattle.typing_parts.specs.declared.fault.Form.{Form}
use Rattle.typing_parts.specs.declared.fault.Form.TheVariants as f
use Rattle.typing_parts.specs.declared.fault.Want.{Want}
use Rattle.typing_parts.specs.declared.fault.Want.TheVariants as w
use Rattle.typing_parts.specs.declared.first.Asked.{Asked}
use Rattle.typing_parts.specs.declared.first.Asked.TheVariants as a
use Rattle.typing_parts.specs.declared.first.Broken.{Broken}
use Rattle.typing_parts.specs.declared.first.Broken.TheVariants as b
use Rattle.typing_parts.specs.declared.parts.TypePart.{TypePart}
use Rattle.typing_parts.specs.declared.parts.TypePart.TheVariants as p
use Rattle.typing_parts.specs.declared.entry.Sorted.{Sorted}
use Rattle.typing_parts.specs.declared.entry.Sorted.TheVariants as s
use Rattle.typing_parts.specs.declared.entry.Entry.{Entry}
use Rattle.typing_parts.specs.declared.entry.Fun.{Fun}

abbrev pub form_of : Form → rule.Form
form_of f.Maybe = rule.a_maybe
form_of f.Either = rule.an_either
form_of f.List = rule.a_list
form_of f.Pair = rule.a_pair
form_of f.Cell = rule.a_cell
form_of f.Async = rule.an_async
form_of f.Equal = rule.equal
form_of f.Order = rule.order
form_of f.Show = rule.shown

-- whether the types of an outermost form are of a form
abbrev pub kind_has : rule.Form → TypeKind → Bool
kind_has rule.a_maybe k.Maybe = true
kind_has rule.an_either k.Either = true
kind_has rule.a_list k.List = true
kind_has rule.a_pair k.Pair = true
kind_has rule.a_cell k.Cell = true
kind_has rule.an_async k.Async = true
kind_has rule.equal (k.Base o.Int) = true
kind_has rule.equal (k.Base o.Bool) = true
kind_has rule.equal (k.Base o.Text) = true
kind_has rule.equal (k.Base o.Thread) = true
kind_has rule.equal (k.Base o.Exn) = true
kind_has rule.order (k.Base o.Int) = true
kind_has rule.order (k.Base o.Text) = true
kind_has rule.shown (k.Base o.Int) = true
kind_has rule.shown (k.Base o.Bool) = true
kind_has rule.shown (k.Base o.Thread) = true
kind_has rule.shown (k.Base o.Exn) = true
kind_has _ _ = false

abbrev pub part_of : TypePart → T → T
part_of p.Whole t = t
part_of p.Inner t = rule.inner_of t
part_of p.First t = rule.first_of t
part_of p.Second t = rule.second_of t

abbrev pub wanted_of : Want → Wanted
wanted_of (w.Exactly t) = exactly (ty_of t)
wanted_of (w.Form form) = rule.of_form (form_of form)

abbrev pub asked_of : List TypeNode → Asked → Wanted
asked_of ms (a.Exactly t) = exactly (type_in ms t)
asked_of ms (a.Form form) = rule.of_form (form_of form)

abbrev pub broken_of : List TypeNode → Broken → Fault
broken_of ms (b.Twice p) = rule.twice p
broken_of ms (b.Unknown p) = rule.unknown p
broken_of ms (b.Kind p) = rule.kind p
broken_of ms (b.Forward p) = rule.forward p
broken_of ms (b.Arity p m n) = rule.arity p m n
broken_of ms (b.Mismatch p m t) = rule.mismatch p (asked_of ms m) (type_in ms t)
broken_of ms (b.Scope p) = rule.scope p
broken_of ms (b.Wide p) = rule.wide p
broken_of ms (b.Large p) = rule.large p

abbrev pub kept_of : List TypeNode → Option Broken → Option Fault
kept_of ms None = None
kept_of ms (Some f) = Some (broken_of ms f)

-- what a name is, by the table of types
abbrev pub sort_of : List TypeNode → Sorted → Sort
sort_of ms (s.Value t) = value (type_in ms t)
sort_of ms s.Masking = masking_name

abbrev pub bound_of : List TypeNode → Entry → TypedName
bound_of ms e = record { spelling = e.text; sort = sort_of ms e.sort }

abbrev pub onto : List TypeNode → List Entry → List TypedName → List TypedName
onto ms [] s = s
onto ms (e ∷ es) s = onto ms es (bound_of ms e ∷ s)

-- the last one first
abbrev pub scope_of : List TypeNode → List Entry → List TypedName
scope_of ms es = onto ms es []

-- what the last of the names that are equal to this one is
abbrev pub last_named : List Entry → List ℕ → Option Sorted
last_named [] x = None
last_named (e ∷ es) x = option_or (last_named es x) (cond (bytes_eq e.text x) (Some e.sort) None)

abbrev pub tys_of : List TypeNode → List TypeTerm → List T
tys_of ms [] = []
tys_of ms (t ∷ ts) = type_in ms t ∷ tys_of ms ts

-- the types at places of the table
abbrev pub place_types : List TypeNode → List ℕ → List T
place_types ms [] = []
place_types ms (i ∷ is) = known ms i ∷ place_types ms is

abbrev pub sig_of : List TypeNode → Fun → Sig
sig_of ms f = record { spelling = f.text; acts = f.acts; params = place_types ms f.params; result = known ms f.result; place = f.place }

abbrev pub sigs_of : List TypeNode → List Fun → List Sig
sigs_of ms [] = []
sigs_of ms (f ∷ fs) = sig_of ms f ∷ sigs_of ms fs

-- the first definition of a name
abbrev pub first_named : List Fun → List ℕ → Option Fun
first_named [] x = None
first_named (f ∷ fs) x = cond (bytes_eq f.text x) (Some f) (first_named fs x)

abbrev pub opt_sig : List TypeNode → Option Fun → Option Sig
opt_sig ms None = None
opt_sig ms (Some f) = Some (sig_of ms f)

abbrev pub opt_sort : List TypeNode → Option Sorted → Option Sort
opt_sort ms None = None
opt_sort ms (Some s) = Some (sort_of ms s)

abbrev pub texts_of : List Fun → List (List ℕ)
texts_of fs = map (λ f. f.text) fs

abbrev pub opt_ty : List TypeNode → Option TypeTerm → Option T
opt_ty ms None = None
opt_ty ms (Some t) = Some (type_in ms t)

abbrev pub opt_tys : List TypeNode → Option (List TypeTerm) → Option (List T)
opt_tys ms None = None
opt_tys ms (Some ts) = Some (tys_of ms ts)

abbrev pub opts_of : List TypeNode → List (Option TypeTerm) → List (Option T)
opts_of ms [] = []
opts_of ms (t ∷ ts) = opt_ty ms t ∷ opts_of ms ts
