-- Which types are of a form, by their outermost form.
use Rattle.std.proofs.Common.{◌≡◌, refl}
use Rattle.rules_expansion.specs.trees.Trees.{T, int, bool, text, thread, exn, pair, maybe, either, list, cell, async}
use Rattle.rules_typing.specs.Typing.{Form, a_maybe, an_either, a_list, a_pair, a_cell, an_async, equal, order, shown}
use Rattle.typing_judge.specs.Judging.{has}
use Rattle.typing_table.specs.Meaning.{kind_of}
use Rattle.typing_parts.specs.Views.{kind_has}

pub has_kind : (f : Form) (t : T) → has f t ≡ kind_has f (kind_of t)
has_kind a_maybe (maybe a) = refl
has_kind an_either (either a b) = refl
has_kind a_list (list a) = refl
has_kind a_pair (pair a b) = refl
has_kind a_cell (cell a) = refl
has_kind an_async (async a) = refl
has_kind equal int = refl
has_kind equal bool = refl
has_kind equal text = refl
has_kind equal thread = refl
has_kind equal exn = refl
has_kind order int = refl
has_kind order text = refl
has_kind shown int = refl
has_kind shown bool = refl
has_kind shown thread = refl
has_kind shown exn = refl
has_kind f t = refl
