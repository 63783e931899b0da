-- Types of a script, as a Haskell module has them (own): each that has parts stands in parentheses or brackets of its own.
use Rattle.std.specs.Prelude.{ℕ, List, ◌++◌, codes}
use Rattle.rules_expansion.specs.trees.Trees.{T, unit, int, bool, text, thread, exn, pair, maybe, either, list, cell, async}

abbrev pub type_text : T → List ℕ
type_text unit = codes "()"
type_text int = codes "Int"
type_text bool = codes "Bool"
type_text text = codes "Text"
type_text thread = codes "ThreadId"
type_text exn = codes "SomeException"
type_text (pair a b) = codes "(" ++ type_text a ++ codes ", " ++ type_text b ++ codes ")"
type_text (maybe a) = codes "(Maybe " ++ type_text a ++ codes ")"
type_text (either a b) = codes "(Either " ++ type_text a ++ codes " " ++ type_text b ++ codes ")"
type_text (list a) = codes "[" ++ type_text a ++ codes "]"
type_text (cell a) = codes "(MVar " ++ type_text a ++ codes ")"
type_text (async a) = codes "(Async " ++ type_text a ++ codes ")"
