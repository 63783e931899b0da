-- Documents: a trace, a line `script`, and the bytes of a script (own).
use Rattle.std.specs.Prelude.{◌≡◌, ◌≤◌, ◌<◌, ◌+◌, ◌⊎◌, ℕ, List, [], drop, length, take, Option, None, Some, ⊤}
use Rattle.trace_text.specs.spelling.Traces.{IsScriptLine}

-- A document has at most so many bytes.
abbrev pub document_limit : ℕ
document_limit = 100663296

-- These bytes are what a source had left, where it tells them.
abbrev pub IsLeft : Option (List ℕ) → List ℕ → Type 0
IsLeft None bytes = ⊤
IsLeft (Some known) bytes = known ≡ bytes

-- the first line that is exactly `script` begins at this place
pub record IsFirstScriptLine (document : List ℕ) (at : ℕ) : Type 0 where
  pub line : IsScriptLine document at
  pub first : (other : ℕ) → IsScriptLine document other → at ≤ other

-- A document is parted into the trace before its first line `script` and the script behind that line.
pub record IsParted (document trace script : List ℕ) : Type 0 where
  pub at : ℕ
  pub line : IsFirstScriptLine document at
  pub before : trace ≡ take at document
  pub behind : script ≡ drop (at + 7) document

-- no line of it is `script`
abbrev pub HasNoScript : List ℕ → Type 0
HasNoScript document = (at : ℕ) → ¬ IsScriptLine document at

-- These bytes are the script of a document: those behind its first line `script`, and none where no line is.
abbrev pub IsScriptOf : (document script : List ℕ) → Type 0
IsScriptOf document script = ((trace : List ℕ) × IsParted document trace script) ⊎ (HasNoScript document × (script ≡ []))

-- The source had a document that is not too long, and it is parted into this trace and this script.
pub record HasDocument (before : Option (List ℕ)) (trace script : List ℕ) : Type 0 where
  pub document : List ℕ
  pub left : IsLeft before document
  pub short : length document ≤ document_limit
  pub parted : IsParted document trace script

-- The source had a document that is too long.
pub record HasLongDocument (before : Option (List ℕ)) : Type 0 where
  pub document : List ℕ
  pub left : IsLeft before document
  pub long : document_limit < length document

-- The source had a document that is not too long, and no line of it is `script`.
pub record HasBareDocument (before : Option (List ℕ)) : Type 0 where
  pub document : List ℕ
  pub left : IsLeft before document
  pub short : length document ≤ document_limit
  pub none : HasNoScript document
