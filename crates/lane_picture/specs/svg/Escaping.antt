-- How a text stands in an XML document ("Extensible Markup Language (XML) 1.0", 2.2 and 2.4; the pictures are own).
--
-- `&`, `<` and `>` and both quotes stand as entities. The control characters, of which XML can't have most and collapses the
-- others, are shown by the pictures that Unicode has for them (U+2400 on); U+FFFE and U+FFFF, which no document may have, by
-- U+FFFD. Each other character stands for itself.
use Rattle.std.specs.Prelude.{ℕ, ◌+◌, ◌==◌, nat_lt, ◌||◌, cond, List, chars, codes, encode_utf8}
use Rattle.std.specs.List.{flat_map}

-- the character that is shown for this one
abbrev pub shown_char : ℕ → ℕ
shown_char c = cond (nat_lt c 32) (0x2400 + c) (cond (c == 127) 0x2421 (cond ((c == 0xFFFE) || (c == 0xFFFF)) 0xFFFD c))

-- the bytes by which a character stands
abbrev pub escaped_char : ℕ → List ℕ
escaped_char c =
    cond (c == 38) (codes "&amp;")
    (cond (c == 60) (codes "&lt;")
    (cond (c == 62) (codes "&gt;")
    (cond (c == 34) (codes "&quot;")
    (cond (c == 39) (codes "&#39;") (encode_utf8 (shown_char c))))))

-- a text, character by character
abbrev pub escaped : List ℕ → List ℕ
escaped bytes = flat_map escaped_char (chars bytes)
