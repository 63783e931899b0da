-- The inside of a literal, read part by part.
use Rattle.std.proofs.Common.{◌≡◌, ◌≢◌, ℕ, ◌+◌, ◌<◌, ◌≤◌, List, [], ◌∷◌, ◌++◌, length, drop, get_or, true, ◌&&◌, ◌||◌, Some, None, refl, sym, ap, ◌∙◌, subst, arith, inl, inr, append_assoc, append-nil, length-append}
use Rattle.std.specs.Prelude.{◌==◌, map}
use Rattle.std.specs.List.{list_all}
use Rattle.std.specs.Char.{encode_utf8}
use Rattle.std.specs.Str.{encode_utf8_all}
use Rattle.std.proofs.lemmas.Str.{encodes-append}
use Rattle.std.proofs.lemmas.Bool.{and_parts, and_from, or_from, not_from_false, ne_eqb, false≢true}
use Rattle.std.proofs.lemmas.List.{map-append}
use Rattle.std.proofs.lemmas.List.Folds.{list_all-append}
use Rattle.rules_tokens.specs.Tokens.{quote, backslash, line_feed, LiteralPart, Plain, Escape, may_stand, parts_text, meaning, escaped, StandFor, IsOpen}
use Rattle.hs_lex.specs.Fronts.{IsCut, IsBody, IsClosedAt}
use Rattle.hs_lex.proofs.Cuts.{cut_one, cut_two, cut_head, cut_end}
use Rattle.hs_lex.proofs.Literals.{IsStuck, open_from_stuck}

pub parts_text-append : (ps qs : List LiteralPart) → parts_text (ps ++ qs) ≡ parts_text ps ++ parts_text qs
parts_text-append [] qs = refl
parts_text-append (Plain c ∷ ps) qs = ap (λ z. c ∷ z) (parts_text-append ps qs)
parts_text-append (Escape c ∷ ps) qs = ap (λ z. backslash ∷ c ∷ z) (parts_text-append ps qs)

-- the first n characters are parts
pub record IsBodyTo (inside : List ℕ) (n : ℕ) : Type 0 where
  pub parts : List LiteralPart
  pub body : List ℕ
  pub after : List ℕ
  pub cut : IsCut inside n body after
  pub whole : IsBody parts body

pub body_start : (inside : List ℕ) → IsBodyTo inside 0
body_start inside = record { parts = []; body = []; after = inside; cut = record { whole = refl; len = refl }; whole = (refl, refl) }

body_push : (ps : List LiteralPart) (p : LiteralPart) (body : List ℕ) → IsBody ps body → may_stand p ≡ true → IsBody (ps ++ p ∷ []) (body ++ parts_text (p ∷ []))
body_push ps p body b m = (
  list_all-append may_stand ps (p ∷ []) ∙ and_from (list_all may_stand ps) (may_stand p && true) b.0 (and_from (may_stand p) true m refl),
  parts_text-append ps (p ∷ []) ∙ ap (λ z. z ++ parts_text (p ∷ [])) b.1,
)

plain_may : (c : ℕ) → c ≢ quote → c ≢ backslash → c ≢ line_feed → may_stand (Plain c) ≡ true
plain_may c q b l = not_from_false (((c == quote) || (c == backslash)) || (c == line_feed)) (or_from ((c == quote) || (c == backslash)) (c == line_feed) (or_from (c == quote) (c == backslash) (ne_eqb c quote q) (ne_eqb c backslash b)) (ne_eqb c line_feed l))

escape_may : (c : ℕ) → c ≢ line_feed → may_stand (Escape c) ≡ true
escape_may c l = not_from_false (c == line_feed) (ne_eqb c line_feed l)

-- a plain character more
pub body_plain : (inside : List ℕ) (n c : ℕ) → IsBodyTo inside n → n < length inside → get_or inside n 0 ≡ c → c ≢ quote → c ≢ backslash → c ≢ line_feed → IsBodyTo inside (n + 1)
body_plain inside n c b within e q s l =
    let head : b.after ≡ c ∷ drop (n + 1) inside = cut_head inside n b.body b.after b.cut within ∙ ap (λ z. z ∷ drop (n + 1) inside) e in
    record {
      parts = b.parts ++ Plain c ∷ [];
      body = b.body ++ c ∷ [];
      after = drop (n + 1) inside;
      cut = cut_one inside n b.body c (drop (n + 1) inside) (subst (IsCut inside n b.body) head b.cut);
      whole = body_push b.parts (Plain c) b.body b.whole (plain_may c q s l);
    }

-- what follows a backslash that has a character behind it
after_two : (inside : List ℕ) (n b c : ℕ) (body after : List ℕ) → IsCut inside n body after → n + 1 < length inside → get_or inside n 0 ≡ b → get_or inside (n + 1) 0 ≡ c
    → after ≡ b ∷ c ∷ drop (n + 1 + 1) inside
after_two inside n b c body after cut within e f =
    let first : after ≡ b ∷ drop (n + 1) inside = cut_head inside n body after cut (omega arith) ∙ ap (λ z. z ∷ drop (n + 1) inside) e in
    let cut_next : IsCut inside (n + 1) (body ++ b ∷ []) (drop (n + 1) inside) = cut_one inside n body b (drop (n + 1) inside) (subst (IsCut inside n body) first cut) in
    let second : drop (n + 1) inside ≡ c ∷ drop (n + 1 + 1) inside =
    cut_head inside (n + 1) (body ++ b ∷ []) (drop (n + 1) inside) cut_next within ∙ ap (λ z. z ∷ drop (n + 1 + 1) inside) f in
    first ∙ ap (λ z. b ∷ z) second

-- an escape more
pub body_escape : (inside : List ℕ) (n c : ℕ) → IsBodyTo inside n → n + 1 < length inside → get_or inside n 0 ≡ backslash → get_or inside (n + 1) 0 ≡ c → c ≢ line_feed → IsBodyTo inside (n + 2)
body_escape inside n c b within e f l =
    let head : b.after ≡ backslash ∷ c ∷ drop (n + 1 + 1) inside = after_two inside n backslash c b.body b.after b.cut within e f in
    record {
      parts = b.parts ++ Escape c ∷ [];
      body = b.body ++ backslash ∷ c ∷ [];
      after = drop (n + 1 + 1) inside;
      cut = cut_two inside n b.body backslash c (drop (n + 1 + 1) inside) (subst (IsCut inside n b.body) head b.cut);
      whole = body_push b.parts (Escape c) b.body b.whole (escape_may c l);
    }

-- the closing quote
pub body_closed : (inside : List ℕ) (n : ℕ) → IsBodyTo inside n → n < length inside → get_or inside n 0 ≡ quote → IsClosedAt inside n
body_closed inside n b within e =
    let head : b.after ≡ quote ∷ drop (n + 1) inside = cut_head inside n b.body b.after b.cut within ∙ ap (λ z. z ∷ drop (n + 1) inside) e in
    (b.parts, b.body, drop (n + 1) inside, subst (IsCut inside n b.body) head b.cut, b.whole)

body_stuck : (inside : List ℕ) (n : ℕ) (b : IsBodyTo inside n) → IsStuck b.after → IsOpen (quote ∷ inside)
body_stuck inside n b stuck =
    let same : parts_text b.parts ++ b.after ≡ inside = ap (λ z. z ++ b.after) b.whole.1 ∙ b.cut.whole in
    subst (λ z. IsOpen (quote ∷ z)) same (open_from_stuck b.parts b.after b.whole.0 stuck)

-- the end of the text
pub body_end : (inside : List ℕ) (n : ℕ) → IsBodyTo inside n → length inside ≤ n → IsOpen (quote ∷ inside)
body_end inside n b past = body_stuck inside n b (subst IsStuck (sym (cut_end inside n b.body b.after b.cut past)) tt)

-- the end of the line
pub body_line : (inside : List ℕ) (n : ℕ) → IsBodyTo inside n → n < length inside → get_or inside n 0 ≡ line_feed → IsOpen (quote ∷ inside)
body_line inside n b within e =
    let head : b.after ≡ get_or inside n 0 ∷ drop (n + 1) inside = cut_head inside n b.body b.after b.cut within in
    body_stuck inside n b (subst IsStuck (sym head) (inl e))

-- a backslash at the end of the text
pub body_last : (inside : List ℕ) (n : ℕ) → IsBodyTo inside n → n + 1 ≡ length inside → get_or inside n 0 ≡ backslash → IsOpen (quote ∷ inside)
body_last inside n b last e =
    let head : b.after ≡ get_or inside n 0 ∷ drop (n + 1) inside = cut_head inside n b.body b.after b.cut (omega arith) in
    let first : b.after ≡ backslash ∷ drop (n + 1) inside = head ∙ ap (λ z. z ∷ drop (n + 1) inside) e in
    let cut_next : IsCut inside (n + 1) (b.body ++ backslash ∷ []) (drop (n + 1) inside) = cut_one inside n b.body backslash (drop (n + 1) inside) (subst (IsCut inside n b.body) first b.cut) in
    let none : drop (n + 1) inside ≡ [] = cut_end inside (n + 1) (b.body ++ backslash ∷ []) (drop (n + 1) inside) cut_next (omega arith) in
    body_stuck inside n b (subst IsStuck (sym (first ∙ ap (λ z. backslash ∷ z) none)) (inr (refl, tt)))

-- a backslash at the end of the line
pub body_broken : (inside : List ℕ) (n : ℕ) → IsBodyTo inside n → n + 1 < length inside → get_or inside n 0 ≡ backslash → get_or inside (n + 1) 0 ≡ line_feed → IsOpen (quote ∷ inside)
body_broken inside n b within e f =
    let head : b.after ≡ backslash ∷ line_feed ∷ drop (n + 1 + 1) inside = after_two inside n backslash line_feed b.body b.after b.cut within e f in
    body_stuck inside n b (subst IsStuck (sym head) (inr (refl, refl)))

-- ---- what the parts stand for

-- The first n characters of the body are parts that stand for these characters, and the rest are parts too.
pub record IsMeantTo (body : List ℕ) (n : ℕ) (meant : List ℕ) : Type 0 where
  pub good : List LiteralPart
  pub more : List LiteralPart
  pub whole : IsBody (good ++ more) body
  pub right : StandFor good meant
  pub len : length (parts_text good) ≡ n

pub meant_start : (body : List ℕ) → (ps : List LiteralPart) × IsBody ps body → IsMeantTo body 0 []
meant_start body (ps, b) = record { good = []; more = ps; whole = b; right = refl; len = refl }

meant_cut : (body : List ℕ) (n : ℕ) (meant : List ℕ) (m : IsMeantTo body n meant) → IsCut body n (parts_text m.good) (parts_text m.more)
meant_cut body n meant m = record { whole = sym (parts_text-append m.good m.more) ∙ m.whole.1; len = m.len }

-- how the parts go on where one is left
abbrev pub IsNext : List LiteralPart → List ℕ → ℕ → Type 0
IsNext [] body n = ⊥
IsNext (Plain c ∷ ps) body n = (get_or body n 0 ≡ c) × (c ≢ backslash)
IsNext (Escape c ∷ ps) body n = (get_or body n 0 ≡ backslash) × (n + 1 < length body) × (get_or body (n + 1) 0 ≡ c)

may_more : (good more : List LiteralPart) → list_all may_stand (good ++ more) ≡ true → list_all may_stand more ≡ true
may_more good more e = (and_parts (list_all may_stand good) (list_all may_stand more) (sym (list_all-append may_stand good more) ∙ e)).1

plain_no_backslash : (c : ℕ) → may_stand (Plain c) ≡ true → c ≢ backslash
plain_no_backslash c e h = let P : ℕ → Type 0 = λ n. may_stand (Plain n) ≡ true in false≢true (subst P h e)

no_empty : (c : ℕ) (cs : List ℕ) → [] ≡ c ∷ cs → ⊥
no_empty c cs e = cc

next_part : (more : List LiteralPart) (body : List ℕ) (n : ℕ) (front : List ℕ) → IsCut body n front (parts_text more) → list_all may_stand more ≡ true → n < length body → IsNext more body n
next_part [] body n front cut may within = absurd (no_empty (get_or body n 0) (drop (n + 1) body) (cut_head body n front [] cut within))
next_part (Plain c ∷ ps) body n front cut may within =
    let head : c ∷ parts_text ps ≡ get_or body n 0 ∷ drop (n + 1) body = cut_head body n front (c ∷ parts_text ps) cut within in
    (cc, plain_no_backslash c ((and_parts _ _ may).0))
next_part (Escape c ∷ ps) body n front cut may within =
    let head : backslash ∷ c ∷ parts_text ps ≡ get_or body n 0 ∷ drop (n + 1) body = cut_head body n front (backslash ∷ c ∷ parts_text ps) cut within in
    let one : IsCut body (n + 1) (front ++ backslash ∷ []) (c ∷ parts_text ps) = cut_one body n front backslash (c ∷ parts_text ps) cut in
    let all : length ((front ++ backslash ∷ []) ++ c ∷ parts_text ps) ≡ length body = ap length one.whole in
    let len : length (front ++ backslash ∷ []) ≡ n + 1 = one.len in
    let room : n + 1 < length body = omega (arith, length-append (front ++ backslash ∷ []) (c ∷ parts_text ps)) in
    let second : c ∷ parts_text ps ≡ get_or body (n + 1) 0 ∷ drop (n + 1 + 1) body = cut_head body (n + 1) (front ++ backslash ∷ []) (c ∷ parts_text ps) one room in
    (cc, room, cc)

pub meant_next : (body : List ℕ) (n : ℕ) (meant : List ℕ) (m : IsMeantTo body n meant) → n < length body → IsNext m.more body n
meant_next body n meant m within = next_part m.more body n (parts_text m.good) (meant_cut body n meant m) (may_more m.good m.more m.whole.0) within

stand_push : (ps : List LiteralPart) (p : LiteralPart) (cs : List ℕ) (c : ℕ) → StandFor ps cs → meaning p ≡ Some c → StandFor (ps ++ p ∷ []) (cs ++ c ∷ [])
stand_push ps p cs c h m =
    map-append meaning ps (p ∷ []) ∙ (ap (λ z. z ++ meaning p ∷ []) h ∙ (ap (λ z. map Some cs ++ z ∷ []) m ∙ sym (map-append Some cs (c ∷ []))))

push : (body : List ℕ) (n k : ℕ) (meant : List ℕ) (good : List LiteralPart) (p : LiteralPart) (more : List LiteralPart) (c : ℕ) → IsBody (good ++ p ∷ more) body → StandFor good meant → length (parts_text good) ≡ n
    → meaning p ≡ Some c → length (parts_text (p ∷ [])) ≡ k → IsMeantTo body (n + k) (meant ++ c ∷ [])
push body n k meant good p more c whole right len m width = record {
  good = good ++ p ∷ [];
  more = more;
  whole = subst (λ z. IsBody z body) (sym (append_assoc good (p ∷ []) more)) whole;
  right = stand_push good p meant c right m;
  len = omega (arith, ap length (parts_text-append good (p ∷ [])), length-append (parts_text good) (parts_text (p ∷ [])), len, width);
}

-- the character there is no backslash: it stands for itself
pub meant_plain : (body : List ℕ) (n : ℕ) (meant : List ℕ) (good more : List LiteralPart) → IsBody (good ++ more) body → StandFor good meant → length (parts_text good) ≡ n
    → IsNext more body n → get_or body n 0 ≢ backslash → IsMeantTo body (n + 1) (meant ++ get_or body n 0 ∷ [])
meant_plain body n meant good [] whole right len next differs = absurd next
meant_plain body n meant good (Plain c ∷ more) whole right len next differs = push body n 1 meant good (Plain c) more (get_or body n 0) whole right len (ap Some (sym next.0)) refl
meant_plain body n meant good (Escape c ∷ more) whole right len next differs = absurd (differs next.0)

-- a backslash: the character behind it is there
pub meant_behind : (body : List ℕ) (n : ℕ) (more : List LiteralPart) → IsNext more body n → get_or body n 0 ≡ backslash → n + 1 < length body
meant_behind body n [] next e = absurd next
meant_behind body n (Plain c ∷ more) next e = absurd (next.1 (sym next.0 ∙ e))
meant_behind body n (Escape c ∷ more) next e = next.1

pub meant_escape : (body : List ℕ) (n : ℕ) (meant : List ℕ) (good more : List LiteralPart) (c d : ℕ) → IsBody (good ++ more) body → StandFor good meant → length (parts_text good) ≡ n
    → IsNext more body n → get_or body n 0 ≡ backslash → get_or body (n + 1) 0 ≡ d → escaped d ≡ Some c → IsMeantTo body (n + 2) (meant ++ c ∷ [])
meant_escape body n meant good [] c d whole right len next e f m = absurd next
meant_escape body n meant good (Plain b ∷ more) c d whole right len next e f m = absurd (next.1 (sym next.0 ∙ e))
meant_escape body n meant good (Escape b ∷ more) c d whole right len next e f m =
    push body n 2 meant good (Escape b) more c whole right len (ap escaped (sym next.2 ∙ f) ∙ m) refl

-- a wrong escape
abbrev pub IsWrongAt : List ℕ → ℕ → Type 0
IsWrongAt body n = (good more : List LiteralPart) × (wrong : ℕ) × (meant : List ℕ) × IsBody (good ++ Escape wrong ∷ more) body × StandFor good meant
    × (escaped wrong ≡ None) × (length (parts_text good) ≡ n)

pub meant_wrong : (body : List ℕ) (n : ℕ) (meant : List ℕ) (good more : List LiteralPart) (d : ℕ) → IsBody (good ++ more) body → StandFor good meant → length (parts_text good) ≡ n
    → IsNext more body n → get_or body n 0 ≡ backslash → get_or body (n + 1) 0 ≡ d → escaped d ≡ None → IsWrongAt body n
meant_wrong body n meant good [] d whole right len next e f m = absurd next
meant_wrong body n meant good (Plain b ∷ more) d whole right len next e f m = absurd (next.1 (sym next.0 ∙ e))
meant_wrong body n meant good (Escape b ∷ more) d whole right len next e f m =
    (good, more, b, meant, whole, right, ap escaped (sym next.2 ∙ f) ∙ m, len)

-- the end: all parts are meant
meant_all : (body : List ℕ) (n : ℕ) (meant : List ℕ) (good more : List LiteralPart) → IsBody (good ++ more) body → StandFor good meant → length (parts_text good) ≡ n → length body ≤ n
    → (ps : List LiteralPart) × IsBody ps body × StandFor ps meant
meant_all body n meant good [] whole right len past = (good, subst (λ z. IsBody z body) (append-nil good) whole, right)
meant_all body n meant good (Plain c ∷ more) whole right len past =
    absurd (omega (arith, ap length (sym (parts_text-append good (Plain c ∷ more)) ∙ whole.1), length-append (parts_text good) (parts_text (Plain c ∷ more)), len))
meant_all body n meant good (Escape c ∷ more) whole right len past =
    absurd (omega (arith, ap length (sym (parts_text-append good (Escape c ∷ more)) ∙ whole.1), length-append (parts_text good) (parts_text (Escape c ∷ more)), len))

pub meant_end : (body : List ℕ) (n : ℕ) (meant : List ℕ) → IsMeantTo body n meant → length body ≤ n → (ps : List LiteralPart) × IsBody ps body × StandFor ps meant
meant_end body n meant m past = meant_all body n meant m.good m.more m.whole m.right m.len past

pub bytes_of_push : (meant : List ℕ) (c : ℕ) (old new : List ℕ) → old ≡ encode_utf8_all meant → new ≡ old ++ encode_utf8 c → new ≡ encode_utf8_all (meant ++ c ∷ [])
bytes_of_push meant c old new e f =
    f ∙ (ap (λ z. z ++ encode_utf8 c) e ∙ (ap (λ z. encode_utf8_all meant ++ z) (sym (append-nil (encode_utf8 c))) ∙ sym (encodes-append meant (c ∷ []))))
