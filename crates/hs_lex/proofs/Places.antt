-- A place one character further on.
use Rattle.std.proofs.Common.{◌≡◌, ℕ, ◌+◌, ◌-◌, ◌<◌, ◌≤◌, ◌^◌, List, [], ◌∷◌, ◌++◌, length, take, drop, get_or, Bool, true, false, ◌||◌, refl, sym, ap, ◌∙◌, subst, arith, append-nil, length-append}
use Rattle.std.specs.Prelude.{if◌then◌else◌}
use Rattle.std.specs.List.{list_any}
use Rattle.std.specs.Char.{len_utf8, encode_utf8}
use Rattle.std.specs.Str.{encode_utf8_all}
use Rattle.std.proofs.lemmas.Bool.{cond-true, cond-false, or_right, or_left, or_from}
use Rattle.std.proofs.lemmas.List.{take_more, take-append-drop, length-take-le}
use Rattle.std.proofs.lemmas.List.Folds.{list_any-append}
use Rattle.std.proofs.lemmas.Str.{encodes-append, length-encode, length-le-encodes}
use Rattle.std.proofs.Math.Bool.{or-false}
use Rattle.hs_base.specs.declared.pos.Pos.{Pos}
use Rattle.rules_tokens.specs.Tokens.{is_line_feed, line_feeds, last_line, position_after}
use Rattle.hs_lex.specs.declared.place.Place.{Place}
use Rattle.hs_lex.specs.Fronts.{IsPlace}

-- ---- bytes

pub bytes_push : (cs : List ℕ) (c : ℕ) → length (encode_utf8_all (cs ++ c ∷ [])) ≡ length (encode_utf8_all cs) + len_utf8 c
bytes_push cs c =
    ap length (encodes-append cs (c ∷ [])) ∙ (length-append (encode_utf8_all cs) (encode_utf8 c ++ [])
    ∙ (ap (λ z. length (encode_utf8_all cs) + length z) (append-nil (encode_utf8 c)) ∙ ap (λ k. length (encode_utf8_all cs) + k) (length-encode c)))

pub bytes_front : (xs ys : List ℕ) → length (encode_utf8_all xs) ≤ length (encode_utf8_all (xs ++ ys))
bytes_front xs ys = omega (arith, ap length (encodes-append xs ys), length-append (encode_utf8_all xs) (encode_utf8_all ys))

pub bytes_take : (n : ℕ) (cs : List ℕ) → length (encode_utf8_all (take n cs)) ≤ length (encode_utf8_all cs)
bytes_take n cs = subst (λ z. length (encode_utf8_all (take n cs)) ≤ length (encode_utf8_all z)) (take-append-drop n cs) (bytes_front (take n cs) (drop n cs))

-- ---- lines

count_base : (b : Bool) → (if b then 1 + 0 else 0) ≡ 0 + (if b then 1 else 0)
count_base true = refl
count_base false = refl

count_step : (b : Bool) (m n : ℕ) → (if b then 1 + (m + n) else m + n) ≡ (if b then 1 + m else m) + n
count_step true m n = omega arith
count_step false m n = refl

line_feeds_push : (cs : List ℕ) (c : ℕ) → line_feeds (cs ++ c ∷ []) ≡ line_feeds cs + (if is_line_feed c then 1 else 0)
line_feeds_push [] c = count_base (is_line_feed c)
line_feeds_push (x ∷ xs) c =
    ap (λ k. if is_line_feed x then 1 + k else k) (line_feeds_push xs c) ∙ count_step (is_line_feed x) (line_feeds xs) (if is_line_feed c then 1 else 0)

count_le : (b : Bool) (m n : ℕ) → m ≤ n → (if b then 1 + m else m) ≤ n + 1
count_le true m n h = omega arith
count_le false m n h = omega arith

line_feeds-le : (cs : List ℕ) → line_feeds cs ≤ length cs
line_feeds-le [] = omega arith
line_feeds-le (x ∷ xs) = let k : (if is_line_feed x then 1 + line_feeds xs else line_feeds xs) ≤ length xs + 1 = count_le (is_line_feed x) (line_feeds xs) (length xs) (line_feeds-le xs) in omega (arith, k)

last_line_feed : (cs : List ℕ) (c : ℕ) → is_line_feed c ≡ true → last_line (cs ++ c ∷ []) ≡ []
last_line_feed [] c e = cond-true (is_line_feed c || false) [] (c ∷ []) (or_left (is_line_feed c) false e)
last_line_feed (x ∷ xs) c e =
    let here : list_any is_line_feed ((x ∷ xs) ++ c ∷ []) ≡ true =
    list_any-append is_line_feed (x ∷ xs) (c ∷ []) ∙ or_right (list_any is_line_feed (x ∷ xs)) (is_line_feed c || false) (or_left (is_line_feed c) false e) in
    cond-true (list_any is_line_feed ((x ∷ xs) ++ c ∷ [])) (last_line (xs ++ c ∷ [])) ((x ∷ xs) ++ c ∷ []) here ∙ last_line_feed xs c e

last_line_other : (cs : List ℕ) (c : ℕ) → is_line_feed c ≡ false → last_line (cs ++ c ∷ []) ≡ last_line cs ++ c ∷ []
last_line_other [] c e = cond-false (is_line_feed c || false) [] (c ∷ []) (or_from (is_line_feed c) false e refl)
last_line_other (x ∷ xs) c e =
    let same : list_any is_line_feed ((x ∷ xs) ++ c ∷ []) ≡ list_any is_line_feed (x ∷ xs) =
    list_any-append is_line_feed (x ∷ xs) (c ∷ []) ∙ (ap (λ b. list_any is_line_feed (x ∷ xs) || b) (or_from (is_line_feed c) false e refl) ∙ or-false (list_any is_line_feed (x ∷ xs))) in
    ap (λ b. if b then last_line (xs ++ c ∷ []) else (x ∷ xs) ++ c ∷ []) same ∙ choose (list_any is_line_feed (x ∷ xs)) (last_line_other xs c e)
  where
    choose : (b : Bool) → last_line (xs ++ c ∷ []) ≡ last_line xs ++ c ∷ [] → (if b then last_line (xs ++ c ∷ []) else (x ∷ xs) ++ c ∷ []) ≡ (if b then last_line xs else x ∷ xs) ++ c ∷ []
    choose true h = h
    choose false h = refl

last_line-le : (cs : List ℕ) → length (last_line cs) ≤ length cs
last_line-le [] = omega arith
last_line-le (x ∷ xs) = choose (list_any is_line_feed (x ∷ xs)) (last_line-le xs)
  where
    choose : (b : Bool) → length (last_line xs) ≤ length xs → length (if b then last_line xs else x ∷ xs) ≤ length (x ∷ xs)
    choose true h = omega arith
    choose false h = omega arith

-- ---- one character on

pub position_feed : (cs : List ℕ) (c : ℕ) → is_line_feed c ≡ true → position_after (cs ++ c ∷ []) ≡ record { line = line_feeds cs + 1 + 1; col = 1 }
position_feed cs c e =
    let at : ℕ → ℕ → Pos = λ l k. record { line = l; col = k } in
    let line : line_feeds (cs ++ c ∷ []) + 1 ≡ line_feeds cs + 1 + 1 = ap (λ k. k + 1) (line_feeds_push cs c ∙ ap (λ b. line_feeds cs + (if b then 1 else 0)) e) in
    let col : length (last_line (cs ++ c ∷ [])) + 1 ≡ 1 = ap (λ z. length z + 1) (last_line_feed cs c e) in
    ap (λ l. at l (length (last_line (cs ++ c ∷ [])) + 1)) line ∙ ap (λ k. at (line_feeds cs + 1 + 1) k) col

pub position_other : (cs : List ℕ) (c : ℕ) → is_line_feed c ≡ false → position_after (cs ++ c ∷ []) ≡ record { line = line_feeds cs + 1; col = length (last_line cs) + 1 + 1 }
position_other cs c e =
    let at : ℕ → ℕ → Pos = λ l k. record { line = l; col = k } in
    let feeds : line_feeds (cs ++ c ∷ []) ≡ line_feeds cs + 0 = line_feeds_push cs c ∙ ap (λ b. line_feeds cs + (if b then 1 else 0)) e in
    let line : line_feeds (cs ++ c ∷ []) + 1 ≡ line_feeds cs + 1 = omega (arith, feeds) in
    let col : length (last_line (cs ++ c ∷ [])) + 1 ≡ length (last_line cs) + 1 + 1 = ap (λ z. length z + 1) (last_line_other cs c e) ∙ (let l : length (last_line cs ++ c ∷ []) + 1 ≡ length (last_line cs) + 1 + 1 = omega (arith, length-append (last_line cs) (c ∷ [])) in l) in
    ap (λ l. at l (length (last_line (cs ++ c ∷ [])) + 1)) line ∙ ap (λ k. at (line_feeds cs + 1) k) col

-- the numbers of the next place fit
pub line_fits : (chars : List ℕ) (p : Place) → IsPlace chars p → p.at < length chars → length (encode_utf8_all chars) < 2 ^ 32 - 1 → p.pos.line + 1 < 2 ^ 32
line_fits chars p h more small =
    let before : List ℕ = take p.at chars in
    let line : p.pos.line ≡ line_feeds before + 1 = ap (λ (q : Pos). q.line) h.pos in
    omega (arith, line, line_feeds-le before, length-take-le p.at chars h.within, length-le-encodes chars)

pub col_fits : (chars : List ℕ) (p : Place) → IsPlace chars p → p.at < length chars → length (encode_utf8_all chars) < 2 ^ 32 - 1 → p.pos.col + 1 < 2 ^ 32
col_fits chars p h more small =
    let before : List ℕ = take p.at chars in
    let col : p.pos.col ≡ length (last_line before) + 1 = ap (λ (q : Pos). q.col) h.pos in
    omega (arith, col, last_line-le before, length-take-le p.at chars h.within, length-le-encodes chars)

byte_next : (chars : List ℕ) (p : Place) (c : ℕ) → IsPlace chars p → p.at < length chars → get_or chars p.at 0 ≡ c → p.byte + len_utf8 c ≡ length (encode_utf8_all (take (p.at + 1) chars))
byte_next chars p c h more e =
    let next : take (p.at + 1) chars ≡ take p.at chars ++ c ∷ [] = take_more chars p.at 0 more ∙ ap (λ z. take p.at chars ++ z ∷ []) e in
    ap (λ k. k + len_utf8 c) h.byte ∙ (sym (bytes_push (take p.at chars) c) ∙ ap (λ z. length (encode_utf8_all z)) (sym next))

pub byte_fits : (chars : List ℕ) (p : Place) (c : ℕ) → IsPlace chars p → p.at < length chars → get_or chars p.at 0 ≡ c → length (encode_utf8_all chars) < 2 ^ 32 - 1 → p.byte + len_utf8 c < 2 ^ 32
byte_fits chars p c h more e small = omega (arith, byte_next chars p c h more e, bytes_take (p.at + 1) chars)

-- the place behind a line feed
pub place_feed : (chars : List ℕ) (p : Place) (c : ℕ) → IsPlace chars p → p.at < length chars → get_or chars p.at 0 ≡ c → is_line_feed c ≡ true
    → IsPlace chars (record { at = p.at + 1; byte = p.byte + len_utf8 c; pos = record { line = p.pos.line + 1; col = 1 } })
place_feed chars p c h more e feed =
    let next : take (p.at + 1) chars ≡ take p.at chars ++ c ∷ [] = take_more chars p.at 0 more ∙ ap (λ z. take p.at chars ++ z ∷ []) e in
    let at : ℕ → ℕ → Pos = λ l k. record { line = l; col = k } in
    record {
      within = omega arith;
      byte = byte_next chars p c h more e;
      pos = ap (λ (q : Pos). at (q.line + 1) 1) h.pos ∙ (sym (position_feed (take p.at chars) c feed) ∙ ap position_after (sym next));
    }

-- the place behind another character
pub place_other : (chars : List ℕ) (p : Place) (c : ℕ) → IsPlace chars p → p.at < length chars → get_or chars p.at 0 ≡ c → is_line_feed c ≡ false
    → IsPlace chars (record { at = p.at + 1; byte = p.byte + len_utf8 c; pos = record { line = p.pos.line; col = p.pos.col + 1 } })
place_other chars p c h more e other =
    let next : take (p.at + 1) chars ≡ take p.at chars ++ c ∷ [] = take_more chars p.at 0 more ∙ ap (λ z. take p.at chars ++ z ∷ []) e in
    let at : ℕ → ℕ → Pos = λ l k. record { line = l; col = k } in
    record {
      within = omega arith;
      byte = byte_next chars p c h more e;
      pos = ap (λ (q : Pos). at q.line (q.col + 1)) h.pos ∙ (sym (position_other (take p.at chars) c other) ∙ ap position_after (sym next));
    }
