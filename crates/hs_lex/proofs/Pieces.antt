-- What stands at the front of a text, from what its characters are.
use Rattle.std.proofs.Common.{◌≡◌, ◌≢◌, ℕ, ◌+◌, ◌<◌, ◌≤◌, List, [], ◌∷◌, ◌++◌, length, take, drop, true, false, not, refl, sym, ap, ◌∙◌, subst, arith, inl, inr, append_assoc, length-append}
use Rattle.std.specs.Prelude.{◌==◌, ℤ, pos}
use Rattle.std.specs.List.{list_all, list_any}
use Rattle.std.specs.Char.{is_ascii_digit}
use Rattle.std.proofs.lemmas.Bool.{and_parts, or_from, eqb-true, not-true, not-false, false≢true}
use Rattle.unicode_ident.proofs.Computing.{unicode_ident}
use Rattle.rules_tokens.specs.declared.token.Tok.{Tok}
use Rattle.rules_tokens.specs.declared.token.Tok.TheVariants as tok
use Rattle.rules_tokens.specs.Tokens.{quote, dash, is_blank, is_line_feed, starts_word, continues_word, IsWord, IsNumber, IsSymbolNumber, HasForm, IsLongest, BeginsComment, EndsLine, Blank, Comment, Spells, LiteralPart, Escape, parts_text, literal_text, symbols, number_of, greatest_number}
use Rattle.hs_lex.specs.declared.front.Front.TheVariants as front
use Rattle.hs_lex.specs.declared.front.Flaw.TheVariants as flaw
use Rattle.hs_lex.specs.declared.literal.Meaning.TheVariants as meaning
use Rattle.hs_lex.specs.Fronts.{IsCut, StandsAt, Begins, BeginsOther, NoneBelow, IsClosedAt, MeansAll}
use Rattle.hs_lex.proofs.Cuts.{cut_take, cut_within}
use Rattle.hs_lex.proofs.Bodies.{parts_text-append}
use Rattle.std.proofs.lemmas.Option.{slice_get_within}
use Rattle.hs_lex.proofs.Forms.{form_of, form_not_empty}
use Rattle.hs_lex.proofs.Runs.{IsRun}
use Rattle.hs_lex.proofs.Longest.{Stops, word_longest, number_longest, literal_longest, symbol_longest}

pub blank_front : (rest : List ℕ) → Begins is_blank rest → StandsAt rest (front.Gap 1)
blank_front [] b = absurd b
blank_front (c ∷ cs) b = (Blank c, cs, record { whole = refl; len = refl }, tt, b)

-- ---- comments

no_line_feed : (cs : List ℕ) → list_all (λ c. not (is_line_feed c)) cs ≡ true → list_any is_line_feed cs ≡ false
no_line_feed [] e = refl
no_line_feed (c ∷ cs) e =
    let both = and_parts (not (is_line_feed c)) (list_all (λ d. not (is_line_feed d)) cs) e in
    or_from (is_line_feed c) (list_any is_line_feed cs) (not-true (is_line_feed c) both.0) (no_line_feed cs both.1)

ends_line : (cs : List ℕ) → Stops (λ c. not (is_line_feed c)) cs → EndsLine cs
ends_line [] s = tt
ends_line (c ∷ cs) s = not-false (is_line_feed c) s

pub comment_front : (rest : List ℕ) (n : ℕ) → BeginsComment rest → IsRun (λ c. not (is_line_feed c)) (drop 2 rest) n → StandsAt rest (front.Gap (2 + n))
comment_front rest n (more, e) run =
    let body : drop 2 rest ≡ more = ap (drop 2) e in (
      Comment run.front,
      run.after,
      record {
        whole = ap (λ z. dash ∷ dash ∷ z) (run.whole ∙ body) ∙ sym e;
        len = let len : length run.front ≡ n = run.len in omega arith;
      },
      tt,
      (no_line_feed run.front run.passes, ends_line run.after run.stops),
    )

pub two_within : (rest : List ℕ) → BeginsComment rest → 2 ≤ length rest
two_within rest (more, e) = let l : length rest ≡ length (dash ∷ dash ∷ more) = ap length e in omega arith

-- ---- words

no_dash_word : (c : ℕ) → starts_word c ≡ true → c ≢ dash
unfolding unicode_ident
no_dash_word c e h = let P : ℕ → Type 0 = λ n. starts_word n ≡ true in false≢true (subst P h e)

no_comment : (c : ℕ) (cs : List ℕ) → c ≢ dash → ¬ BeginsComment (c ∷ cs)
no_comment c cs n (more, e) = n (cc)

-- the longest word at the front
pub record WordFront (rest : List ℕ) (n : ℕ) : Type 0 where
  pub chars : List ℕ
  pub after : List ℕ
  pub cut : IsCut rest n chars after
  pub word : IsWord chars
  pub longest : IsLongest chars after
  pub code : ¬ BeginsComment (chars ++ after)

pub word_run : (rest : List ℕ) (n : ℕ) → Begins starts_word rest → IsRun continues_word (drop 1 rest) n → WordFront rest (1 + n)
word_run [] n b run = absurd b
word_run (c ∷ cs) n b run = record {
  chars = c ∷ run.front;
  after = run.after;
  cut = record { whole = ap (λ z. c ∷ z) run.whole; len = let len : length run.front ≡ n = run.len in omega arith };
  word = (b, run.passes);
  longest = word_longest c run.front run.after (b, run.passes) run.stops;
  code = no_comment c (run.front ++ run.after) (no_dash_word c b);
}

pub word_front : (rest : List ℕ) (n : ℕ) (t : Tok) → WordFront rest n → Spells (take n rest) t → StandsAt rest (front.Token n t)
word_front rest n t w s = (w.chars, w.after, w.cut, (subst (λ z. Spells z t) (cut_take rest n w.chars w.after w.cut) s, w.longest, w.code))

-- ---- numbers

no_dash_digit : (c : ℕ) → is_ascii_digit c ≡ true → c ≢ dash
no_dash_digit c e h = let P : ℕ → Type 0 = λ n. is_ascii_digit n ≡ true in false≢true (subst P h e)

pub record NumberFront (rest : List ℕ) (n : ℕ) : Type 0 where
  pub chars : List ℕ
  pub after : List ℕ
  pub cut : IsCut rest n chars after
  pub number : IsNumber chars
  pub digits : list_all is_ascii_digit chars ≡ true
  pub longest : IsLongest chars after
  pub code : ¬ BeginsComment (chars ++ after)

number_of_run : (rest front after : List ℕ) (n : ℕ) → Begins is_ascii_digit rest → front ++ after ≡ rest → length front ≡ n → list_all is_ascii_digit front ≡ true → Stops is_ascii_digit after → NumberFront rest n
number_of_run rest [] [] n b whole len passes stops = absurd (subst (Begins is_ascii_digit) (sym whole) b)
number_of_run rest [] (c ∷ after) n b whole len passes stops = let yes : is_ascii_digit c ≡ true = subst (Begins is_ascii_digit) (sym whole) b in absurd (false≢true (sym stops ∙ yes))
number_of_run rest (c ∷ cs) after n b whole len passes stops = record {
  chars = c ∷ cs;
  after = after;
  cut = record { whole = whole; len = len };
  number = passes;
  digits = passes;
  longest = number_longest c cs after passes stops;
  code = no_comment c (cs ++ after) (no_dash_digit c ((and_parts _ _ passes).0));
}

pub number_run : (rest : List ℕ) (n : ℕ) → Begins is_ascii_digit rest → IsRun is_ascii_digit rest n → NumberFront rest n
number_run rest n b run = number_of_run rest run.front run.after n b run.whole run.len run.passes run.stops

-- ---- text literals

no_dash_quote : quote ≢ dash
no_dash_quote e = omega arith

-- a closed literal at the front
record Closed (rest : List ℕ) (len : ℕ) (body : List ℕ) : Type 0 where
  after : List ℕ
  whole : rest ≡ quote ∷ (body ++ quote ∷ after)
  len_is : length body ≡ len
  front : take len (drop 1 rest) ≡ body

closed_at : (rest : List ℕ) (len : ℕ) → Begins (λ c. c == quote) rest → IsClosedAt (drop 1 rest) len → (body : List ℕ) × Closed rest len body
closed_at [] len b closed = absurd b
closed_at (c ∷ inside) len b (ps, body, after, cut, whole) = (
  body,
  record {
    after = after;
    whole = ap (λ z. z ∷ inside) (eqb-true c quote b) ∙ ap (λ z. quote ∷ z) (sym cut.whole);
    len_is = cut.len;
    front = cut_take inside len body (quote ∷ after) cut;
  },
)

literal_is : (ps : List LiteralPart) (body : List ℕ) → parts_text ps ≡ body → quote ∷ (body ++ quote ∷ []) ≡ literal_text ps
literal_is ps body e = ap (λ z. quote ∷ (z ++ quote ∷ [])) (sym e)

pub literal_front : (rest : List ℕ) (len : ℕ) (text : List ℕ) → Begins (λ c. c == quote) rest → IsClosedAt (drop 1 rest) len → MeansAll (take len (drop 1 rest)) (meaning.Text text)
    → StandsAt rest (front.Token (len + 2) (tok.Text text))
literal_front rest len text b closed (ps, meant, whole, stands, t) =
    let (body, k) = closed_at rest len b closed in
    let chars : List ℕ = body ++ quote ∷ [] in
    let is : quote ∷ chars ≡ literal_text ps = literal_is ps body (whole.1 ∙ k.front) in (
      quote ∷ chars,
      k.after,
      record {
        whole = ap (λ z. quote ∷ z) (append_assoc body (quote ∷ []) k.after) ∙ sym k.whole;
        len = let l : length body ≡ len = k.len_is in omega (arith, length-append body (quote ∷ []));
      },
      ((ps, meant, whole.0, is, stands, t), literal_longest quote chars k.after (ps, whole.0, is), no_comment quote (chars ++ k.after) no_dash_quote),
    )

pub wrong_front : (rest : List ℕ) (len n : ℕ) → Begins (λ c. c == quote) rest → IsClosedAt (drop 1 rest) len → MeansAll (take len (drop 1 rest)) (meaning.Wrong n)
    → StandsAt rest (front.Wrong flaw.BadChar (n + 1))
wrong_front rest len n b closed (good, more, wrong, meant, whole, stands, none_meant, place) =
    let (body, k) = closed_at rest len b closed in
    let parts : List LiteralPart = good ++ Escape wrong ∷ more in
    let is : quote ∷ (body ++ quote ∷ []) ≡ literal_text parts = literal_is parts body (whole.1 ∙ k.front) in
    let split : parts_text good ++ parts_text (Escape wrong ∷ more) ≡ body = sym (parts_text-append good (Escape wrong ∷ more)) ∙ (whole.1 ∙ k.front) in (
      quote ∷ parts_text good,
      parts_text (Escape wrong ∷ more) ++ quote ∷ k.after,
      record {
        whole = ap (λ z. quote ∷ z) (sym (append_assoc (parts_text good) (parts_text (Escape wrong ∷ more)) (quote ∷ k.after)) ∙ ap (λ z. z ++ quote ∷ k.after) split) ∙ sym k.whole;
        len = let l : length (parts_text good) ≡ n = place in omega arith;
      },
      inr (record {
        good = good;
        wrong = wrong;
        more = more;
        meant = meant;
        after = k.after;
        literal = k.whole ∙ (ap (λ z. quote ∷ z) (sym (append_assoc body (quote ∷ []) k.after)) ∙ ap (λ z. z ++ k.after) is);
        stands = whole.0;
        right = stands;
        none = none_meant;
        place = refl;
      }),
    )

-- a wrong escape stands within the literal
pub wrong_within : (rest : List ℕ) (len n : ℕ) → Begins (λ c. c == quote) rest → IsClosedAt (drop 1 rest) len → MeansAll (take len (drop 1 rest)) (meaning.Wrong n) → n + 1 ≤ length rest
wrong_within rest len n b closed m =
    let (read, after, cut, fault) = wrong_front rest len n b closed m in
    cut_within rest (n + 1) read after cut

pub closed_within : (rest : List ℕ) (len : ℕ) → Begins (λ c. c == quote) rest → IsClosedAt (drop 1 rest) len → len + 2 ≤ length rest
closed_within rest len b closed =
    let (body, k) = closed_at rest len b closed in
    let l : length body ≡ len = k.len_is in
    omega (arith, ap length k.whole, length-append body (quote ∷ k.after))

-- the digits of the longest number
pub number_digits : (rest : List ℕ) (n : ℕ) → NumberFront rest n → list_all is_ascii_digit (take n rest) ≡ true
number_digits rest n f = ap (list_all is_ascii_digit) (cut_take rest n f.chars f.after f.cut) ∙ f.digits

pub number_front : (rest : List ℕ) (n : ℕ) (value : ℤ) → NumberFront rest n → value ≡ pos (number_of (take n rest)) → number_of (take n rest) ≤ greatest_number → StandsAt rest (front.Token n (tok.Int value))
number_front rest n value f is small =
    let same : take n rest ≡ f.chars = cut_take rest n f.chars f.after f.cut in
    (f.chars, f.after, f.cut, ((f.number, subst (λ z. number_of z ≤ greatest_number) same small, is ∙ ap (λ z. pos (number_of z)) same), f.longest, f.code))

pub big_front : (rest : List ℕ) (n : ℕ) → NumberFront rest n → greatest_number < number_of (take n rest) → StandsAt rest (front.Wrong flaw.BigNumber 0)
big_front rest n f big = (
  [],
  rest,
  record { whole = refl; len = refl },
  (
    refl,
    record {
      digits = f.chars;
      after = f.after;
      split = sym f.cut.whole;
      number = f.number;
      longest = f.longest;
      big = subst (λ z. greatest_number < number_of z) (cut_take rest n f.chars f.after f.cut) big;
    },
  ),
)

-- ---- symbols

dash_no_comment : (rest cs after : List ℕ) → cs ++ after ≡ rest → ¬ BeginsComment rest → ¬ BeginsComment (cs ++ after)
dash_no_comment rest cs after whole code comment = code (subst BeginsComment whole comment)

pub symbol_front : (rest : List ℕ) (n number : ℕ) (cs after : List ℕ) → ¬ BeginsComment rest → IsCut rest n cs after → IsSymbolNumber number cs → NoneBelow number rest → StandsAt rest (front.Token n (tok.Sym number))
symbol_front rest n number cs after code cut is below =
    (cs, after, cut, (is, symbol_longest number cs after is (subst (NoneBelow number) (sym cut.whole) below), dash_no_comment rest cs after cut.whole code))

other_form : (c : ℕ) (cs front after : List ℕ) → BeginsOther (c ∷ cs) → NoneBelow 26 (c ∷ cs) → HasForm front → front ++ after ≢ c ∷ cs
other_form c cs [] after other below form e = form_not_empty (form_of [] form).0 (form_of [] form).1
other_form c cs (d ∷ ds) after other below (inl w) e = let same : d ≡ c = cc in false≢true (sym other.3 ∙ (ap starts_word (sym same) ∙ w.0))
other_form c cs (d ∷ ds) after other below (inr (inl n)) e = let same : d ≡ c = cc in false≢true (sym other.2 ∙ (ap is_ascii_digit (sym same) ∙ (and_parts _ _ n).0))
other_form c cs (d ∷ ds) after other below (inr (inr (inl s))) e = below s.0 (d ∷ ds) after (slice_get_within symbols s.0 (d ∷ ds) s.1) s.1 e
other_form c cs (d ∷ ds) after other below (inr (inr (inr l))) e = let same : d ≡ c = cc in let is : d ≡ quote = cc l.2 in other.1 (sym same ∙ is)

pub bad_front : (rest : List ℕ) → BeginsOther rest → NoneBelow 26 rest → StandsAt rest (front.Wrong flaw.BadChar 0)
bad_front [] other below = absurd other
bad_front (c ∷ cs) other below =
    ([], c ∷ cs, record { whole = refl; len = refl }, inl (refl, (other.0, other.1, λ front after form. other_form c cs front after other below form)))
