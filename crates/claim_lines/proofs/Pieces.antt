-- What stands behind the mark, read word by word.
use Rattle.std.proofs.Common.{◌≡◌, ℕ, ◌<◌, ◌≤◌, List, [], ◌∷◌, ◌++◌, map, length, drop, true, false, Option, Some, None, MatchOption, refl, sym, ap, ◌∙◌, subst, arith, inl, inr, append-nil}
use Rattle.std.specs.Prelude.{◌==◌}
use Rattle.std.specs.List.{list_all}
use Rattle.std.proofs.lemmas.List.{nil_from_length}
use Rattle.std.proofs.lemmas.Bool.{and_parts, eqb-true, eqb-false}
use Rattle.claim_lines.specs.declared.words.Word.{Word}
use Rattle.claim_lines.specs.declared.draft.Draft.{Draft}
use Rattle.claim_lines.specs.declared.draft.Draft.TheVariants.{Begin}
use Rattle.claim_lines.specs.declared.lines.Body.{Body}
use Rattle.claim_lines.specs.declared.lines.Body.TheVariants as body
use Rattle.claim_lines.specs.Lines.{separates}
use Rattle.claim_lines.specs.Words.{Piece, Blank, Lexeme, piece_text, Fits, text_then, Read, words_in}
use Rattle.claim_lines.specs.Grammar.{BeginsSomeClaim}
use Rattle.claim_lines.specs.Reading.{EndsInWord, AreBlanks}
use Rattle.claim_lines.specs.Drafts.{HasRead}
use Rattle.claim_lines.specs.Fronts.{BeginsWord, IsFirstWord, IsBody, IsEnded}
use Rattle.claim_lines.proofs.Cuts.{cut_drop, cut_length, IsRun, Stops}
use Rattle.claim_lines.proofs.Drafting.{begins_draft}

-- ---- pieces behind pieces

text_then-append : (ps qs : List Piece) (after : List ℕ) → text_then (ps ++ qs) after ≡ text_then ps (text_then qs after)
text_then-append [] qs after = refl
text_then-append (p ∷ ps) qs after = ap (λ z. piece_text p ++ z) (text_then-append ps qs after)

read_append : (ps qs : List Piece) (after : List ℕ) → Read ps (text_then qs after) → Read qs after → Read (ps ++ qs) after
read_append [] qs after h k = k
read_append (p ∷ ps) qs after h k = (subst (Fits p) (sym (text_then-append ps qs after)) h.0, read_append ps qs after h.1 k)

words_append : (ps qs : List Piece) → words_in (ps ++ qs) ≡ words_in ps ++ words_in qs
words_append [] qs = refl
words_append (Blank c ∷ ps) qs = words_append ps qs
words_append (Lexeme cs w ∷ ps) qs = ap (λ z. w ∷ z) (words_append ps qs)

blanks_of : List ℕ → List Piece
blanks_of cs = map Blank cs

blanks_text : (cs after : List ℕ) → text_then (blanks_of cs) after ≡ cs ++ after
unfolding blanks_of
blanks_text [] after = refl
blanks_text (c ∷ cs) after = ap (λ z. c ∷ z) (blanks_text cs after)

blanks_read : (cs after : List ℕ) → list_all separates cs ≡ true → Read (blanks_of cs) after
unfolding blanks_of
blanks_read [] after h = tt
blanks_read (c ∷ cs) after h = ((and_parts (separates c) (list_all separates cs) h).0, blanks_read cs after ((and_parts (separates c) (list_all separates cs) h).1))

blanks_are : (cs : List ℕ) → AreBlanks (blanks_of cs)
unfolding blanks_of
blanks_are [] = tt
blanks_are (c ∷ cs) = blanks_are cs

blanks_words : (cs : List ℕ) → words_in (blanks_of cs) ≡ []
unfolding blanks_of
blanks_words [] = refl
blanks_words (c ∷ cs) = blanks_words cs

ends_in_word : (ps : List Piece) (cs : List ℕ) (w : Word) → EndsInWord (ps ++ Lexeme cs w ∷ [])
ends_in_word [] cs w = tt
ends_in_word (Blank c ∷ []) cs w = tt
ends_in_word (Lexeme ds v ∷ []) cs w = tt
ends_in_word (Blank c ∷ q ∷ ps) cs w = ends_in_word (q ∷ ps) cs w
ends_in_word (Lexeme ds v ∷ q ∷ ps) cs w = ends_in_word (q ∷ ps) cs w

-- ---- how far it is read

-- the words of the draft stand before `behind`
pub record IsReadTo (text : List ℕ) (draft : Draft) (behind : List ℕ) : Type 0 where
  pub pieces : List Piece
  pub split : text_then pieces behind ≡ text
  pub read : Read pieces behind
  pub word : EndsInWord pieces
  pub words : HasRead (words_in pieces) draft

pub read_start : (text : List ℕ) → IsReadTo text Begin text
read_start text = record { pieces = []; split = refl; read = tt; word = tt; words = refl }

-- the pieces up to the next word
record IsReadOn (text : List ℕ) (draft : Draft) (rest : List ℕ) : Type 0 where
  pieces : List Piece
  split : text_then pieces rest ≡ text
  read : Read pieces rest
  words : HasRead (words_in pieces) draft

read_on : (text : List ℕ) (draft : Draft) (behind : List ℕ) (n : ℕ) → IsReadTo text draft behind → IsRun separates behind n → IsReadOn text draft (drop n behind)
read_on text draft behind n r run =
    let same : drop n behind ≡ run.after = cut_drop behind n run.front run.after run.cut in
    let here : text_then (blanks_of run.front) run.after ≡ behind = blanks_text run.front run.after ∙ run.cut.whole in
    subst (IsReadOn text draft) (sym same) (record {
      pieces = r.pieces ++ blanks_of run.front;
      split = text_then-append r.pieces (blanks_of run.front) run.after ∙ (ap (text_then r.pieces) here ∙ r.split);
      read = read_append r.pieces (blanks_of run.front) run.after (subst (Read r.pieces) (sym here) r.read) (blanks_read run.front run.after run.passes);
      words = subst (λ z. HasRead z draft) (sym (words_append r.pieces (blanks_of run.front) ∙ (ap (λ z. words_in r.pieces ++ z) (blanks_words run.front) ∙ append-nil (words_in r.pieces)))) r.words;
    })

-- a word more
pub read_word : (text : List ℕ) (draft new : Draft) (behind : List ℕ) (n k : ℕ) (w : Word) → IsReadTo text draft behind → IsRun separates behind n → IsFirstWord (drop n behind) k w
    → ((words : List Word) → HasRead words draft → HasRead (words ++ w ∷ []) new) → IsReadTo text new (drop k (drop n behind))
read_word text draft new behind n k w r run (cs, after, cut, spells, some) goes =
    let on = read_on text draft behind n r run in
    let same : drop k (drop n behind) ≡ after = cut_drop (drop n behind) k cs after cut in
    subst (IsReadTo text new) (sym same) (record {
      pieces = on.pieces ++ Lexeme cs w ∷ [];
      split = text_then-append on.pieces (Lexeme cs w ∷ []) after ∙ (ap (text_then on.pieces) cut.whole ∙ on.split);
      read = read_append on.pieces (Lexeme cs w ∷ []) after (subst (Read on.pieces) (sym cut.whole) on.read) (spells, tt);
      word = ends_in_word on.pieces cs w;
      words = subst (λ z. HasRead z new) (sym (words_append on.pieces (Lexeme cs w ∷ []))) (goes (words_in on.pieces) on.words);
    })

-- a word that no claim goes on with
pub breaks_off : (text : List ℕ) (draft : Draft) (behind : List ℕ) (n k : ℕ) (w : Word) → IsReadTo text draft behind → IsRun separates behind n → IsFirstWord (drop n behind) k w
    → ((words : List Word) → HasRead words draft → ¬ BeginsSomeClaim (words ++ w ∷ [])) → IsBody text (body.WrongBefore (length (drop n behind)))
breaks_off text draft behind n k w r run (cs, after, cut, spells, some) none =
    let on = read_on text draft behind n r run in (
      on.pieces,
      drop n behind,
      sym on.split,
      on.read,
      inl (record {
        characters = cs;
        word = w;
        behind = after;
        split = sym cut.whole;
        spells = spells;
        begun = begins_draft (words_in on.pieces) draft on.words;
        none = none (words_in on.pieces) on.words;
      }),
      refl,
    )

nothing_left : (behind : List ℕ) (n : ℕ) (run : IsRun separates behind n) → drop n behind ≡ [] → text_then (blanks_of run.front) [] ≡ behind
nothing_left behind n run e =
    let none : run.after ≡ [] = sym (cut_drop behind n run.front run.after run.cut) ∙ e in
    blanks_text run.front [] ∙ (ap (λ z. run.front ++ z) (sym none) ∙ run.cut.whole)

-- the end of the line
pub body_ended : (text : List ℕ) (draft : Draft) (behind : List ℕ) (n : ℕ) (answer : Body) → IsReadTo text draft behind → IsRun separates behind n → drop n behind ≡ []
    → ((words : List Word) → HasRead words draft → IsEnded words (length behind) answer) → IsBody text answer
body_ended text draft behind n (body.Says says) r run e h =
    let on : IsReadOn text draft [] = subst (IsReadOn text draft) e (read_on text draft behind n r run) in
    (on.pieces, on.split, on.read, h (words_in on.pieces) on.words)
body_ended text draft behind n (body.WrongBefore left) r run e h =
    let (len, none) = h (words_in r.pieces) r.words in (
      r.pieces,
      behind,
      sym r.split,
      r.read,
      inr (record {
        blanks = blanks_of run.front;
        word = r.word;
        blank = blanks_are run.front;
        split = sym (nothing_left behind n run e);
        read = blanks_read run.front [] run.passes;
        begun = begins_draft (words_in r.pieces) draft r.words;
        none = none;
      }),
      sym len,
    )

-- ---- where a word begins

pub word_begins : (behind : List ℕ) (n : ℕ) → IsRun separates behind n → 0 < length (drop n behind) → BeginsWord (drop n behind)
word_begins behind n run more =
    let same : drop n behind ≡ run.after = cut_drop behind n run.front run.after run.cut in
    subst BeginsWord (sym same) (begins run.after (subst (λ z. 0 < length z) same more) run.stops)
  where
    begins : (rest : List ℕ) → 0 < length rest → Stops separates rest → BeginsWord rest
    begins [] h s = absurd (omega arith)
    begins (c ∷ cs) h s = s

pub word_within : (rest : List ℕ) (k : ℕ) (w : Word) → IsFirstWord rest k w → (0 < k) × (k ≤ length rest)
word_within rest k w (cs, after, cut, spells, some) = (some, omega (arith, cut_length rest k cs after cut))

-- ---- what the code tells

pub nothing : (rest left : List ℕ) → left ≡ rest → true ≡ (length left == 0) → rest ≡ []
nothing rest left e h = sym e ∙ nil_from_length left (eqb-true (length left) 0 (sym h))

pub next_word : (behind rest : List ℕ) (n : ℕ) → IsRun separates behind n → rest ≡ drop n behind → false ≡ (length rest == 0) → BeginsWord rest
next_word behind rest n run e h =
    let some : length rest ≡ 0 → ⊥ = eqb-false (length rest) 0 (sym h) in
    let more : 0 < length rest = omega arith in
    subst BeginsWord (sym e) (word_begins behind n run (subst (λ z. 0 < length z) e more))

pub never_more : (r : Option Draft) (draft : Draft) (w : Word) → r ≡ None → ((words : List Word) → HasRead words draft → MatchOption r (¬ BeginsSomeClaim (words ++ w ∷ [])) (HasRead (words ++ w ∷ [])))
    → (words : List Word) → HasRead words draft → ¬ BeginsSomeClaim (words ++ w ∷ [])
never_more r draft w e h = subst (λ z. (words : List Word) → HasRead words draft → MatchOption z (¬ BeginsSomeClaim (words ++ w ∷ [])) (HasRead (words ++ w ∷ []))) e h

pub goes_on : (r : Option Draft) (draft new : Draft) (w : Word) → r ≡ Some new → ((words : List Word) → HasRead words draft → MatchOption r (¬ BeginsSomeClaim (words ++ w ∷ [])) (HasRead (words ++ w ∷ [])))
    → (words : List Word) → HasRead words draft → HasRead (words ++ w ∷ []) new
goes_on r draft new w e h = subst (λ z. (words : List Word) → HasRead words draft → MatchOption z (¬ BeginsSomeClaim (words ++ w ∷ [])) (HasRead (words ++ w ∷ []))) e h

pub first_at : (rest behind : List ℕ) (k : ℕ) (w : Word) → rest ≡ behind → IsFirstWord rest k w → IsFirstWord behind k w
first_at rest behind k w e h = subst (λ z. IsFirstWord z k w) e h
