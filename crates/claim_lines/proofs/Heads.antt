-- Where a line begins as a claim.
use Rattle.std.proofs.Common.{◌≡◌, ◌≢◌, Bool, Bor, Option, Some, None, MatchOption, ℕ, ◌+◌, ◌-◌, List, [], ◌∷◌, ◌++◌, length, drop, true, refl, sym, ap, ◌∙◌, arith, append_assoc, length-append}
use Rattle.std.specs.List.{list_all, prefix_len}
use Rattle.rules_tokens.specs.Tokens.{dash}
use Rattle.claim_lines.specs.Lines.{separates, is_space_or_tab, exclamation_mark, BeginsClaim, IsNoClaim}
use Rattle.claim_lines.specs.declared.claim.Says.{Says}
use Rattle.claim_lines.specs.declared.lines.Body.TheVariants as body
use Rattle.claim_lines.specs.Words.{Piece, piece_text, text_then}
use Rattle.claim_lines.specs.Reading.{IsWritten, IsWrongAt}
use Rattle.claim_lines.specs.Fronts.{IsBody}
use Rattle.claim_lines.proofs.Cuts.{cut_drop, prefix_is_run, run_same}

-- the line, with its parts
shape : (indent between rest : List ℕ) → ((indent ++ dash ∷ dash ∷ between) ++ exclamation_mark ∷ []) ++ rest ≡ indent ++ dash ∷ dash ∷ (between ++ exclamation_mark ∷ rest)
shape indent between rest =
    append_assoc (indent ++ dash ∷ dash ∷ between) (exclamation_mark ∷ []) rest ∙ append_assoc indent (dash ∷ dash ∷ between) (exclamation_mark ∷ rest)

-- behind the blanks of such a line stand the dashes
dashes : (line head rest : List ℕ) (b : BeginsClaim line head rest) → drop (prefix_len separates line) line ≡ dash ∷ dash ∷ (b.between ++ exclamation_mark ∷ rest)
dashes line head rest b =
    let run = prefix_is_run separates line in
    let whole : b.indent ++ dash ∷ dash ∷ (b.between ++ exclamation_mark ∷ rest) ≡ run.front ++ run.after = sym (shape b.indent b.between rest) ∙ (ap (λ z. z ++ rest) (sym b.opening) ∙ (sym b.split ∙ sym run.cut.whole)) in
    let same = run_same separates b.indent run.front (dash ∷ dash ∷ (b.between ++ exclamation_mark ∷ rest)) run.after b.blank run.passes refl run.stops whole in
    cut_drop line (prefix_len separates line) run.front run.after run.cut ∙ sym same.1

-- and behind the spaces and tabs the mark
mark : (text between rest : List ℕ) → list_all is_space_or_tab between ≡ true → text ≡ between ++ exclamation_mark ∷ rest → drop (prefix_len is_space_or_tab text) text ≡ exclamation_mark ∷ rest
mark text between rest h e =
    let run = prefix_is_run is_space_or_tab text in
    let same = run_same is_space_or_tab between run.front (exclamation_mark ∷ rest) run.after h run.passes refl run.stops (sym e ∙ sym run.cut.whole) in
    cut_drop text (prefix_len is_space_or_tab text) run.front run.after run.cut ∙ sym same.1

pub no_first : (line : List ℕ) → ((more : List ℕ) → drop (prefix_len separates line) line ≢ dash ∷ more) → IsNoClaim line
no_first line none head rest b = none (dash ∷ (b.between ++ exclamation_mark ∷ rest)) (dashes line head rest b)

pub no_second : (line first : List ℕ) → drop (prefix_len separates line) line ≡ dash ∷ first → ((more : List ℕ) → first ≢ dash ∷ more) → IsNoClaim line
no_second line first e none head rest b =
    let both : dash ∷ first ≡ dash ∷ dash ∷ (b.between ++ exclamation_mark ∷ rest) = sym e ∙ dashes line head rest b in
    none (b.between ++ exclamation_mark ∷ rest) (cc)

pub no_mark : (line first second : List ℕ) → drop (prefix_len separates line) line ≡ dash ∷ first → first ≡ dash ∷ second
    → ((more : List ℕ) → drop (prefix_len is_space_or_tab second) second ≢ exclamation_mark ∷ more) → IsNoClaim line
no_mark line first second e f none head rest b =
    let both : dash ∷ dash ∷ second ≡ dash ∷ dash ∷ (b.between ++ exclamation_mark ∷ rest) = ap (λ z. dash ∷ z) (sym f) ∙ (sym e ∙ dashes line head rest b) in
    none rest (mark second b.between rest b.spaced (cc))

pub begins : (line first second rest : List ℕ) → drop (prefix_len separates line) line ≡ dash ∷ first → first ≡ dash ∷ second
    → drop (prefix_len is_space_or_tab second) second ≡ exclamation_mark ∷ rest → (head : List ℕ) × BeginsClaim line head rest
begins line first second rest e f g =
    let run = prefix_is_run separates line in
    let spaces = prefix_is_run is_space_or_tab second in
    let after : run.after ≡ dash ∷ dash ∷ second = sym (cut_drop line (prefix_len separates line) run.front run.after run.cut) ∙ (e ∙ ap (λ z. dash ∷ z) f) in
    let behind : spaces.after ≡ exclamation_mark ∷ rest = sym (cut_drop second (prefix_len is_space_or_tab second) spaces.front spaces.after spaces.cut) ∙ g in
    let inner : spaces.front ++ exclamation_mark ∷ rest ≡ second = ap (λ z. spaces.front ++ z) (sym behind) ∙ spaces.cut.whole in (
      (run.front ++ dash ∷ dash ∷ spaces.front) ++ exclamation_mark ∷ [],
      record {
        indent = run.front;
        between = spaces.front;
        blank = run.passes;
        spaced = spaces.passes;
        opening = refl;
        split = sym (shape run.front spaces.front rest ∙ (ap (λ z. run.front ++ dash ∷ dash ∷ z) inner ∙ (ap (λ z. run.front ++ z) (sym after) ∙ run.cut.whole)));
      },
    )

pub at_run : (p : ℕ → Bool) (text after : List ℕ) (n : ℕ) → n ≡ prefix_len p text → after ≡ drop n text → after ≡ drop (prefix_len p text) text
at_run p text after n e f = f ∙ ap (λ k. drop k text) e

pub marked : (r : Option (Bor (List ℕ))) (line first second text : List ℕ) → drop (prefix_len separates line) line ≡ dash ∷ first → first ≡ dash ∷ second → text ≡ drop (prefix_len is_space_or_tab second) second
    → MatchOption r ((more : List ℕ) → text ≢ exclamation_mark ∷ more) (λ more. text ≡ exclamation_mark ∷ more.now) → MatchOption r (IsNoClaim line) (λ rest. (head : List ℕ) × BeginsClaim line head rest.now)
marked None line first second text e f g h = no_mark line first second e f (λ more k. h more (g ∙ k))
marked (Some rest) line first second text e f g h = begins line first second rest.now e f (sym g ∙ h)

-- ---- what the line is then

pub line_written : (line rest : List ℕ) (says : Says) → (head : List ℕ) × BeginsClaim line head rest → IsBody rest (body.Says says) → IsWritten line says
line_written line rest says (head, b) (pieces, split, read, claim) = record { head = head; rest = rest; pieces = pieces; begins = b; split = split; read = read; claim = claim }

text_then-nil : (ps : List Piece) (after : List ℕ) → text_then ps after ≡ text_then ps [] ++ after
text_then-nil [] after = refl
text_then-nil (p ∷ ps) after = ap (λ z. piece_text p ++ z) (text_then-nil ps after) ∙ sym (append_assoc (piece_text p) (text_then ps []) after)

pub before_length : (line rest : List ℕ) (left : ℕ) (h : (head : List ℕ) × BeginsClaim line head rest) (w : IsBody rest (body.WrongBefore left)) → length (h.0 ++ text_then w.0 []) + left ≡ length line
before_length line rest left (head, b) (pieces, after, split, read, wrong, len) =
    let whole : line ≡ (head ++ text_then pieces []) ++ after = b.split ∙ (ap (λ z. head ++ z) (split ∙ text_then-nil pieces after) ∙ sym (append_assoc head (text_then pieces []) after)) in
    omega (arith, ap length whole, length-append (head ++ text_then pieces []) after, len)

pub line_wrong : (line rest : List ℕ) (left column : ℕ) (h : (head : List ℕ) × BeginsClaim line head rest) → IsBody rest (body.WrongBefore left) → column ≡ length line - left + 1 → IsWrongAt line column
line_wrong line rest left column h w e = record {
  head = h.0;
  rest = rest;
  pieces = w.0;
  after = w.1;
  begins = h.1;
  split = w.2;
  read = w.3;
  wrong = w.4;
  place = e ∙ (let all = before_length line rest left h w in omega (arith, all));
}
