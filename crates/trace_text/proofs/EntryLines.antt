-- Lines at the begin of some bytes.
use Rattle.std.proofs.Common.{◌≡◌, ℕ, ◌<◌, ◌^◌, List, ◌∷◌, ◌++◌, refl, sym, ap, ◌∙◌, arith, append_assoc}
use Rattle.hs_rules.specs.declared.entry.Entry.{Entry}
use Rattle.hs_rules.specs.declared.entry.Entry.TheVariants.{Local, Op, Receive, Wake, Finish, Tick, Stranded}
use Rattle.trace_text.specs.spelling.Traces.{Fits, line_of}
use Rattle.trace_text.specs.Fields.{EndsNumber, EndsNumbers, ReadsNumber, ReadsNumbers, number_then, numbers_then, letter_of}
use Rattle.trace_text.proofs.Numbers.{one_number, wider}

-- a line is its letter, its numbers and a line feed
pub line_parts : (e : Entry) (rest : List ℕ) → line_of e ++ rest ≡ letter_of e ∷ numbers_then e (10 ∷ rest)
line_parts (Local t k) rest = simp append_assoc
line_parts (Op t) rest = simp append_assoc
line_parts (Receive t) rest = simp append_assoc
line_parts (Wake t) rest = simp append_assoc
line_parts (Finish t) rest = simp append_assoc
line_parts (Tick at) rest = simp append_assoc
line_parts Stranded rest = refl

-- ---- numbers, one after the other

one_then : (m n : ℕ) (x y : List ℕ) → m < 2 ^ 64 → n < 2 ^ 64 → EndsNumber x → EndsNumber y → number_then m x ≡ number_then n y → (m ≡ n) × (x ≡ y)
one_then m n x y p q ex ey h = one_number (number_then m x) m n x y (record { fits = p; spelled = refl; ends = ex }) (record { fits = q; spelled = h; ends = ey })

numbers_apart : (e f : Entry) (x y : List ℕ) → Fits e → Fits f → EndsNumbers e x → EndsNumbers f y → letter_of e ≡ letter_of f → numbers_then e x ≡ numbers_then f y → (e ≡ f) × (x ≡ y)
numbers_apart (Local t k) (Local u m) x y p q ex ey l h =
    let a = one_then t u (number_then k x) (number_then m y) (omega (arith, p.0)) (omega (arith, q.0)) (omega arith) (omega arith) h in
    let b = one_then k m x y (omega (arith, p.1)) (omega (arith, q.1)) ex ey a.1 in
    let first : t ≡ u = a.0 in
    let second : k ≡ m = b.0 in
    (cc, b.1)
numbers_apart (Op t) (Op u) x y p q ex ey l h = let a = one_then t u x y (omega arith) (omega arith) ex ey h in (ap Op a.0, a.1)
numbers_apart (Receive t) (Receive u) x y p q ex ey l h = let a = one_then t u x y (omega arith) (omega arith) ex ey h in (ap Receive a.0, a.1)
numbers_apart (Wake t) (Wake u) x y p q ex ey l h = let a = one_then t u x y (omega arith) (omega arith) ex ey h in (ap Wake a.0, a.1)
numbers_apart (Finish t) (Finish u) x y p q ex ey l h = let a = one_then t u x y (omega arith) (omega arith) ex ey h in (ap Finish a.0, a.1)
numbers_apart (Tick t) (Tick u) x y p q ex ey l h = let a = one_then t u x y p q ex ey h in (ap Tick a.0, a.1)
numbers_apart Stranded Stranded x y p q ex ey l h = (refl, h)
numbers_apart e f x y p q ex ey l h = absurd (omega (arith, l))

line_ends : (e : Entry) (rest : List ℕ) → EndsNumbers e (10 ∷ rest)
line_ends (Local t k) rest = omega arith
line_ends (Op t) rest = omega arith
line_ends (Receive t) rest = omega arith
line_ends (Wake t) rest = omega arith
line_ends (Finish t) rest = omega arith
line_ends (Tick at) rest = omega arith
line_ends Stranded rest = tt

-- behind a letter the bytes begin with the numbers of one entry
pub one_entry : (letter : ℕ) (bytes : List ℕ) (e f : Entry) (x y : List ℕ) → ReadsNumbers letter bytes e x → ReadsNumbers letter bytes f y → (e ≡ f) × (x ≡ y)
one_entry letter bytes e f x y r s = numbers_apart e f x y r.fits s.fits r.ends s.ends (r.named ∙ sym s.named) (sym r.spelled ∙ s.spelled)

-- bytes begin with the line of one entry
pub one_line : (e f : Entry) (x y : List ℕ) → Fits e → Fits f → line_of e ++ x ≡ line_of f ++ y → (e ≡ f) × (x ≡ y)
one_line e f x y p q h =
    let same : letter_of e ∷ numbers_then e (10 ∷ x) ≡ letter_of f ∷ numbers_then f (10 ∷ y) = sym (line_parts e x) ∙ (h ∙ line_parts f y) in
    let letters : letter_of e ≡ letter_of f = cc in
    let numbers : numbers_then e (10 ∷ x) ≡ numbers_then f (10 ∷ y) = cc in
    let both = numbers_apart e f (10 ∷ x) (10 ∷ y) p q (line_ends e x) (line_ends f y) letters numbers in
    let rests : 10 ∷ x ≡ 10 ∷ y = both.1 in
    (both.0, cc)

-- ---- the entry of each letter

-- an entry that begins with this line is read behind its letter
pub read_behind : (bytes : List ℕ) (letter : ℕ) (fields : List ℕ) (e : Entry) (rest : List ℕ) → Fits e → bytes ≡ letter ∷ fields → bytes ≡ line_of e ++ rest → ReadsNumbers letter fields e (10 ∷ rest)
read_behind bytes letter fields e rest fits is h =
    let same : letter ∷ fields ≡ letter_of e ∷ numbers_then e (10 ∷ rest) = sym is ∙ (h ∙ line_parts e rest) in
    record { fits = fits; named = (let a : letter_of e ≡ letter = cc in a); spelled = (let a : fields ≡ numbers_then e (10 ∷ rest) = cc in a); ends = line_ends e rest }

-- what was read is the line of the entry
pub line_read : (bytes : List ℕ) (letter : ℕ) (fields : List ℕ) (e : Entry) (rest : List ℕ) → bytes ≡ letter ∷ fields → ReadsNumbers letter fields e (10 ∷ rest) → bytes ≡ line_of e ++ rest
line_read bytes letter fields e rest is r = is ∙ (ap (λ z. letter ∷ z) r.spelled ∙ (ap (λ l. l ∷ numbers_then e (10 ∷ rest)) (sym r.named) ∙ sym (line_parts e rest)))

pub no_steps : (letter : ℕ) (bytes : List ℕ) (t : ℕ) (behind : List ℕ) → letter ≡ 76 → ReadsNumber 32 bytes t behind → ((n : ℕ) (rest : List ℕ) → ¬ ReadsNumber 32 behind n rest) → (e : Entry) (rest : List ℕ) → ¬ ReadsNumbers letter bytes e rest
no_steps letter bytes t behind l read none (Local u k) rest r =
    let first : ReadsNumber 32 bytes u (number_then k rest) = record { fits = r.fits.0; spelled = r.spelled; ends = omega arith } in
    let same = one_number bytes t u behind (number_then k rest) (wider bytes t behind read) (wider bytes u (number_then k rest) first) in
    none k rest (record { fits = r.fits.1; spelled = same.1; ends = r.ends })
no_steps letter bytes t behind l read none e rest r = omega (arith, r.named, l)
