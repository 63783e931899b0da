-- What follows can be taken apart from what a rule spells, and parts may spell more.
use Rattle.std.proofs.Common.{ℕ, List, [], ◌∷◌, ◌++◌, Option, Some, None, ap, ◌⊎◌, inl, inr}
use Rattle.rules_grammar.specs.GrammarForms.{Rule, give, one, seq, alt, go_on, many, ended, within, Item, Spelling, Empty, Single, Made, Then, Either, Each, OnLeft, Passed, Last, Spelled}
use Rattle.rules_grammar.specs.GrammarParts.{TokenKind, OpenerPart}

-- ---- something may follow
abbrev pub Appends : {A : Type 0} → Spelling A → Type 0
Appends {A} S = (a : A) (w k z : List Item) → S a w k → S a (w ++ z) (k ++ z)

pub appends_empty : {A : Type 0} (x : A) → Appends (Empty x)
appends_empty x a w k z h = (h.0, ap (λ v. v ++ z) h.1)

pub appends_single : (o : Option ℕ) (l : TokenKind) → Appends (Single o l)
appends_single o l t w k z h = (h.0, ap (λ v. v ++ z) h.1)

pub appends_made : {A B : Type 0} (f : B → A) (S : Spelling B) → Appends S → Appends (Made f S)
appends_made f S s a w k z h = (h.0, h.1, s h.0 w k z h.2)

pub appends_then : {A B : Type 0} (S : Spelling B) (T : B → Spelling A) → Appends S → ((b : B) → Appends (T b)) → Appends (Then S T)
appends_then S T s t a w k z h = (h.0, h.1 ++ z, s h.0 w h.1 z h.2, t h.0 a h.1 k z h.3)

pub appends_either : {A : Type 0} (S T : Spelling A) → Appends S → Appends T → Appends (Either S T)
appends_either S T s t a w k z (inl h) = inl (s a w k z h)
appends_either S T s t a w k z (inr h) = inr (t a w k z h)

pub appends_each : {A : Type 0} (S : Spelling A) → Appends S → Appends (Each S)
appends_each S s [] w k z h = ap (λ v. v ++ z) h
appends_each S s (b ∷ bs) w k z h = (h.0 ++ z, s b w h.0 z h.1, appends_each S s bs h.0 k z h.2)

pub appends_on_left : {A B : Type 0} (T : B → Spelling A) → ((b : B) → Appends (T b)) → (x : B ⊎ A) → Appends (OnLeft T x)
appends_on_left T t (inl b) = t b
appends_on_left T t (inr a) = appends_empty a

pub appends_passed : {B C : Type 0} (f : C → B) (sep : TokenKind) (S : Spelling (B ⊎ C)) → Appends S → Appends (Passed f sep S)
appends_passed f sep S s =
    appends_then (Either (λ b. S (inl b)) (Made f (λ c. S (inr c)))) (λ b. Then (Single None sep) (λ t. Empty b))
    (appends_either (λ b. S (inl b)) (Made f (λ c. S (inr c))) (λ b. s (inl b)) (appends_made f (λ c. S (inr c)) (λ c. s (inr c))))
    (λ b. appends_then (Single None sep) (λ t. Empty b) (appends_single None sep) (λ t. appends_empty b))

pub appends_last : {B C : Type 0} (sep close : TokenKind) (S : Spelling (B ⊎ C)) → Appends S → Appends (Last sep close S)
appends_last sep close S s =
    appends_then (λ c. S (inr c)) (λ c. Either (Then (Single None close) (λ t. Empty c)) (Then (Single None sep) (λ t. Then (Single None close) (λ u. Empty c))))
    (λ c. s (inr c))
    (λ c. appends_either (Then (Single None close) (λ t. Empty c)) (Then (Single None sep) (λ t. Then (Single None close) (λ u. Empty c)))
    (appends_then (Single None close) (λ t. Empty c) (appends_single None close) (λ t. appends_empty c))
    (appends_then (Single None sep) (λ t. Then (Single None close) (λ u. Empty c)) (appends_single None sep)
    (λ t. appends_then (Single None close) (λ u. Empty c) (appends_single None close) (λ u. appends_empty c))))

abbrev pub Parts : Type 1
Parts = (B : Type 0) → OpenerPart B → Spelling B

abbrev pub PartsAppend : Parts → Type 1
PartsAppend X = (B : Type 0) (part : OpenerPart B) → Appends (X B part)

pub appends : {A : Type 0} (X : Parts) → PartsAppend X → (j : ℕ) (r : Rule A) → Appends (Spelled X j r)
appends X x j (give a) = appends_empty a
appends X x j (one k f) = appends_made f (Single None k) (appends_single None k)
appends X x j (seq f p q) =
    appends_then (Spelled X j p) (λ b. Made (f b) (Spelled X j q)) (appends X x j p) (λ b. appends_made (f b) (Spelled X j q) (appends X x j q))
appends X x j (alt p q) = appends_either (Spelled X j p) (Spelled X j q) (appends X x j p) (appends X x j q)
appends X x j (go_on f p q) =
    appends_then (Spelled X j p) (OnLeft (λ b. Made (f b) (Spelled X j q))) (appends X x j p)
    (appends_on_left (λ b. Made (f b) (Spelled X j q)) (λ b. appends_made (f b) (Spelled X j q) (appends X x j q)))
appends X x j (many f p) = appends_made f (Each (Spelled X j p)) (appends_each (Spelled X j p) (appends X x j p))
appends X x j (ended f g sep close p) =
    appends_then (Each (Passed g sep (Spelled X j p))) (λ bs. Made (f bs) (Last sep close (Spelled X j p)))
    (appends_each (Passed g sep (Spelled X j p)) (appends_passed g sep (Spelled X j p) (appends X x j p)))
    (λ bs. appends_made (f bs) (Last sep close (Spelled X j p)) (appends_last sep close (Spelled X j p) (appends X x j p)))
appends X x j (within {B = B} g k part) =
    appends_then (Single (Some j) k) (λ t. Made (g t.pos) (X B part)) (appends_single (Some j) k) (λ t. appends_made (g t.pos) (X B part) (x B part))

-- ---- what spells more
abbrev pub Sub : {A : Type 0} → Spelling A → Spelling A → Type 0
Sub {A} S T = (a : A) (w k : List Item) → S a w k → T a w k

sub_made : {A B : Type 0} (f : B → A) (S T : Spelling B) → Sub S T → Sub (Made f S) (Made f T)
sub_made f S T s a w k h = (h.0, h.1, s h.0 w k h.2)

sub_then : {A B : Type 0} (S S' : Spelling B) (T T' : B → Spelling A) → Sub S S' → ((b : B) → Sub (T b) (T' b)) → Sub (Then S T) (Then S' T')
sub_then S S' T T' s t a w k h = (h.0, h.1, s h.0 w h.1 h.2, t h.0 a h.1 k h.3)

sub_either : {A : Type 0} (S S' T T' : Spelling A) → Sub S S' → Sub T T' → Sub (Either S T) (Either S' T')
sub_either S S' T T' s t a w k (inl h) = inl (s a w k h)
sub_either S S' T T' s t a w k (inr h) = inr (t a w k h)

pub sub_each : {A : Type 0} (S T : Spelling A) → Sub S T → Sub (Each S) (Each T)
sub_each S T s [] w k h = h
sub_each S T s (b ∷ bs) w k h = (h.0, s b w h.0 h.1, sub_each S T s bs h.0 k h.2)

sub_on_left : {A B : Type 0} (T T' : B → Spelling A) → ((b : B) → Sub (T b) (T' b)) → (x : B ⊎ A) → Sub (OnLeft T x) (OnLeft T' x)
sub_on_left T T' t (inl b) = t b
sub_on_left T T' t (inr a) = λ y w k h. h

pub sub_passed : {B C : Type 0} (f : C → B) (sep : TokenKind) (S T : Spelling (B ⊎ C)) → Sub S T → Sub (Passed f sep S) (Passed f sep T)
sub_passed f sep S T s b w k h =
    (h.0, h.1, sub_either (λ b. S (inl b)) (λ b. T (inl b)) (Made f (λ c. S (inr c))) (Made f (λ c. T (inr c))) (λ b. s (inl b)) (sub_made f (λ c. S (inr c)) (λ c. T (inr c)) (λ c. s (inr c))) h.0 w h.1 h.2, h.3)

pub sub_last : {B C : Type 0} (sep close : TokenKind) (S T : Spelling (B ⊎ C)) → Sub S T
    → Sub (Last sep close S) (Last sep close T)
sub_last sep close S T s c w k h = (h.0, h.1, s (inr h.0) w h.1 h.2, h.3)

abbrev pub PartsSub : Parts → Parts → Type 1
PartsSub X Y = (B : Type 0) (part : OpenerPart B) → Sub (X B part) (Y B part)

pub subs : {A : Type 0} (X Y : Parts) → PartsSub X Y → (j : ℕ) (r : Rule A) → Sub (Spelled X j r) (Spelled Y j r)
subs X Y x j (give a) = λ y w k h. h
subs X Y x j (one l f) = λ y w k h. h
subs X Y x j (seq f p q) =
    sub_then (Spelled X j p) (Spelled Y j p) (λ b. Made (f b) (Spelled X j q)) (λ b. Made (f b) (Spelled Y j q)) (subs X Y x j p) (λ b. sub_made (f b) (Spelled X j q) (Spelled Y j q) (subs X Y x j q))
subs X Y x j (alt p q) = sub_either (Spelled X j p) (Spelled Y j p) (Spelled X j q) (Spelled Y j q) (subs X Y x j p) (subs X Y x j q)
subs X Y x j (go_on f p q) =
    sub_then (Spelled X j p) (Spelled Y j p) (OnLeft (λ b. Made (f b) (Spelled X j q))) (OnLeft (λ b. Made (f b) (Spelled Y j q))) (subs X Y x j p)
    (sub_on_left (λ b. Made (f b) (Spelled X j q)) (λ b. Made (f b) (Spelled Y j q)) (λ b. sub_made (f b) (Spelled X j q) (Spelled Y j q) (subs X Y x j q)))
subs X Y x j (many f p) = sub_made f (Each (Spelled X j p)) (Each (Spelled Y j p)) (sub_each (Spelled X j p) (Spelled Y j p) (subs X Y x j p))
subs X Y x j (ended f g sep close p) =
    sub_then (Each (Passed g sep (Spelled X j p))) (Each (Passed g sep (Spelled Y j p))) (λ bs. Made (f bs) (Last sep close (Spelled X j p))) (λ bs. Made (f bs) (Last sep close (Spelled Y j p)))
    (sub_each (Passed g sep (Spelled X j p)) (Passed g sep (Spelled Y j p)) (sub_passed g sep (Spelled X j p) (Spelled Y j p) (subs X Y x j p)))
    (λ bs. sub_made (f bs) (Last sep close (Spelled X j p)) (Last sep close (Spelled Y j p)) (sub_last sep close (Spelled X j p) (Spelled Y j p) (subs X Y x j p)))
subs X Y x j (within {B = B} g l part) =
    sub_then (Single (Some j) l) (Single (Some j) l) (λ t. Made (g t.pos) (X B part)) (λ t. Made (g t.pos) (Y B part)) (λ t w k h. h) (λ t. sub_made (g t.pos) (X B part) (Y B part) (x B part))
