-- A parser with a continuation is the parser, and then the continuation.
use Rattle.std.proofs.Common.{◌≡◌, Bool, true, false, List, [], ◌∷◌, refl, sym, ap, ◌∙◌, ◌⊎◌, inl, inr}
use Rattle.rules_tokens.specs.declared.token.Token.{Token}
use Rattle.rules_grammar.specs.GrammarForms.{Rule, give, one, seq, alt, go_on, many, ended, within}
use Rattle.rules_grammar.specs.GrammarParts.{TokenKind, kind_of}
use Rattle.hs_grammar.specs.Parser.{same_kind, firsts, begins, Out, Done, Stop, Parser, bind, done, choose, take_if, take, on_left, loop, another, item_step, Inner, read_then, read}

pub bind_done : {A : Type 0} (o : Out A) → bind o done ≡ o
bind_done (Done a r) = refl
bind_done (Stop y b) = refl

pub bind_bind : {A B C : Type 0} (o : Out A) (f : A → Parser B) (g : B → Parser C) → bind (bind o f) g ≡ bind o (λ a r. bind (f a r) g)
bind_bind (Done a r) f g = refl
bind_bind (Stop y b) f g = refl

pub bind_same : {A B : Type 0} (o : Out A) (f g : A → Parser B) → ((a : A) (r : List Token) → f a r ≡ g a r) → bind o f ≡ bind o g
bind_same (Done a r) f g h = h a r
bind_same (Stop y b) f g h = refl

take_if_bind : {A B : Type 0} (b : Bool) (t : Token) (f : Token → Parser A) (g : A → Parser B) (ts : List Token) → take_if b t (λ u us. bind (f u us) g) ts ≡ bind (take_if b t f ts) g
take_if_bind true t f g ts = refl
take_if_bind false t f g ts = refl

pub take_bind : {A B : Type 0} (k : TokenKind) (f : Token → Parser A) (g : A → Parser B) (ts : List Token) → take k (λ u us. bind (f u us) g) ts ≡ bind (take k f ts) g
take_bind k f g [] = refl
take_bind k f g (t ∷ ts) = take_if_bind (same_kind (kind_of t.tok) k) t f g ts

take_if_same : {A : Type 0} (b : Bool) (t : Token) (f g : Token → Parser A) → ((u : Token) (us : List Token) → f u us ≡ g u us) → (ts : List Token) → take_if b t f ts ≡ take_if b t g ts
take_if_same true t f g h ts = h t ts
take_if_same false t f g h ts = refl

pub take_same : {A : Type 0} (k : TokenKind) (f g : Token → Parser A) → ((t : Token) (us : List Token) → f t us ≡ g t us) → (ts : List Token) → take k f ts ≡ take k g ts
take_same k f g h [] = refl
take_same k f g h (t ∷ ts) = take_if_same (same_kind (kind_of t.tok) k) t f g h ts

choose_same : {A B : Type 0} (b : Bool) (p q : Parser B) (p' q' : Parser A) (g : A → Parser B) (ts : List Token) → p ts ≡ bind (p' ts) g → q ts ≡ bind (q' ts) g → choose b p q ts ≡ bind (choose b p' q' ts) g
choose_same true p q p' q' g ts h i = h
choose_same false p q p' q' g ts h i = i

pub split : {A R : Type 0} (inner : Inner) (r : Rule A) (κ : A → Parser R) (ts : List Token) → read_then inner r κ ts ≡ bind (read_then inner r done ts) κ
unfolding read_then
split inner (give x) κ ts = refl
split inner (one k f) κ ts = take_bind k (λ t. done (f t)) κ ts
split inner (seq {B = B} {C = C} f p q) κ ts =
    split inner p (λ b. read_then inner q (λ c. κ (f b c))) ts
    ∙ bind_same (read_then inner p done ts) (λ b. read_then inner q (λ c. κ (f b c))) (λ b r. bind (read_then inner q (λ c. done (f b c)) r) κ)
    (λ b r. split inner q (λ c. κ (f b c)) r ∙ (sym (bind_bind (read_then inner q done r) (λ c. done (f b c)) κ) ∙ ap (λ o. bind o κ) (sym (split inner q (λ c. done (f b c)) r))))
    ∙ sym (bind_bind (read_then inner p done ts) (λ b. read_then inner q (λ c. done (f b c))) κ)
    ∙ ap (λ o. bind o κ) (sym (split inner p (λ b. read_then inner q (λ c. done (f b c))) ts))
split inner (alt p q) κ ts =
    choose_same (begins (firsts p) ts) (read_then inner p κ) (read_then inner q κ) (read_then inner p done) (read_then inner q done) κ ts (split inner p κ ts) (split inner q κ ts)
split inner (go_on {B = B} {C = C} f p q) κ ts =
    split inner p (on_left (λ b. read_then inner q (λ c. κ (f b c))) κ) ts
    ∙ bind_same (read_then inner p done ts) (on_left (λ b. read_then inner q (λ c. κ (f b c))) κ) (λ x r. bind (on_left (λ b. read_then inner q (λ c. done (f b c))) done x r) κ)
    (elim [ inl b ↦ (λ r. split inner q (λ c. κ (f b c)) r ∙ (sym (bind_bind (read_then inner q done r) (λ c. done (f b c)) κ) ∙ ap (λ o. bind o κ) (sym (split inner q (λ c. done (f b c)) r)))) | inr a ↦ (λ r. refl) ])
    ∙ sym (bind_bind (read_then inner p done ts) (on_left (λ b. read_then inner q (λ c. done (f b c))) done) κ)
    ∙ ap (λ o. bind o κ) (sym (split inner p (on_left (λ b. read_then inner q (λ c. done (f b c))) done) ts))
split inner (many f p) κ ts = sym (bind_bind (loop (another (firsts p) (read_then inner p done)) ts) (λ x. done (f x.0)) κ)
split inner (ended f g sep close p) κ ts = sym (bind_bind (loop (item_step g sep close (read_then inner p done)) ts) (λ x. done (f x.0 x.1)) κ)
split inner (within {B = B} g k part) κ ts =
    take_same k (λ t us. bind (inner B part t us) (λ b. κ (g t.pos b))) (λ t us. bind (bind (inner B part t us) (λ b. done (g t.pos b))) κ) (λ t us. sym (bind_bind (inner B part t us) (λ b. done (g t.pos b)) κ)) ts
    ∙ take_bind k (λ t us. bind (inner B part t us) (λ b. done (g t.pos b))) κ ts

-- ---- the parser of each rule by those of its parts
pub read_seq : {A B C : Type 0} (inner : Inner) (f : B → C → A) (p : Rule B) (q : Rule C) (ts : List Token) → read inner (seq f p q) ts ≡ bind (read inner p ts) (λ b r. bind (read inner q r) (λ c. done (f b c)))
unfolding read_then
read_seq inner f p q ts =
    split inner p (λ b. read_then inner q (λ c. done (f b c))) ts
    ∙ bind_same (read inner p ts) (λ b. read_then inner q (λ c. done (f b c))) (λ b r. bind (read inner q r) (λ c. done (f b c))) (λ b r. split inner q (λ c. done (f b c)) r)

pub read_go_on : {A B C : Type 0} (inner : Inner) (f : B → C → A) (p : Rule (B ⊎ A)) (q : Rule C) (ts : List Token) → read inner (go_on f p q) ts ≡ bind (read inner p ts) (on_left (λ b r. bind (read inner q r) (λ c. done (f b c))) done)
unfolding read_then
read_go_on inner f p q ts =
    split inner p (on_left (λ b. read_then inner q (λ c. done (f b c))) done) ts
    ∙ bind_same (read inner p ts) (on_left (λ b. read_then inner q (λ c. done (f b c))) done) (on_left (λ b r. bind (read inner q r) (λ c. done (f b c))) done)
    (elim [ inl b ↦ (λ r. split inner q (λ c. done (f b c)) r) | inr a ↦ (λ r. refl) ])
