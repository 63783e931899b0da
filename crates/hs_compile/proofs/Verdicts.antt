-- An input is one accepted script at most, or refused.
use Rattle.std.proofs.Common.{◌≡◌, ◌≤◌, ◌<◌, ◌++◌, ℕ, List, length, true, false, refl, sym, ap, subst, ◌∙◌, arith}
use Rattle.hs_base.specs.declared.tree.script.Script.{Script}
use Rattle.rules_grammar.specs.Grammar.{Spells, SpellsWithin}
use Rattle.rules_tokens.specs.declared.token.Token.{Token}
use Rattle.rules_tokens.specs.declared.token.Tokens.{Tokens}
use Rattle.rules_tokens.specs.Tokens.{BadChar, BigNumber, Faulty, HasTokens, Lexed, LexesTo, NotUtf8, OpenText, Outcome}
use Rattle.rules_typing.specs.TypingScripts as typing
use Rattle.hs_grammar.proofs.Main.{one_script}
use Rattle.hs_lex.proofs.Outcomes.{outcome_same, lexed_same}
use Rattle.hs_lex.specs.declared.fault.LexFault.{LexFault}
use Rattle.hs_lex.specs.declared.fault.LexFault.TheVariants as lex
use Rattle.hs_parse.specs.declared.fault.ParseFault.{ParseFault}
use Rattle.hs_parse.specs.declared.fault.ParseFault.TheVariants as parse
use Rattle.hs_types.specs.Faults as types
use Rattle.typing_parts.specs.declared.fault.TypeFault.{TypeFault}
use Rattle.typing_parts.specs.declared.fault.TypeFault.TheVariants as fault
use Rattle.hs_compile.specs.declared.refusal.Refusal.{Refusal}
use Rattle.hs_compile.specs.declared.refusal.Refusal.TheVariants.{TooLong, Lex, Parse, Types}
use Rattle.hs_compile.specs.Verdicts.{depth_limit, IsAccepted, IsFirstFault, IsMisspelled, IsParseFault, IsRefused, IsSpelled}

-- ---- one list of tokens

no_fault : (bytes : List ℕ) (ts : Tokens) (f : LexFault) → HasTokens bytes ts → IsFirstFault f bytes → ⊥
no_fault bytes ts (lex.NotUtf8 at) h k = let e = outcome_same bytes (Lexed ts) (NotUtf8 at) h k in cc e
no_fault bytes ts (lex.BadChar at) h k = let e = outcome_same bytes (Lexed ts) (Faulty BadChar at) h k in cc e
no_fault bytes ts (lex.OpenText at) h k = let e = outcome_same bytes (Lexed ts) (Faulty OpenText at) h k in cc e
no_fault bytes ts (lex.BigNumber at) h k = let e = outcome_same bytes (Lexed ts) (Faulty BigNumber at) h k in cc e
no_fault bytes ts lex.NoMemory h k = k

-- ---- one script

spelled_same : (bytes : List ℕ) (s t : Script) → IsSpelled bytes s → IsSpelled bytes t → s ≡ t
spelled_same bytes s t h k =
    let e = lexed_same bytes k.1 h.1 k.2 h.2 in
    one_script s t h.1.list (depth_limit, h.3) (depth_limit, subst (λ (z : Tokens). SpellsWithin depth_limit t z.list) e k.3)

no_parse_fault : (s : Script) (ts : Tokens) (f : ParseFault) → SpellsWithin depth_limit s ts.list → IsParseFault f ts → ⊥
no_parse_fault s ts (parse.Unexpected at) h k =
    let (read, left, whole, unexpected, place) = k in
    unexpected.1 s (depth_limit, subst (SpellsWithin depth_limit s) (sym whole) h)
no_parse_fault s ts (parse.Deep at) h k = let (read, t, left, whole, deep, none, place) = k in none s h
no_parse_fault s ts parse.NoMemory h k = k

not_misspelled : (bytes : List ℕ) (s : Script) (f : ParseFault) → IsSpelled bytes s → IsMisspelled f bytes → ⊥
not_misspelled bytes s f h k =
    let e = lexed_same bytes h.1 k.0 h.2 k.1 in
    no_parse_fault s k.0 f (subst (λ (z : Tokens). SpellsWithin depth_limit s z.list) e h.3) k.2

not_mistyped : (s : Script) (f : TypeFault) → typing.Accepted s → types.Refused f s → (f ≡ fault.NoMemory → ⊥) → ⊥
not_mistyped s (fault.Twice p) h k other = h.0 _ k.0
not_mistyped s (fault.Unknown p) h k other = h.0 _ k.0
not_mistyped s (fault.Kind p) h k other = h.0 _ k.0
not_mistyped s (fault.Forward p) h k other = h.0 _ k.0
not_mistyped s (fault.Arity p m n) h k other = h.0 _ k.0
not_mistyped s (fault.Mismatch p m u) h k other = h.0 _ k.0
not_mistyped s (fault.Scope p) h k other = h.0 _ k.0
not_mistyped s (fault.Wide p) h k other = h.0 _ k.0
not_mistyped s (fault.Large p) h k other = h.0 _ k.0
not_mistyped s fault.NoMain h k other = let e : true ≡ false = sym h.1 ∙ k.1 in cc e
not_mistyped s fault.NoMemory h k other = other refl

-- ---- one verdict

pub same_script : (bytes : List ℕ) (s t : Script) → IsAccepted bytes s → IsAccepted bytes t → s ≡ t
same_script bytes s t h k = spelled_same bytes s t h.0 k.0

pub not_both : (bytes : List ℕ) (s : Script) (r : Refusal) → IsAccepted bytes s → IsRefused r bytes → ⊥
not_both bytes s TooLong h k = let few = h.0.0 in omega (arith, few, k)
not_both bytes s (Lex f) h k = no_fault bytes h.0.1 f h.0.2 k.1
not_both bytes s (Parse f) h k = not_misspelled bytes s f h.0 k.1
not_both bytes s (Types f) h k =
    let e = sym (spelled_same bytes s k.0 h.0 k.1) in
    not_mistyped s f h.1 (subst (types.Refused f) e k.2) k.3
