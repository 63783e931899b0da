-- A claim of which some words are read (own), and which words it goes on with.
use Rattle.std.specs.Prelude.{◌≡◌, ◌≢◌, List, [], ◌∷◌, ◌++◌, ◌||◌, Option, Some, None, codes, if◌then◌else◌, bytes_eq}
use Rattle.claim_lines.specs.declared.claim.Part.{Part}
use Rattle.claim_lines.specs.declared.words.Word.{Word}
use Rattle.claim_lines.specs.declared.words.Word.TheVariants.{Letters, Text}
use Rattle.claim_lines.specs.declared.draft.Verb.{Verb}
use Rattle.claim_lines.specs.declared.draft.Verb.TheVariants.{Always, Never, Sometimes}
use Rattle.claim_lines.specs.declared.draft.Stream.{Stream}
use Rattle.claim_lines.specs.declared.draft.Stream.TheVariants.{Output, Errors}
use Rattle.claim_lines.specs.declared.draft.Next.{Next}
use Rattle.claim_lines.specs.declared.draft.Next.TheVariants as next
use Rattle.claim_lines.specs.declared.draft.Step.{Step}
use Rattle.claim_lines.specs.declared.draft.Step.TheVariants.{Await, Add}
use Rattle.claim_lines.specs.declared.draft.Draft.{Draft}
use Rattle.claim_lines.specs.declared.draft.Draft.TheVariants.{Begin, Condition, Terminates}
use Rattle.claim_lines.specs.Grammar.{part_words, condition_words}

abbrev pub verb_word : Verb → Word
verb_word Always = Letters (codes "always")
verb_word Never = Letters (codes "never")
verb_word Sometimes = Letters (codes "sometimes")

abbrev pub stream_word : Stream → Word
stream_word Output = Letters (codes "output")
stream_word Errors = Letters (codes "errors")

abbrev pub and_word : Word
and_word = Letters (codes "and")

abbrev pub has_word : Word
has_word = Letters (codes "has")

-- the words of the parts, with `and` behind each
abbrev pub parts_and : List Part → List Word
parts_and [] = []
parts_and (p ∷ ps) = part_words p ++ and_word ∷ parts_and ps

-- the words of the part that has begun
abbrev pub begun_words : Next → List Word
begun_words next.Part = []
begun_words (next.TextOrHas s) = stream_word s ∷ []
begun_words (next.Text s) = stream_word s ∷ has_word ∷ []
begun_words next.And = []

-- the words behind the first one
abbrev pub AreRead : List Word → List Part → Next → Type 0
AreRead words parts next.And = (parts ≢ []) × (words ≡ condition_words parts)
AreRead words parts next.Part = words ≡ parts_and parts
AreRead words parts (next.TextOrHas s) = words ≡ parts_and parts ++ stream_word s ∷ []
AreRead words parts (next.Text s) = words ≡ parts_and parts ++ stream_word s ∷ has_word ∷ []

-- these words are read
abbrev pub HasRead : List Word → Draft → Type 0
HasRead words Begin = words ≡ []
HasRead words (Condition verb parts awaited) = (more : List Word) × (words ≡ verb_word verb ∷ more) × AreRead more parts awaited
HasRead words Terminates = words ≡ Letters (codes "terminates") ∷ []

-- ---- Steps

-- how far a claim has come
pub data State : Type 0 where
  First : State
  At : Next → State
  End : State

abbrev pub state_of : Draft → State
state_of Begin = First
state_of (Condition verb parts awaited) = At awaited
state_of Terminates = End

-- with this word it comes so far, or it goes on with no such word
abbrev pub goes : State → Word → Option State
goes First (Letters cs) = if bytes_eq cs (codes "always") || bytes_eq cs (codes "never") || bytes_eq cs (codes "sometimes") then Some (At next.Part)
    else (if bytes_eq cs (codes "terminates") then Some End else None)
goes (At next.Part) (Letters cs) = if bytes_eq cs (codes "done") || bytes_eq cs (codes "uncaught") || bytes_eq cs (codes "deadlock") || bytes_eq cs (codes "stuck") then Some (At next.And)
    else (if bytes_eq cs (codes "output") then Some (At (next.TextOrHas Output))
    else (if bytes_eq cs (codes "errors") then Some (At (next.TextOrHas Errors)) else None))
goes (At (next.TextOrHas s)) (Letters cs) = if bytes_eq cs (codes "has") then Some (At (next.Text s)) else None
goes (At (next.TextOrHas s)) (Text bytes) = Some (At next.And)
goes (At (next.Text s)) (Text bytes) = Some (At next.And)
goes (At next.And) (Letters cs) = if bytes_eq cs (codes "and") then Some (At next.Part) else None
goes state word = None

-- with this word so much comes to what is read
abbrev pub StepsTo : Next → Word → Step → Type 0
StepsTo awaited word (Add part) = (awaited ≢ next.And) × (part_words part ≡ begun_words awaited ++ word ∷ [])
StepsTo awaited word (Await next.Part) = (awaited ≡ next.And) × (word ≡ and_word)
StepsTo awaited word (Await (next.TextOrHas s)) = (awaited ≡ next.Part) × (word ≡ stream_word s)
StepsTo awaited word (Await (next.Text s)) = (awaited ≡ next.TextOrHas s) × (word ≡ has_word)
StepsTo awaited word (Await next.And) = ⊥
