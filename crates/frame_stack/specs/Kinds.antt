-- How many values a primitive takes, and of which kind each is (own).
use Rattle.std.specs.Prelude.{◌≡◌, Bool, true, false, cond, List, [], ◌∷◌}
use Rattle.rules_expansion.specs.declared.primitive.Primitive.{Primitive}
use Rattle.rules_expansion.specs.declared.primitive.Primitive.TheVariants.{PutStr, PutStrLn, HPutStrLn, NewMVar, TakeMVar, PutMVar, ReadMVar, TryTakeMVar, TryPutMVar, ThreadDelay, ThrowTo, Release}
use Rattle.rules_meaning.specs.Values.{V, Int, Text, Cell, Thread, Exception, Inst}

pub data Kind : Type 0 where
  anything : Kind
  a_text : Kind
  a_number : Kind
  a_cell : Kind
  a_thread : Kind
  an_exception : Kind
  an_instance : Kind

-- a primitive that isn't named here takes no value
abbrev pub kinds_of : Primitive → List Kind
kinds_of PutStr = a_text ∷ []
kinds_of PutStrLn = a_text ∷ []
kinds_of HPutStrLn = a_text ∷ []
kinds_of NewMVar = anything ∷ []
kinds_of TakeMVar = a_cell ∷ []
kinds_of PutMVar = a_cell ∷ anything ∷ []
kinds_of ReadMVar = a_cell ∷ []
kinds_of TryTakeMVar = a_cell ∷ []
kinds_of TryPutMVar = a_cell ∷ anything ∷ []
kinds_of ThreadDelay = a_number ∷ []
kinds_of ThrowTo = a_thread ∷ an_exception ∷ []
kinds_of Release = an_instance ∷ []
kinds_of _ = []

abbrev pub is_of : Kind → V → Bool
is_of anything v = true
is_of a_text (Text t) = true
is_of a_number (Int n) = true
is_of a_cell (Cell m) = true
is_of a_thread (Thread t) = true
is_of an_exception (Exception e) = true
is_of an_instance (Inst i) = true
is_of _ _ = false

-- values are as many as these kinds, and each is of its own
abbrev pub are_of : List Kind → List V → Bool
are_of [] [] = true
are_of [] (v ∷ vs) = false
are_of (k ∷ ks) [] = false
are_of (k ∷ ks) (v ∷ vs) = cond (is_of k v) (are_of ks vs) false

-- these values aren't what a primitive takes
abbrev pub AreOthers : Primitive → List V → Type 0
AreOthers q vs = are_of (kinds_of q) vs ≡ false
