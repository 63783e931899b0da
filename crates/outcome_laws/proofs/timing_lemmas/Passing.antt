-- What an entry that leads on has passed: the tests, and the thread that it is of.
use Rattle.std.proofs.Common.{◌≡◌, Bool, true, false, cond, Option, Some, None, refl}
use Rattle.hs_rules.specs.State.{Thread, State}
use Rattle.hs_rules.specs.Entries.{on_thread}
pub use Rattle.hs_laws.proofs.cases_lemmas.Options.{on_running}

pub same_item : {A : Type 0} {a b : A} → Some a ≡ Some b → a ≡ b
same_item h = cc h

pub passed_not : (b : Bool) (x : Option State) (u : State) → cond b None x ≡ Some u → (b ≡ false) × (x ≡ Some u)
passed_not true x u e = absurd (cc e)
passed_not false x u e = (refl, e)

pub passed : (b : Bool) (x : Option State) (u : State) → cond b x None ≡ Some u → (b ≡ true) × (x ≡ Some u)
passed true x u e = (refl, e)
passed false x u e = absurd (cc e)

-- the thread, which is there and hasn't finished
pub thread_there : (o : Option Thread) (k : Thread → Option State) (u : State) → on_thread o k ≡ Some u → (th : Thread) × (o ≡ Some th) × (th.finished ≡ false) × (k th ≡ Some u)
thread_there None k u e = absurd (cc e)
thread_there (Some th) k u e = let h = passed_not th.finished (k th) u e in (th, refl, h.0, h.1)
