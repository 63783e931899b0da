-- Jobs by ticket and tickets by thread stay each other's mirror.
use Rattle.std.proofs.Common.{◌≡◌, ◌↔◌, ℕ, cond, Option, Some, None, Result, Ok, Err, IsOk, OnOk, IsSome, nat_eq, arith}
use Rattle.std.specs.HashMap.{HashMap, get, Updates}
use Rattle.std.proofs.lemmas.Grind.{common_steps}
use Rattle.conc_world.specs.declared.tickets.tickets.Out.{Out}
use Rattle.conc_world.specs.tickets.Jobs.{thread_of}

abbrev pub AreMirrors : (ℕ → Option Out) → (ℕ → Option ℕ) → Type 0
AreMirrors jobs tickets = (k t : ℕ) → (thread_of (jobs k) ≡ Some t) ↔ (tickets t ≡ Some k)

-- a thread's ticket is out
pub its_job : (jobs : ℕ → Option Out) (tickets : ℕ → Option ℕ) (k t : ℕ) → AreMirrors jobs tickets → tickets t ≡ Some k → IsSome (jobs k)
its_job jobs tickets k t m h = grind (arith, (m k t).1 h)

-- the second table is the first with this at the number
abbrev pub IsWith : {A : Type 0} → ℕ → Option A → (ℕ → Option A) → (ℕ → Option A) → Type 0
IsWith n o f g = (q : ℕ) → g q ≡ cond (nat_eq n q) o (f q)

-- what an insertion that succeeds leaves
pub with_inserted : {X S T E : Type 0} (r : Result T E) (m n : HashMap ℕ X S) (k : ℕ) (o : Option X) → IsOk r → OnOk r (Updates nat_eq m n k o) → IsWith k o (get nat_eq m) (get nat_eq n)
with_inserted (Ok x) m n k o ok u = u.0
with_inserted (Err e) m n k o ok u = let no : ⊥ = cc in absurd no

-- a job goes out whose ticket and thread were free
pub mirrors_added : (jobs jobs' : ℕ → Option Out) (tickets tickets' : ℕ → Option ℕ) (ticket : ℕ) (out : Out) → AreMirrors jobs tickets → jobs ticket ≡ None → tickets out.thread ≡ None → IsWith ticket (Some out) jobs jobs' → IsWith out.thread (Some ticket) tickets tickets' → AreMirrors jobs' tickets'
mirrors_added jobs jobs' tickets tickets' ticket out m new free fj ft = λ k t. (λ h. grind (arith, common_steps, fj k, ft t, m k t), λ h. grind (arith, common_steps, fj k, ft t, m k t))

-- a job is taken back
pub mirrors_removed : (jobs jobs' : ℕ → Option Out) (tickets tickets' : ℕ → Option ℕ) (ticket : ℕ) (out : Out) → AreMirrors jobs tickets → jobs ticket ≡ Some out → IsWith ticket None jobs jobs' → IsWith out.thread None tickets tickets' → AreMirrors jobs' tickets'
mirrors_removed jobs jobs' tickets tickets' ticket out m here fj ft = λ k t. (λ h. grind (arith, common_steps, fj k, ft t, m k t, m ticket out.thread), λ h. grind (arith, common_steps, fj k, ft t, m k t, m ticket out.thread))
