-- What tickets say of the jobs that are out (own).
use Rattle.std.specs.Prelude.{◌≡◌, ◌≢◌, ℕ, ◌+◌, ◌≤◌, Bool, false, Option, Some, None, nat_eq}
use Rattle.std.specs.HashMap.{get, spare, hash_map_len}
use Rattle.std.specs.Set.{is_member}
use Rattle.conc_world.specs.declared.tickets.tickets.Out.{Out}
use Rattle.conc_world.specs.declared.tickets.tickets.Tickets.{Tickets}

-- the job of a ticket that is out
abbrev pub job : Tickets → ℕ → Option Out
job s k = get nat_eq s.jobs k

-- the ticket of a thread's job that is out
abbrev pub ticket_of : Tickets → ℕ → Option ℕ
ticket_of s t = get nat_eq s.of_threads t

-- whether the thread of a ticket's job received an exception since the job was made
abbrev pub is_overtaken : Tickets → ℕ → Bool
is_overtaken s k = is_member nat_eq s.overtaken.items k

-- no job is out
pub record IsIdle (s : Tickets) : Type 0 where
  pub job : (k : ℕ) → job s k ≡ None
  pub ticket : (t : ℕ) → ticket_of s t ≡ None
  pub overtaken : (k : ℕ) → is_overtaken s k ≡ false

-- the same jobs are out, and the same of them are overtaken
pub record Same (old new : Tickets) : Type 0 where
  pub job : (k : ℕ) → job new k ≡ job old k
  pub ticket : (t : ℕ) → ticket_of new t ≡ ticket_of old t
  pub overtaken : (k : ℕ) → is_overtaken new k ≡ is_overtaken old k

-- one more job can go out, and each job that is out can be marked, without memory
pub record HasRoom (s : Tickets) : Type 0 where
  pub job : 1 ≤ spare s.jobs
  pub thread : 1 ≤ spare s.of_threads
  pub marks : hash_map_len s.jobs + 1 ≤ s.overtaken.cap

-- the ticket is not out any more, and all others are as before
pub record TakesBack (old new : Tickets) (ticket : ℕ) : Type 0 where
  pub out : job new ticket ≡ None
  pub others : (k : ℕ) → k ≢ ticket → job new k ≡ job old k
  pub thread : (t : ℕ) → ticket_of old t ≡ Some ticket → ticket_of new t ≡ None
  pub threads : (t : ℕ) → ticket_of old t ≢ Some ticket → ticket_of new t ≡ ticket_of old t
  pub mark : is_overtaken new ticket ≡ false
  pub marks : (k : ℕ) → k ≢ ticket → is_overtaken new k ≡ is_overtaken old k
