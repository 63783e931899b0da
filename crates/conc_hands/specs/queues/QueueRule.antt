-- The rule of a queue of things with tickets, and what each step tells (own). One rule serves deques and inboxes.
use Rattle.std.specs.Prelude.{◌≡◌, ℕ, ◌+◌, ◌-◌, ◌<◌, ◌≤◌, List, [], ◌∷◌, ◌++◌, map, All, Option, Some, None}
use mathlib.Core.Option.{some}
use lib.ListN.{get_elem?}
use Rattle.rules_code.specs.declared.code.CodeBody.{CodeBody}
use Rattle.conc_hands.specs.declared.queues.view.QueueView.{QueueView}

-- the weights of the tickets in a list, added up
abbrev pub weigh : (ℕ → ℕ) → List ℕ → ℕ
weigh h [] = 0
weigh h (x ∷ xs) = h x + weigh h xs

-- the two lists have the same tickets, each as often: however tickets are weighed, both lists weigh the same
abbrev pub SameTickets : List ℕ → List ℕ → Type 0
SameTickets xs ys = (h : ℕ → ℕ) → weigh h xs ≡ weigh h ys

abbrev pub total : (QueueView → ℕ) → List QueueView → ℕ
total f [] = 0
total f (v ∷ vs) = f v + total f vs

abbrev pub shares_in : QueueView → ℕ
shares_in v = v.shares

abbrev pub put_weight : (ℕ → ℕ) → QueueView → ℕ
put_weight h v = weigh h v.put

abbrev pub taken_weight : (ℕ → ℕ) → QueueView → ℕ
taken_weight h v = weigh h v.taken

abbrev pub view_with : Option CodeBody → ℕ → List ℕ → List ℕ → QueueView
view_with code shares put taken = record { code = code; shares = shares; put = put; taken = taken }

-- the first view of a queue that has not been told its code
abbrev pub untold : QueueView
untold = view_with None 16 [] []

abbrev pub spent : QueueView
spent = view_with None 0 [] []

-- a view with a share names the code of the queue, if it has been told one. A view without is spent
abbrev pub Fits : Option CodeBody → QueueView → Type 0
Fits code v = (0 < v.shares → v.code ≡ code) × (v.shares ≡ 0 → v ≡ spent)

module _ {T : Type 0} (belongs : T → CodeBody) where
  abbrev pub BelongsTo : Option CodeBody → T → Type 0
  BelongsTo code x = Some (belongs x) ≡ code

module _ {T : Type 0} (number : T → ℕ) (belongs : T → CodeBody) where
  -- The rule: it holds between any two steps
  pub record IsRuled (items : List T) (views : List QueueView) : Type 0 where
    pub code : Option CodeBody
    -- the shares of all views add up to 16
    pub whole : total shares_in views ≡ 16
    pub each : (port : ℕ) (v : QueueView) → get_elem? views port ≡ some v → Fits code v
    -- every item belongs to the code
    pub of_code : All (BelongsTo belongs code) items
    -- what was put in is what was taken and what is there, each ticket as often
    pub weighed : (h : ℕ → ℕ) → total (put_weight h) views ≡ total (taken_weight h) views + weigh h (map number items)

  -- Take: the tickets join the taken ones; the items belong to the code. A view with all shares had put more than it had taken
  abbrev pub takes : QueueView → List T → QueueView → Type 0
  takes v xs w =
      (w ≡ view_with v.code v.shares v.put (v.taken ++ map number xs)) × All (BelongsTo belongs v.code) xs
      × (v.shares ≡ 16 → (h : ℕ → ℕ) → weigh h v.taken + weigh h (map number xs) ≤ weigh h v.put)

  -- there is a state that meets the rule, with this view, in which the queue is empty
  abbrev pub MetEmpty : QueueView → Type 0
  MetEmpty v = (port : ℕ) × (views : List QueueView) × IsRuled [] views × (get_elem? views port ≡ some v)

  abbrev pub takes_one : QueueView → T → QueueView → Type 0
  takes_one v x w = takes v (x ∷ []) w

  abbrev pub IfEmpty : QueueView → List T → Type 0
  IfEmpty v items = items ≡ [] → MetEmpty v

module _ {T : Type 0} (number : T → ℕ) where
  -- Put: the tickets join those that were put in
  abbrev pub puts : QueueView → List T → QueueView → Type 0
  puts v xs w = w ≡ view_with v.code v.shares (v.put ++ map number xs) v.taken

  abbrev pub puts_one : QueueView → T → QueueView → Type 0
  puts_one v x w = w ≡ view_with v.code v.shares (v.put ++ number x ∷ []) v.taken

-- the first view is told its code
abbrev pub told : Option CodeBody → QueueView → QueueView
told code v = view_with code v.shares v.put v.taken

-- Split: one share goes, and the new view has it and empty lists
abbrev pub less_one : QueueView → QueueView
less_one v = view_with v.code (v.shares - 1) v.put v.taken

abbrev pub of_one : QueueView → QueueView
of_one v = view_with v.code 1 [] []

-- Join: one view has the shares and the lists of both, and the other is spent
abbrev pub both_of : QueueView → QueueView → QueueView
both_of v w = view_with v.code (v.shares + w.shares) (v.put ++ w.put) (v.taken ++ w.taken)
