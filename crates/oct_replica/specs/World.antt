-- Replicas that issue, save, send, take and restart, in any order.
use Rattle.std.specs.Prelude.{◌≡◌, ℕ, zero, suc, ◌-◌, ◌≤◌, Bool, true, false, not, ◌&&◌, ◌==◌, List, [], ◌∷◌, ◌++◌, take, replicate, Option, Some, None, slice_get, slice_set, ◌⊎◌, ◌≢◌}
use Rattle.std.specs.List.{list_any, fold, IsAmong}
use Rattle.oct_ops.specs.Operations.{Operations, empty, insert, contains, listed, insert_all, set_of, union}
use Rattle.oct_ops.specs.Body.{Body, Operation}
use Rattle.oct_join.specs.Clock.{Clock}
use Rattle.oct_store.specs.Summary.{beyond, clock_of}
use Rattle.oct_pages.specs.Catalogue.{catalogue}
pub use Rattle.oct_record.specs.Taking.{last_number, next_op, has_number}

-- what a replica holds, and what it saved
pub record Local : Type 0 where
  pub held : Operations
  pub saved : Operations

-- the replica of the author r stands at place r - 1
pub record World : Type 0 where
  pub replicas : List Local
  pub packets : List (List Operation)

-- an author issues an operation of this body; saves its set; sends what a clock does not cover; the first operations of
-- a packet enter an author's set; an author begins again from what it saved
pub data Event : Type 0 where
  Issue : ℕ → Body → Event
  Save : ℕ → Event
  Send : ℕ → Clock → Event
  Deliver : ℕ → ℕ → ℕ → Event
  Restart : ℕ → Event

-- n replicas that hold nothing
abbrev pub start : ℕ → World
start n = record { replicas = replicate n (record { held = empty; saved = empty }); packets = [] }

-- the replica of an author, if there is one
abbrev pub replica : World → ℕ → Option Local
replica w zero = None
replica w (suc place) = slice_get w.replicas place

abbrev pub with_replica : World → ℕ → Local → World
with_replica w r l = record w { replicas = slice_set w.replicas (r - 1) l }

-- each own operation is saved
abbrev pub is_own_saved : Local → ℕ → Bool
is_own_saved l author = not (list_any (λ o. (o.dot.author == author) && not (contains l.saved o)) (listed l.held))

abbrev pub issue : World → ℕ → Body → Local → World
issue w r body l = elim (has_number l.held r) [
  | true ↦ with_replica w r (record l { held = insert l.held (next_op l.held r body) })
  | false ↦ w
]

abbrev pub send : World → ℕ → Clock → Local → World
send w r t l = elim (is_own_saved l r) [
  | true ↦ record w { packets = w.packets ++ listed (beyond l.held t) ∷ [] }
  | false ↦ w
]

-- what an event does where its replica, or its packet, is there
abbrev pub on_replica : World → ℕ → (Local → World) → World
on_replica w r act = elim (replica w r) [ None ↦ w | Some l ↦ act l ]

abbrev pub on_packet : World → ℕ → (List Operation → World) → World
on_packet w i act = elim (slice_get w.packets i) [ None ↦ w | Some ops ↦ act ops ]

abbrev pub step : World → Event → World
step w (Issue r body) = on_replica w r (issue w r body)
step w (Save r) = on_replica w r (λ l. with_replica w r (record l { saved = l.held }))
step w (Send r t) = on_replica w r (send w r t)
step w (Deliver i r j) = on_packet w i (λ ops. on_replica w r (λ l. with_replica w r (record l { held = insert_all l.held (take j ops) })))
step w (Restart r) = on_replica w r (λ l. with_replica w r (record l { held = l.saved }))

-- the world of n replicas after the events
abbrev pub after : ℕ → List Event → World
after n events = fold step (start n) events

-- ---- what holds after any events

abbrev pub IsReplica : World → ℕ → Local → Type 0
IsReplica w r l = replica w r ≡ Some l

-- the operation is in a set, a saved set or a packet
abbrev pub IsAnywhere : World → Operation → Type 0
IsAnywhere w o =
    ((r : ℕ) × (l : Local) × IsReplica w r l × (contains l.held o ≡ true))
    ⊎ (((r : ℕ) × (l : Local) × IsReplica w r l × (contains l.saved o ≡ true))
    ⊎ ((i : ℕ) × (ops : List Operation) × (slice_get w.packets i ≡ Some ops) × IsAmong ops o))

-- its author issued it
pub record IsIssued (n : ℕ) (events : List Event) (o : Operation) : Type 0 where
  pub before : List Event
  pub later : List Event
  pub issuer : Local
  pub is : events ≡ before ++ Issue o.dot.author o.body ∷ later
  pub replica : IsReplica (after n before) o.dot.author issuer
  pub room : has_number issuer.held o.dot.author ≡ true
  pub next : o ≡ next_op issuer.held o.dot.author o.body

abbrev pub EachIsIssued : Type 0
EachIsIssued = (n : ℕ) (events : List Event) (o : Operation) → n ≤ last_number → IsAnywhere (after n events) o → IsIssued n events o

abbrev pub NoForks : Type 0
NoForks = (n : ℕ) (events : List Event) (o p : Operation) → n ≤ last_number → IsAnywhere (after n events) o → IsAnywhere (after n events) p → o.dot ≡ p.dot → o ≡ p

-- nothing is beyond the own clock
abbrev pub HasNoGaps : Operations → Type 0
HasNoGaps ops = beyond ops (clock_of (listed ops)) ≡ empty

abbrev pub EqualClocksEqualSets : Type 0
EqualClocksEqualSets = (n : ℕ) (events : List Event) (r s : ℕ) (k l : Local) → n ≤ last_number →
    IsReplica (after n events) r k → IsReplica (after n events) s l → HasNoGaps k.held → HasNoGaps l.held →
    clock_of (listed k.held) ≡ clock_of (listed l.held) → k.held ≡ l.held

-- and so they print the same
abbrev pub EqualClocksEqualCatalogues : Type 0
EqualClocksEqualCatalogues = (n : ℕ) (events : List Event) (r s : ℕ) (k l : Local) → n ≤ last_number →
    IsReplica (after n events) r k → IsReplica (after n events) s l → HasNoGaps k.held → HasNoGaps l.held →
    clock_of (listed k.held) ≡ clock_of (listed l.held) → catalogue (listed k.held) ≡ catalogue (listed l.held)

-- an operation in a packet, or in a set or a saved set of another replica, is in its author's saved set
abbrev pub IsAbroad : World → Operation → Type 0
IsAbroad w o =
    ((i : ℕ) × (ops : List Operation) × (slice_get w.packets i ≡ Some ops) × IsAmong ops o)
    ⊎ ((r : ℕ) × (l : Local) × IsReplica w r l × (r ≢ o.dot.author) × ((contains l.held o ≡ true) ⊎ (contains l.saved o ≡ true)))

abbrev pub AbroadIsSaved : Type 0
AbroadIsSaved = (n : ℕ) (events : List Event) (o : Operation) → n ≤ last_number → IsAbroad (after n events) o →
    (l : Local) × IsReplica (after n events) o.dot.author l × (contains l.saved o ≡ true)

-- a delivery leaves what taking the same operations leaves
abbrev pub DeliveriesAreTaken : Type 0
DeliveriesAreTaken = (held : Operations) (ops : List Operation) → insert_all held ops ≡ union held (set_of ops)
