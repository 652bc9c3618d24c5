-- What holds of any replicas after any events.
use Rattle.std.proofs.Common.{◌≡◌, ℕ, ◌+◌, ◌≤◌, true, List, inl, inr, ◌⊎◌, refl, sym, ap, subst, arith}
use Rattle.std.proofs.lemmas.Bool.{cases_eq}
use Rattle.oct_ops.specs.Operations.{listed}
use Rattle.oct_ops.specs.Body.{Operation}
use Rattle.oct_pages.specs.Catalogue.{catalogue}
use Rattle.oct_store.specs.Summary.{last, clock_of}
use Rattle.oct_join.specs.Clock.{covers}
use Rattle.oct_replica.specs.World.{World, Local, Event, after, IsReplica, IsAnywhere, IsIssued, HasNoGaps, EachIsIssued, NoForks, EqualClocksEqualSets, EqualClocksEqualCatalogues, AbroadIsSaved}
use Rattle.oct_record.specs.Taking.{last_number}
use Rattle.oct_ops.proofs.Members.{Has, Has-listed, same_set}
use Rattle.oct_store.proofs.Authors.{clock-has, covered}
use Rattle.oct_replica.proofs.Places.{one_replica}
use Rattle.oct_replica.proofs.Schedules.{Kept, IsHome, kept}

pub each_is_issued : EachIsIssued
each_is_issued n events o few anywhere = (kept n events).issued o anywhere

pub abroad_is_saved : AbroadIsSaved
abroad_is_saved n events o few abroad = (kept n events).home o abroad

-- an operation is held by its author
held_at_home : (n : ℕ) (events : List Event) (w : World) → Kept n events w → (o : Operation) → IsAnywhere w o → (l : Local) × IsReplica w o.dot.author l × Has l.held o
held_at_home n events w k o anywhere = elim anywhere [
  | inl held ↦ held_by held.0 held.1 held.2 (inl held.3)
  | inr rest ↦ elim rest [
    | inl saved ↦ held_by saved.0 saved.1 saved.2 (inr saved.3)
    | inr packet ↦ from_home (k.home o (inl packet))
  ]
]
  where
    from_home : IsHome w o → (l : Local) × IsReplica w o.dot.author l × Has l.held o
    from_home (l, is, saved) = (l, is, k.within o.dot.author l is o saved)

    held_by : (r : ℕ) (l : Local) → IsReplica w r l → Has l.held o ⊎ Has l.saved o → (l : Local) × IsReplica w o.dot.author l × Has l.held o
    held_by r l is has = elim (cases_eq r o.dot.author) [
      | inl e ↦ (l, subst (λ a. IsReplica w a l) e is, elim has [ inl held ↦ held | inr saved ↦ k.within r l is o saved ])
      | inr ne ↦ from_home (k.home o (inr (r, l, is, ne, has)))
    ]

pub no_forks : NoForks
no_forks n events o p few here there dot =
    let k = kept n events in
    let a = held_at_home n events (after n events) k o here in
    let b = held_at_home n events (after n events) k p there in
    let author : p.dot.author ≡ o.dot.author = ap (λ d. d.author) (sym dot) in
    let one : b.0 ≡ a.0 = one_replica (after n events) o.dot.author b.0 a.0 (subst (λ r. IsReplica (after n events) r b.0) author b.1) a.1 in
    k.own o.dot.author a.0 a.1 o p a.2 (subst (λ (l : Local). Has l.held p) one b.2) refl dot

-- numbers begin at 1
numbered : (n : ℕ) (events : List Event) (o : Operation) → IsIssued n events o → 1 ≤ o.dot.number
numbered n events o i =
    let is : o.dot.number ≡ last (listed i.issuer.held) o.dot.author + 1 = ap (λ (p : Operation). p.dot.number) i.next in
    omega arith

-- what one replica holds, another with the same clock does
carried : (n : ℕ) (events : List Event) (r s : ℕ) (k l : Local) → n ≤ last_number → IsReplica (after n events) r k → IsReplica (after n events) s l → HasNoGaps k.held →
    clock_of (listed k.held) ≡ clock_of (listed l.held) → (o : Operation) → Has k.held o → Has l.held o
carried n events r s k l few at there whole same o held =
    let anywhere : IsAnywhere (after n events) o = inl (r, k, at, held) in
    let some = numbered n events o (each_is_issued n events o few anywhere) in
    let is_covered : covers (clock_of (listed l.held)) o.dot ≡ true = subst (λ t. covers t o.dot ≡ true) same (covered k.held (clock_of (listed k.held)) whole o held) in
    let p = clock-has (listed l.held) o.dot some is_covered in
    let has : Has l.held p.0 = Has-listed l.held p.0 p.1 in
    subst (Has l.held) (no_forks n events p.0 o few (inl (s, l, there, has)) anywhere p.2) has

pub equal_clocks_equal_sets : EqualClocksEqualSets
equal_clocks_equal_sets n events r s k l few at there whole other same =
    same_set k.held l.held (carried n events r s k l few at there whole same) (carried n events s r l k few there at other (sym same))

pub equal_clocks_equal_catalogues : EqualClocksEqualCatalogues
equal_clocks_equal_catalogues n events r s k l few at there whole other same =
    ap (λ ops. catalogue (listed ops)) (equal_clocks_equal_sets n events r s k l few at there whole other same)
