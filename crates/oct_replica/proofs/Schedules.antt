-- What any events keep.
use Rattle.std.proofs.Common.{◌≡◌, ℕ, ◌+◌, true, false, not, ◌&&◌, eqb, List, [], ◌∷◌, ◌++◌, take, slice_get, Some, ◌⊎◌, inl, inr, refl, sym, ap, ◌∙◌, subst, arith, ◌≢◌, append_assoc, append-nil}
use Rattle.std.specs.List.{IsAmong, fold}
use Rattle.std.proofs.lemmas.Bool.{cases_Bool, cases_eq, eq-eqb, not-true, not_from_false, and_from, false≢true}
use Rattle.oct_ops.specs.Operations.{contains, insert, insert_all, listed}
use Rattle.oct_ops.specs.Body.{Body, Operation}
use Rattle.oct_join.specs.Clock.{Clock, covers}
use Rattle.oct_store.specs.Summary.{last, beyond}
use Rattle.oct_replica.specs.World.{World, Local, Event, start, with_replica, is_own_saved, issue, send, step, after, IsReplica, IsAnywhere, IsIssued, IsAbroad}
use Rattle.oct_record.specs.Taking.{next_op, has_number}
use Rattle.oct_replica.specs.World.Event.{Issue, Save, Send, Deliver, Restart}
use Rattle.oct_ops.proofs.Members.{Has, In, In-among, among-In, In-take, any-In, Has-listed, In-listed, Has-empty, Has-insert, insert-keeps, Has-insert_all, insert_all-keeps, Has-keep}
use Rattle.oct_replica.proofs.Places.{get-push, at_start, replica_here, replica_there, one_replica, replica_cases, on_replica_keeps, on_packet_keeps}
use Rattle.oct_store.proofs.Authors.{last-greatest}

-- the author has saved the operation
abbrev pub IsHome : World → Operation → Type 0
IsHome w o = (l : Local) × IsReplica w o.dot.author l × Has l.saved o

pub record Kept (n : ℕ) (events : List Event) (w : World) : Type 0 where
  -- what is saved is held
  pub within : (r : ℕ) (l : Local) → IsReplica w r l → (o : Operation) → Has l.saved o → Has l.held o
  -- what is abroad is in its author's saved set
  pub home : (o : Operation) → IsAbroad w o → IsHome w o
  -- what a replica holds of its own has one content for a dot
  pub own : (r : ℕ) (l : Local) → IsReplica w r l → (o p : Operation) → Has l.held o → Has l.held p → o.dot.author ≡ r → o.dot ≡ p.dot → o ≡ p
  -- each operation is issued
  pub issued : (o : Operation) → IsAnywhere w o → IsIssued n events o

-- how a replica may go on, from l to m
record MayBecome (n : ℕ) (events : List Event) (w : World) (r : ℕ) (l m : Local) : Type 0 where
  saves : (o : Operation) → Has l.saved o → Has m.saved o
  within : (o : Operation) → Has m.saved o → Has m.held o
  home : (o : Operation) → Has m.held o → r ≢ o.dot.author → IsHome w o
  own : (o p : Operation) → Has m.held o → Has m.held p → o.dot.author ≡ r → o.dot ≡ p.dot → o ≡ p
  issued : (o : Operation) → Has m.held o → IsIssued n events o

-- ---- one event more

issued_later : (n : ℕ) (events : List Event) (e : Event) (o : Operation) → IsIssued n events o → IsIssued n (events ++ e ∷ []) o
issued_later n events e o i = record {
  before = i.before;
  later = i.later ++ e ∷ [];
  issuer = i.issuer;
  is = ap (λ es. es ++ e ∷ []) i.is ∙ append_assoc i.before (Issue o.dot.author o.body ∷ i.later) (e ∷ []);
  replica = i.replica;
  room = i.room;
  next = i.next;
}

kept_later : (n : ℕ) (events : List Event) (e : Event) (w : World) → Kept n events w → Kept n (events ++ e ∷ []) w
kept_later n events e w k = record { within = k.within; home = k.home; own = k.own; issued = λ o a. issued_later n events e o (k.issued o a) }

-- ---- one replica goes on

module _ (n : ℕ) (events later : List Event) (w : World) (r : ℕ) (l m : Local) (at : IsReplica w r l) (k : Kept n events w) (c : MayBecome n later w r l m)
    (old : (o : Operation) → IsIssued n events o → IsIssued n later o) where
  home_kept : (o : Operation) → IsHome w o → IsHome (with_replica w r m) o
  home_kept o (q, is, saved) = elim (cases_eq o.dot.author r) [
    | inl e ↦ (
      m,
      subst (λ a. IsReplica (with_replica w r m) a m) (sym e) (replica_here w r l m at),
      c.saves o (subst (λ (x : Local). Has x.saved o) (one_replica w r q l (subst (λ a. IsReplica w a q) e is) at) saved),
    )
    | inr ne ↦ (q, replica_there w r o.dot.author l m at (λ e. ne (sym e)) ∙ is, saved)
  ]

  from_abroad : (o : Operation) → IsAbroad (with_replica w r m) o → IsHome w o
  from_abroad o (inl packet) = k.home o (inl packet)
  from_abroad o (inr (s, x, is, ne, has)) = elim (replica_cases w r s l m x at is) [
    | inl here ↦
        let away : r ≢ o.dot.author = λ e. ne (here.0 ∙ e) in
        elim has [
          | inl held ↦ c.home o (subst (λ (y : Local). Has y.held o) here.1 held) away
          | inr saved ↦ c.home o (c.within o (subst (λ (y : Local). Has y.saved o) here.1 saved)) away
        ]
    | inr there ↦ k.home o (inr (s, x, there.1, ne, has))
  ]

  from_anywhere : (o : Operation) → IsAnywhere (with_replica w r m) o → IsIssued n later o
  from_anywhere o (inl (s, x, is, held)) = elim (replica_cases w r s l m x at is) [
    | inl here ↦ c.issued o (subst (λ (y : Local). Has y.held o) here.1 held)
    | inr there ↦ old o (k.issued o (inl (s, x, there.1, held)))
  ]
  from_anywhere o (inr (inl (s, x, is, saved))) = elim (replica_cases w r s l m x at is) [
    | inl here ↦ c.issued o (c.within o (subst (λ (y : Local). Has y.saved o) here.1 saved))
    | inr there ↦ old o (k.issued o (inr (inl (s, x, there.1, saved))))
  ]
  from_anywhere o (inr (inr packet)) = old o (k.issued o (inr (inr packet)))

  changed : Kept n later (with_replica w r m)
  changed = record {
    within = λ s x is o saved. elim (replica_cases w r s l m x at is) [
      | inl here ↦ subst (λ (y : Local). Has y.held o) (sym here.1) (c.within o (subst (λ (y : Local). Has y.saved o) here.1 saved))
      | inr there ↦ k.within s x there.1 o saved
    ];
    home = λ o abroad. home_kept o (from_abroad o abroad);
    own = λ s x is o p a b author dot. elim (replica_cases w r s l m x at is) [
      | inl here ↦ c.own o p (subst (λ (y : Local). Has y.held o) here.1 a) (subst (λ (y : Local). Has y.held p) here.1 b) (author ∙ here.0) dot
      | inr there ↦ k.own s x there.1 o p a b author dot
    ];
    issued = from_anywhere;
  }

-- ---- each event

module _ (n : ℕ) (events : List Event) (w : World) (now : w ≡ after n events) (k : Kept n events w) where
  -- what a replica holds of another's is saved there
  held_home : (r : ℕ) (l : Local) → IsReplica w r l → (o : Operation) → Has l.held o → r ≢ o.dot.author → IsHome w o
  held_home r l at o held ne = k.home o (inr (r, l, at, ne, inl held))

  held_issued : (e : Event) (r : ℕ) (l : Local) → IsReplica w r l → (o : Operation) → Has l.held o → IsIssued n (events ++ e ∷ []) o
  held_issued e r l at o held = issued_later n events e o (k.issued o (inl (r, l, at, held)))

  goes_on : (e : Event) (r : ℕ) (l m : Local) → IsReplica w r l → MayBecome n (events ++ e ∷ []) w r l m → Kept n (events ++ e ∷ []) (with_replica w r m)
  goes_on e r l m at c = changed n events (events ++ e ∷ []) w r l m at k c (issued_later n events e)

  -- the number after the last is new
  fresh : (r : ℕ) (body : Body) (l : Local) (o : Operation) → Has l.held o → o.dot ≡ (next_op l.held r body).dot → ⊥
  fresh r body l o held dot =
      let most = last-greatest (listed l.held) o (In-listed l.held o held) in
      let author : o.dot.author ≡ r = ap (λ d. d.author) dot in
      let number : o.dot.number ≡ last (listed l.held) r + 1 = ap (λ d. d.number) dot in
      let same : last (listed l.held) o.dot.author ≡ last (listed l.held) r = ap (last (listed l.held)) author in
      omega arith

  issue_now : (r : ℕ) (body : Body) (l : Local) → IsReplica w r l → has_number l.held r ≡ true → IsIssued n (events ++ Issue r body ∷ []) (next_op l.held r body)
  issue_now r body l at room = record {
    before = events;
    later = [];
    issuer = l;
    is = refl;
    replica = subst (λ v. IsReplica v r l) now at;
    room = room;
    next = refl;
  }

  issuing : (r : ℕ) (body : Body) (l : Local) → IsReplica w r l → has_number l.held r ≡ true
      → MayBecome n (events ++ Issue r body ∷ []) w r l (record l { held = insert l.held (next_op l.held r body) })
  issuing r body l at room =
      let new = next_op l.held r body in
      record {
        saves = λ o h. h;
        within = λ o h. insert-keeps l.held new o (k.within r l at o h);
        home = λ o h ne. elim (Has-insert l.held new o h) [ inl e ↦ absurd (ne (sym (ap (λ (p : Operation). p.dot.author) e))) | inr old ↦ held_home r l at o old ne ];
        own = λ o p a b author dot. elim (Has-insert l.held new o a) [
          | inl x ↦ elim (Has-insert l.held new p b) [ inl y ↦ x ∙ sym y | inr q ↦ absurd (fresh r body l p q (sym dot ∙ ap (λ (z : Operation). z.dot) x)) ]
          | inr old ↦ elim (Has-insert l.held new p b) [ inl y ↦ absurd (fresh r body l o old (dot ∙ ap (λ (z : Operation). z.dot) y)) | inr q ↦ k.own r l at o p old q author dot ]
        ];
        issued = λ o h. elim (Has-insert l.held new o h) [
          | inl e ↦ subst (λ p. IsIssued n (events ++ Issue r body ∷ []) p) (sym e) (issue_now r body l at room)
          | inr old ↦ held_issued (Issue r body) r l at o old
        ];
      }

  saving : (r : ℕ) (l : Local) → IsReplica w r l → MayBecome n (events ++ Save r ∷ []) w r l (record l { saved = l.held })
  saving r l at = record {
    saves = k.within r l at;
    within = λ o h. h;
    home = held_home r l at;
    own = k.own r l at;
    issued = held_issued (Save r) r l at;
  }

  restarting : (r : ℕ) (l : Local) → IsReplica w r l → MayBecome n (events ++ Restart r ∷ []) w r l (record l { held = l.saved })
  restarting r l at = record {
    saves = λ o h. h;
    within = λ o h. h;
    home = λ o h ne. held_home r l at o (k.within r l at o h) ne;
    own = λ o p a b author dot. k.own r l at o p (k.within r l at o a) (k.within r l at p b) author dot;
    issued = λ o h. held_issued (Restart r) r l at o (k.within r l at o h);
  }

  delivering : (i r j : ℕ) (ops : List Operation) (l : Local) → slice_get w.packets i ≡ Some ops → IsReplica w r l
      → MayBecome n (events ++ Deliver i r j ∷ []) w r l (record l { held = insert_all l.held (take j ops) })
  delivering i r j ops l packet at =
      let comes_home : (o : Operation) → In o (take j ops) → IsHome w o = λ o h. k.home o (inl (i, ops, packet, among-In ops o (In-take j ops o h))) in
      let own_held : (o : Operation) → Has (insert_all l.held (take j ops)) o → o.dot.author ≡ r → Has l.held o = λ o h author.
      elim (Has-insert_all l.held (take j ops) o h) [
        | inl old ↦ old
        | inr new ↦
            let at_home = comes_home o new in
            k.within r l at o (subst (λ (x : Local). Has x.saved o) (one_replica w r at_home.0 l (subst (λ a. IsReplica w a at_home.0) author at_home.1) at) at_home.2)
      ] in
      record {
        saves = λ o h. h;
        within = λ o h. insert_all-keeps l.held (take j ops) o (k.within r l at o h);
        home = λ o h ne. elim (Has-insert_all l.held (take j ops) o h) [ inl old ↦ held_home r l at o old ne | inr new ↦ comes_home o new ];
        own = λ o p a b author dot. k.own r l at o p (own_held o a author) (own_held p b (sym (ap (λ d. d.author) dot) ∙ author)) author dot;
        issued = λ o h. elim (Has-insert_all l.held (take j ops) o h) [
          | inl old ↦ held_issued (Deliver i r j) r l at o old
          | inr new ↦ issued_later n events (Deliver i r j) o (k.issued o (inr (inr (i, ops, packet, among-In ops o (In-take j ops o new)))))
        ];
      }

  -- what is sent is held, and what is sent of the sender's own is saved
  own_saved : (r : ℕ) (l : Local) → is_own_saved l r ≡ true → (o : Operation) → Has l.held o → o.dot.author ≡ r → Has l.saved o
  own_saved r l all o held author = elim (cases_Bool (contains l.saved o)) [
    | inl has ↦ has
    | inr lacks ↦ absurd (false≢true (sym (not-true _ all)
        ∙ any-In (λ (p : Operation). eqb p.dot.author r && not (contains l.saved p)) (listed l.held) o (In-listed l.held o held)
        (and_from (eqb o.dot.author r) (not (contains l.saved o)) (eq-eqb o.dot.author r author) (not_from_false (contains l.saved o) lacks))))
  ]

  sent_home : (r : ℕ) (l : Local) → IsReplica w r l → is_own_saved l r ≡ true → (o : Operation) → Has l.held o → IsHome w o
  sent_home r l at all o held = elim (cases_eq o.dot.author r) [
    | inl e ↦ (l, subst (λ a. IsReplica w a l) (sym e) at, own_saved r l all o held e)
    | inr ne ↦ held_home r l at o held (λ e. ne (sym e))
  ]

  sending : (r : ℕ) (t : Clock) (l : Local) → IsReplica w r l → is_own_saved l r ≡ true
      → Kept n (events ++ Send r t ∷ []) (record w { packets = w.packets ++ listed (beyond l.held t) ∷ [] })
  sending r t l at all =
      let held_of : (ops : List Operation) → ops ≡ listed (beyond l.held t) → (o : Operation) → IsAmong ops o → Has l.held o = λ ops is o among.
      Has-keep (λ (p : Operation). not (covers t p.dot)) l.held o (Has-listed (beyond l.held t) o (subst (In o) is (In-among ops o among))) in
      record {
        within = k.within;
        home = λ o abroad. elim abroad [
          | inl packet ↦ elim (get-push w.packets (listed (beyond l.held t)) packet.0 packet.1 packet.2) [
            | inl old ↦ k.home o (inl (packet.0, packet.1, old, packet.3))
            | inr new ↦ sent_home r l at all o (held_of packet.1 new o packet.3)
          ]
          | inr there ↦ k.home o (inr there)
        ];
        own = k.own;
        issued = λ o anywhere. elim anywhere [
          | inl held ↦ issued_later n events (Send r t) o (k.issued o (inl held))
          | inr rest ↦ elim rest [
            | inl saved ↦ issued_later n events (Send r t) o (k.issued o (inr (inl saved)))
            | inr packet ↦ elim (get-push w.packets (listed (beyond l.held t)) packet.0 packet.1 packet.2) [
              | inl old ↦ issued_later n events (Send r t) o (k.issued o (inr (inr (packet.0, packet.1, old, packet.3))))
              | inr new ↦ held_issued (Send r t) r l at o (held_of packet.1 new o packet.3)
            ]
          ]
        ];
      }

  same_world : (e : Event) → Kept n (events ++ e ∷ []) w
  same_world e = kept_later n events e w k

  issue_keeps : (r : ℕ) (body : Body) (l : Local) → IsReplica w r l → Kept n (events ++ Issue r body ∷ []) (issue w r body l)
  issue_keeps r body l at =
      elim (has_number l.held r) as (λ b. has_number l.held r ≡ b → Kept n (events ++ Issue r body ∷ [])
      (elim b [ true ↦ with_replica w r (record l { held = insert l.held (next_op l.held r body) }) | false ↦ w ])) [
        | true ↦ λ room. goes_on (Issue r body) r l _ at (issuing r body l at room)
        | false ↦ λ full. same_world (Issue r body)
      ] refl

  send_keeps : (r : ℕ) (t : Clock) (l : Local) → IsReplica w r l → Kept n (events ++ Send r t ∷ []) (send w r t l)
  send_keeps r t l at =
      elim (is_own_saved l r) as (λ b. is_own_saved l r ≡ b → Kept n (events ++ Send r t ∷ [])
      (elim b [ true ↦ record w { packets = w.packets ++ listed (beyond l.held t) ∷ [] } | false ↦ w ])) [
        | true ↦ λ all. sending r t l at all
        | false ↦ λ some. same_world (Send r t)
      ] refl

  pub step_keeps : (e : Event) → Kept n (events ++ e ∷ []) (step w e)
  step_keeps (Issue r body) = on_replica_keeps (Kept n (events ++ Issue r body ∷ [])) w r (issue w r body) (same_world (Issue r body)) (issue_keeps r body)
  step_keeps (Save r) = on_replica_keeps (Kept n (events ++ Save r ∷ [])) w r _ (same_world (Save r)) (λ l at. goes_on (Save r) r l _ at (saving r l at))
  step_keeps (Send r t) = on_replica_keeps (Kept n (events ++ Send r t ∷ [])) w r (send w r t) (same_world (Send r t)) (send_keeps r t)
  step_keeps (Deliver i r j) = on_packet_keeps (Kept n (events ++ Deliver i r j ∷ [])) w i _ (same_world (Deliver i r j))
      (λ ops packet. on_replica_keeps (Kept n (events ++ Deliver i r j ∷ [])) w r _ (same_world (Deliver i r j)) (λ l at. goes_on (Deliver i r j) r l _ at (delivering i r j ops l packet at)))
  step_keeps (Restart r) = on_replica_keeps (Kept n (events ++ Restart r ∷ [])) w r _ (same_world (Restart r)) (λ l at. goes_on (Restart r) r l _ at (restarting r l at))

-- ---- all events

fold_push : (w : World) (events : List Event) (e : Event) → fold step w (events ++ e ∷ []) ≡ step (fold step w events) e
fold_push w [] e = refl
fold_push w (x ∷ events) e = fold_push (step w x) events e

kept_on : (n : ℕ) (before events : List Event) (w : World) → w ≡ after n before → Kept n before w → Kept n (before ++ events) (fold step w events)
kept_on n before [] w now k = subst (λ es. Kept n es w) (sym (append-nil before)) k
kept_on n before (e ∷ events) w now k =
    subst (λ es. Kept n es (fold step (step w e) events)) (append_assoc before (e ∷ []) events)
    (kept_on n (before ++ e ∷ []) events (step w e) (ap (λ v. step v e) now ∙ sym (fold_push (start n) before e)) (step_keeps n before w now k e))

none_at_start : (n r : ℕ) (l : Local) (o : Operation) → IsReplica (start n) r l → Has l.held o ⊎ Has l.saved o → ⊥
none_at_start n r l o is h = elim h [
  | inl held ↦ Has-empty o (subst (λ (x : Local). Has x.held o) (at_start n r l is) held)
  | inr saved ↦ Has-empty o (subst (λ (x : Local). Has x.saved o) (at_start n r l is) saved)
]

no_packet : (i : ℕ) (ops : List Operation) → slice_get {X = List Operation} [] i ≡ Some ops → ⊥
no_packet i ops h = cc

kept_at_start : (n : ℕ) → Kept n [] (start n)
kept_at_start n = record {
  within = λ r l is o saved. absurd (none_at_start n r l o is (inr saved));
  home = λ o abroad. elim abroad [
    | inl packet ↦ absurd (no_packet packet.0 packet.1 packet.2)
    | inr there ↦ absurd (none_at_start n there.0 there.1 o there.2 there.4)
  ];
  own = λ r l is o p a b author dot. absurd (none_at_start n r l o is (inl a));
  issued = λ o anywhere. elim anywhere [
    | inl held ↦ absurd (none_at_start n held.0 held.1 o held.2 (inl held.3))
    | inr rest ↦ elim rest [
      | inl saved ↦ absurd (none_at_start n saved.0 saved.1 o saved.2 (inr saved.3))
      | inr packet ↦ absurd (no_packet packet.0 packet.1 packet.2)
    ]
  ];
}

pub kept : (n : ℕ) (events : List Event) → Kept n events (after n events)
kept n events = kept_on n [] events (start n) refl (kept_at_start n)
