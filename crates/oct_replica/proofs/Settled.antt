-- What is proved or refuted stays so when operations are added.
use Rattle.std.proofs.Common.{◌≡◌, ℕ, ◌≤◌, Bool, true, false, cond, ◌||◌, ◌==◌, List, [], ◌∷◌, Option, Some, None, inl, inr, sym, ap, ◌∙◌, subst, arith}
use Rattle.std.specs.List.{All, Contains, filter_map}
use Rattle.std.proofs.lemmas.List.Elements.{All-from_recursion}
use Rattle.std.proofs.lemmas.Bool.{cases_eq, eq-eqb, or_left}
use Rattle.oct_code.specs.Code.{Code, code_eq}
use Rattle.oct_ops.specs.Operation.{Dot, Block, Period}
use Rattle.oct_ops.specs.Operations.{Operations, IsSubset, listed}
use Rattle.oct_ops.specs.Body.{Body, Operation}
use Rattle.oct_ops.specs.Body as kind
use Rattle.oct_ops.specs.Valid.{IsBody, IsPeriod}
use Rattle.oct_code.proofs.Members as members
use Rattle.oct_verify.specs.Laws.{AreAmong}
use Rattle.oct_verify.specs.declared.status.Status.TheVariants as of_block
use Rattle.oct_period.specs.FarLaws.{ClaimsAreAmong}
use Rattle.oct_period.specs.Laws.{IsLater}
use Rattle.oct_period.specs.declared.status.PeriodStatus.TheVariants as of_claim
use Rattle.oct_period.proofs.FarLaws as far
use Rattle.oct_period.proofs.Statuses as claims
use Rattle.oct_pages.specs.Catalogue.{block_in, blocks_of, claim_in, claims_of, if_some, under}
use Rattle.oct_record.specs.Valid.{AreValid}
use Rattle.oct_replica.specs.Settled.{blocks_in, claims_in, SettledBlocksStay, SettledClaimsStay}
use Rattle.oct_pages.proofs.InGames.{In-filter_map, In-filter_map_source}
use Rattle.oct_ops.proofs.Members.{In, In-among, among-In, In-map, Has-listed, In-listed, all_in}

-- ---- parts of lists

pub In-contains : {X : Type 0} (xs : List X) (x : X) → Contains xs x → In x xs
In-contains xs x h = In-among xs x (h.0, (h.1, sym h.2))

pub contains-In : {X : Type 0} (xs : List X) (x : X) → In x xs → Contains xs x
contains-In xs x h = let among = among-In xs x h in (among.0, among.1.0, sym among.1.1)

pub blocks_grow : (c : Code) (ops more : Operations) → IsSubset ops more → AreAmong (blocks_in c ops) (blocks_in c more)
blocks_grow c ops more sub b h =
    let pair = members.In-map_source (λ (q : Dot × Block). q.1) b (blocks_of c (listed ops)) (In-contains (blocks_in c ops) b h) in
    let op = In-filter_map_source (block_in c) (listed ops) pair.0 pair.1 in
    let stays : In pair.0 (blocks_of c (listed more)) = In-filter_map (block_in c) (listed more) op.0 pair.0 (In-listed more op.0 (sub op.0 (Has-listed ops op.0 op.1))) op.2 in
    contains-In (blocks_in c more) b (subst (λ a. In a (blocks_in c more)) (sym pair.2) (In-map (λ (q : Dot × Block). q.1) pair.0 (blocks_of c (listed more)) stays))

pub claims_grow : (c : Code) (ops more : Operations) → IsSubset ops more → ClaimsAreAmong (claims_in c ops) (claims_in c more)
claims_grow c ops more sub p h =
    let pair = members.In-map_source (λ (q : Dot × Period). q.1) p (claims_of c (listed ops)) (In-contains (claims_in c ops) p h) in
    let op = In-filter_map_source (claim_in c) (listed ops) pair.0 pair.1 in
    let stays : In pair.0 (claims_of c (listed more)) = In-filter_map (claim_in c) (listed more) op.0 pair.0 (In-listed more op.0 (sub op.0 (Has-listed ops op.0 op.1))) op.2 in
    contains-In (claims_in c more) p (subst (λ a. In a (claims_in c more)) (sym pair.2) (In-map (λ (q : Dot × Period). q.1) pair.0 (claims_of c (listed more)) stays))

zero_fault : {E : Type 0} (fault : E) (b : Bool) (rest : Option E) → b ≡ true → cond b (Some fault) rest ≡ None → ⊥
zero_fault fault true rest h none = cc
zero_fault fault false rest h none = cc

-- a claim starts at 1 or later
pub start_some : (p : Period) → IsPeriod p → 1 ≤ p.start
start_some p valid = elim (cases_eq p.start 0) [
  | inr some ↦ omega arith
  | inl none ↦ absurd (zero_fault _ ((p.start == 0) || (p.period == 0)) _ (or_left (p.start == 0) (p.period == 0) (eq-eqb p.start 0 none)) valid.faultless)
]

-- what is found is the claim of the operation
claim_of_if : (c : Code) (d : Dot) (t : Bool) (p : Period) (q : Dot × Period) → under d (if_some t p) ≡ Some q → p ≡ q.1
claim_of_if c d true p q h = cc
claim_of_if c d false p q h = cc

pub claim_is_valid : (c : Code) (d : Dot) (body : Body) (q : Dot × Period) → IsBody body → claim_in c (record { dot = d; body = body }) ≡ Some q → IsPeriod q.1
claim_is_valid c d (kind.Block b) q valid h = cc
claim_is_valid c d (kind.Period p) q valid h = subst IsPeriod (claim_of_if c d (code_eq p.code c) p q h) valid
claim_is_valid c d (kind.Note n) q valid h = cc
claim_is_valid c d (kind.Removal r) q valid h = cc

pub claims_later : (c : Code) (ops : Operations) → AreValid ops → All IsLater (claims_in c ops)
claims_later c ops valid = All-from_recursion IsLater (claims_in c ops) (all_in IsLater (claims_in c ops) (λ p h.
    let pair = members.In-map_source (λ (q : Dot × Period). q.1) p (claims_of c (listed ops)) h in
    let op = In-filter_map_source (claim_in c) (listed ops) pair.0 pair.1 in
    let is_op = valid op.0 (Has-listed ops op.0 op.1) in
    start_some p (subst IsPeriod (sym pair.2) (claim_is_valid c op.0.dot op.0.body pair.0 is_op.body op.2))))

pub settled_blocks_stay : SettledBlocksStay
settled_blocks_stay ops more c b valid sub =
    let stays = far.settled_blocks_stay (blocks_in c ops) (blocks_in c more) (claims_in c ops) (claims_in c more) b (blocks_grow c ops more sub) (claims_grow c ops more sub) (claims_later c ops valid) in
    record {
      proved = λ is. stays (λ pending. clash (sym is ∙ pending)) ∙ is;
      refuted = λ place claimed truth is. stays (λ pending. clash_refuted (sym is ∙ pending)) ∙ is;
    }
  where
    clash : of_block.Proved ≡ of_block.Pending → ⊥
    clash e = cc

    clash_refuted : {place claimed truth : ℕ} → of_block.Refuted place claimed truth ≡ of_block.Pending → ⊥
    clash_refuted e = cc

pub settled_claims_stay : SettledClaimsStay
settled_claims_stay ops more c p valid sub =
    let among = blocks_grow c ops more sub in
    record {
      proved = λ is. claims.settled_claims_stay (blocks_in c ops) (blocks_in c more) p among (start_some p valid) (λ n pending. clash n (sym is ∙ pending)) ∙ is;
      refuted = λ place is. claims.settled_claims_stay (blocks_in c ops) (blocks_in c more) p among (start_some p valid) (λ n pending. clash_refuted place n (sym is ∙ pending)) ∙ is;
    }
  where
    clash : (n : ℕ) → of_claim.Proved ≡ of_claim.Pending n → ⊥
    clash n e = cc

    clash_refuted : (place n : ℕ) → of_claim.Refuted place ≡ of_claim.Pending n → ⊥
    clash_refuted place n e = cc
