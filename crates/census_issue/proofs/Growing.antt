-- Blocks of the next nim-values make them known.
use Rattle.std.proofs.Common.{arith, inl, inr, ◌≡◌, ℕ, zero, suc, ◌+◌, ◌-◌, ◌*◌, ◌≤◌, Bool, true, false, cond, min, List, length, Some, Result, Ok, Err, refl, sym, ap, subst, ◌∙◌, length-drop}
use Rattle.std.proofs.lemmas.Bool.{cases_lt, or_left, true≢false}
use Rattle.std.proofs.lemmas.Cmp.{tied_itself}
use Rattle.std.specs.List.{list_any}
use Rattle.std.specs.Ordering.{eq_by_cmp, is_eq}
use Rattle.oct_code.specs.Code.{Code, code_eq}
use Rattle.oct_code.specs.CodeOrder.{code_cmp_total}
use Rattle.oct_code.specs.declared.limits.TheConstants.{LIMIT}
use Rattle.oct_mex.specs.NimValues.{nim_values}
use Rattle.oct_mex.proofs.NimValues.{nim_values-length}
use Rattle.oct_ops.specs.Body.{Body, Operation}
use Rattle.oct_ops.specs.Body as kind
use Rattle.oct_ops.specs.Operation.{Dot, Block}
use Rattle.oct_ops.specs.Operations.{Operations, contains, insert, listed}
use Rattle.oct_ops.specs.Order.{op_cmp}
use Rattle.oct_ops.specs.OrderLaws.{op_cmp_total, op_cmp_exact}
use Rattle.oct_ops.specs.SetLaws.{contains-insert}
use Rattle.oct_ops.specs.declared.limits.TheConstants.{MAX_ITEMS}
use Rattle.oct_pages.specs.Catalogue.{block_in, blocks_of, if_some, under}
use Rattle.oct_text.proofs.Members.{any-listed, any-map}
use Rattle.oct_pages.specs.GamesIn.{content_in}
use Rattle.oct_period.specs.Computing.{next_block}
use Rattle.oct_record.specs.Content.{RecordContent}
use Rattle.oct_record.specs.Taking.{has_number, next_op}
use Rattle.oct_record.specs.declared.error.IssueError.TheVariants as issue
use Rattle.oct_ops.proofs.Members.{any-In, any_source, Has-listed, In-listed, insert-keeps}
use Rattle.oct_pages.proofs.InGames.{In-filter_map, In-filter_map_source}
use Rattle.oct_verify.specs.Filing.{Filing, blocks_in}
use Rattle.oct_verify.specs.FilingLaws.{filing_cmp_total, filing_cmp_exact}
use Rattle.oct_verify.specs.Known.{end, is_shown, is_true, shows}
use Rattle.oct_verify.specs.Next.{next_values}
use Rattle.oct_verify.proofs.KnownLaws.{known_is, shows-place}
use Rattle.oct_verify.proofs.Verdicts.{next_is_true}
use Rattle.census_issue.specs.Extending.{Extended, ExtendedIsKnown, extended_by, extended_to, known_in, with_values}
use Rattle.census_state.specs.Steps.{◌>>=◌}
use Rattle.census_state.specs.declared.fault.Fault.{Fault}
use Rattle.census_state.specs.declared.fault.Fault.TheVariants as fault
use Rattle.census_issue.proofs.Issuance.{enough, none_left, wants_more}

-- the blocks that a set has of a game
abbrev blocks_at : Operations → Code → List Block
blocks_at ops c = blocks_in (content_in ops c).blocks

-- a true block of the set has the place
abbrev is_held : Operations → Code → ℕ → Bool
is_held ops c n = list_any (λ (f : Filing). shows n f.1) (blocks_of c (listed ops))

shown_held : (ops : Operations) (c : Code) (n : ℕ) → is_shown (blocks_at ops c) n ≡ is_held ops c n
shown_held ops c n =
    any-map (shows n) (λ (f : Filing). f.1) _
    ∙ any-listed filing_cmp_total filing_cmp_exact (λ (f : Filing). shows n f.1) (blocks_of c (listed ops))

-- ---- one operation more

held_still : (ops : Operations) (o : Operation) (c : Code) (n : ℕ) → is_held ops c n ≡ true → is_held (insert ops o) c n ≡ true
held_still ops o c n held =
    let filing = any_source (λ (f : Filing). shows n f.1) (blocks_of c (listed ops)) held in
    let op = In-filter_map_source (block_in c) (listed ops) filing.0 filing.1 in
    let stays = In-listed (insert ops o) op.0 (insert-keeps ops o op.0 (Has-listed ops op.0 op.1)) in
    any-In (λ (f : Filing). shows n f.1) (blocks_of c (listed (insert ops o))) filing.0 (In-filter_map (block_in c) (listed (insert ops o)) op.0 filing.0 stays op.2) filing.2

inserted : (ops : Operations) (o : Operation) → contains (insert ops o) o ≡ true
inserted ops o = contains-insert op_cmp_total op_cmp_exact ops o o ∙ or_left (eq_by_cmp op_cmp o o) (contains ops o) (ap is_eq (tied_itself op_cmp_total o))

held_new : (ops : Operations) (o : Operation) (c : Code) (d : Dot) (b : Block) (n : ℕ) → block_in c o ≡ Some (d, b) → shows n b ≡ true → is_held (insert ops o) c n ≡ true
held_new ops o c d b n own shown =
    any-In (λ (f : Filing). shows n f.1) (blocks_of c (listed (insert ops o))) (d, b)
    (In-filter_map (block_in c) (listed (insert ops o)) o (d, b) (In-listed (insert ops o) o (inserted ops o)) own) shown

-- a true block that starts at the known length makes its places known
known_grows : (ops : Operations) (o : Operation) (c : Code) (d : Dot) (b : Block) → block_in c o ≡ Some (d, b) → is_true b ≡ true → b.start ≡ known_in ops c → end b ≤ known_in (insert ops o) c
known_grows ops o c d b own right starts =
    let more = insert ops o in
    let old = known_is (blocks_at ops c) in
    let new = known_is (blocks_at more c) in
    let unheld : is_held more c (known_in more c) ≡ false = sym (shown_held more c (known_in more c)) ∙ new.greatest in
    elim (cases_lt (known_in more c) (end b)) [
      | inr upto ↦ upto
      | inl less ↦ elim (cases_lt (known_in more c) (known_in ops c)) [
        | inl before ↦
            let was = sym (shown_held ops c (known_in more c)) ∙ old.shown (known_in more c) new.some before in
            absurd (true≢false (sym (held_still ops o c (known_in more c) was) ∙ unheld))
        | inr from ↦
            let here = shows-place b (known_in more c) (omega (arith, starts, from)) less right in
            absurd (true≢false (sym (held_new ops o c d b (known_in more c) own here) ∙ unheld))
      ]
    ]

-- ---- the next block

own_block : (c : Code) (d : Dot) (b : Block) → b.code ≡ c → block_in c (record { dot = d; body = kind.Block b }) ≡ Some (d, b)
own_block c d b is = ap (λ t. under d (if_some t b)) (ap (λ q. code_eq q c) is ∙ ap is_eq (tied_itself code_cmp_total c))

next_grows : (ops : Operations) (author count : ℕ) (c : Code) → known_in ops c + count ≤ LIMIT
    → known_in ops c + count ≤ known_in (insert ops (next_op ops author (kind.Block (next_block c (blocks_at ops c) count)))) c
next_grows ops author count c fits =
    let k = known_in ops c in
    let room = min count (LIMIT - k) in
    let b = next_block c (blocks_at ops c) count in
    let o = next_op ops author (kind.Block b) in
    let all : room ≡ count = omega (arith, fits) in
    let size : length (next_values c (blocks_at ops c) room) ≡ room = omega (arith, length-drop k (nim_values c (k + room)), nim_values-length c (k + room)) in
    let grows = known_grows ops o c o.dot b (own_block c o.dot b refl) (next_is_true c (blocks_at ops c) room) refl in
    omega (arith, all, size, grows)

-- the replica that a block was issued on
values_issued : (r next : RecordContent) (c : Code) (count : ℕ) → known_in r.ops c + count ≤ LIMIT → with_values r c count ≡ Ok next → known_in r.ops c + count ≤ known_in next.ops c
values_issued r next c count fits made = by (has_number r.ops r.author) made
  where
    by : (b : Bool) → cond b (Ok (record r { ops = insert r.ops (next_op r.ops r.author (kind.Block (next_block c (blocks_at r.ops c) count))) })) (Err (fault.Issue issue.LastNumber)) ≡ Ok next → known_in r.ops c + count ≤ known_in next.ops c
    by true is =
        let same : record r { ops = insert r.ops (next_op r.ops r.author (kind.Block (next_block c (blocks_at r.ops c) count))) } ≡ next = cc in
        subst (λ (q : RecordContent). known_in r.ops c + count ≤ known_in q.ops c) same (next_grows r.ops r.author count c fits)
    by false is = absurd cc

-- ---- blocks one after another

is_same : (x y : Extended) → ◌≡◌ {A = Result Extended Fault} (Ok x) (Ok y) → x ≡ y
is_same x y e = cc

-- the second step was taken on what the first one gave
step_taken : {A B E : Type 0} (step : Result A E) (next : A → Result B E) (y : B) → (step >>= next) ≡ Ok y → (x : A) × (step ≡ Ok x) × (next x ≡ Ok y)
step_taken (Ok x) next y is = (x, refl, is)
step_taken (Err e) next y is = absurd cc

grown : (blocks : ℕ) (c : Code) (count : ℕ) (r : RecordContent) (issued : ℕ) (e : Extended) → count ≤ LIMIT → count ≤ known_in r.ops c + blocks * MAX_ITEMS
    → extended_by blocks c count r issued ≡ Ok e → count ≤ known_in e.replica.ops c
grown zero c count r issued e fits near is =
    let same : extended_to r issued ≡ e = is_same _ _ (sym (none_left c count r issued) ∙ is) in
    subst (λ (x : Extended). count ≤ known_in x.replica.ops c) same (omega (arith, near))
grown (suc blocks) c count r issued e fits near is = elim (cases_lt (known_in r.ops c) count) [
  | inr upto ↦ subst (λ (x : Extended). count ≤ known_in x.replica.ops c) (is_same _ _ (sym (enough (suc blocks) c count r issued upto) ∙ is)) upto
  | inl less ↦
      let n = min (count - known_in r.ops c) MAX_ITEMS in
      let step = step_taken (with_values r c n) (λ next. extended_by blocks c count next (issued + 1)) e (sym (wants_more (suc blocks) blocks c count r issued refl less) ∙ is) in
      let room : known_in r.ops c + n ≤ LIMIT = omega (arith, less, fits) in
      let more : known_in r.ops c + n ≤ known_in step.0.ops c = values_issued r step.0 c n room step.1 in
      grown blocks c count step.0 (issued + 1) e fits (omega (arith, near, more, less)) step.2
]

pub extended_is_known : ExtendedIsKnown
extended_is_known c count r e fits is = let some = (known_is (blocks_at r.ops c)).some in grown 64 c count r 0 e fits (omega (arith, some, fits)) is
