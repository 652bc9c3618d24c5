-- A game that is open while operations of it are issued.
use Rattle.std.proofs.Common.{arith, ◌≡◌, ℕ, ◌+◌, ◌-◌, ◌<◌, ◌≤◌, true, List, cond, min, Some, Ok, Err, sym, ap, ◌∙◌}
use Rattle.std.specs.Prelude.{unwrap_or}
use Rattle.std.specs.Ordering.{is_eq}
use Rattle.std.specs.Cmp.{tied_itself}
use Rattle.oct_code.specs.Code.{Code, code_eq}
use Rattle.oct_code.specs.CodeOrder.{code_cmp_total}
use Rattle.oct_code.specs.declared.limits.TheConstants.{LIMIT}
use Rattle.oct_ops.specs.Body as kind
use Rattle.oct_ops.specs.Body.{Body, Operation}
use Rattle.oct_ops.specs.Games.{game_of_body}
use Rattle.oct_ops.specs.Operation.{Block, Dot, claimed}
use Rattle.oct_ops.specs.Operations.{Operations, insert, listed}
use Rattle.oct_ops.specs.Sets as sets
use Rattle.oct_ops.specs.declared.limits.TheConstants.{MAX_ITEMS}
use Rattle.oct_pages.specs.Catalogue.{blocks_of, claims_of, if_some, under}
use Rattle.oct_pages.specs.GamesIn.{content_in}
use Rattle.oct_period.specs.GameContent.{GameContent, ledger_of, with_body as with_operation}
use Rattle.oct_record.specs.Content.{RecordContent}
use Rattle.oct_record.specs.Taking.{has_number, next_op}
use Rattle.oct_record.specs.declared.error.IssueError.TheVariants.{LastNumber}
use Rattle.oct_period.specs.Computing.{next_block}
use Rattle.oct_replica.proofs.Beside.{content-insert}
use Rattle.oct_replica.proofs.Inserting.{insert_option}
use Rattle.oct_verify.specs.Filing.{blocks_in}
use Rattle.oct_verify.specs.Known.{known}
use Rattle.oct_verify.specs.Next.{next_values}
use Rattle.census_issue.specs.Extending.{known_in}
use Rattle.census_issue.specs.Issuing.{with_body}
use Rattle.census_state.specs.declared.fault.Fault.TheVariants as fault

-- ---- one operation of the game more

own : (a c : Code) → Some a ≡ Some c → code_eq a c ≡ true
own a c same = ap (code_eq a) (sym (ap (λ o. unwrap_or o c) same)) ∙ ap is_eq (tied_itself code_cmp_total a)

pub game_next : (ops : Operations) (d : Dot) (body : Body) (c : Code) → game_of_body body ≡ Some c
    → content_in (insert ops (record { dot = d; body = body })) c ≡ with_operation (content_in ops c) d body
game_next ops d (kind.Block b) c same =
    content-insert ops (record { dot = d; body = kind.Block b }) c
    ∙ ap (λ t. record { code = c; blocks = insert_option (sets.set_of (blocks_of c (listed ops))) (under d (if_some t b)); claims = sets.set_of (claims_of c (listed ops)) }) (own b.code c same)
game_next ops d (kind.Period p) c same =
    content-insert ops (record { dot = d; body = kind.Period p }) c
    ∙ ap (λ t. record { code = c; blocks = sets.set_of (blocks_of c (listed ops)); claims = insert_option (sets.set_of (claims_of c (listed ops))) (under d (if_some t p)) }) (own p.code c same)
game_next ops d (kind.Note n) c same = cc
game_next ops d (kind.Removal r) c same = cc

-- ---- an operation that is issued

pub body_issued : (r new : RecordContent) (body : Body) (o : Operation) → o ≡ next_op r.ops r.author body → has_number r.ops r.author ≡ true → new ≡ record r { ops = insert r.ops o } → with_body r body ≡ Ok new
body_issued r new body o is room made =
    ap (λ b. cond b (Ok (record r { ops = insert r.ops (next_op r.ops r.author body) })) (Err (fault.Issue LastNumber))) room
    ∙ ap Ok (ap (λ x. record r { ops = insert r.ops x }) (sym is) ∙ sym made)

-- ---- what an open game knows

pub known_of : (ops : Operations) (c : Code) (game : GameContent) (k : ℕ) → k ≡ known (blocks_in (ledger_of game).blocks) → game ≡ content_in ops c → k ≡ known_in ops c
known_of ops c game k is same = is ∙ ap (λ (h : GameContent). known (blocks_in h.blocks)) same

-- the block of its next values
pub block_next : (ops : Operations) (c : Code) (game : GameContent) (block : Block) (start count : ℕ) (values : List ℕ) → game ≡ content_in ops c → start ≡ known_in ops c
    → values ≡ next_values game.code (blocks_in game.blocks) count → block ≡ claimed c start values → known_in ops c + count ≤ LIMIT → block ≡ next_block c (blocks_in (content_in ops c).blocks) count
block_next ops c game block start count values same is computed made within =
    made
    ∙ (λ i. claimed c (is i) ((computed ∙ ap (λ (h : GameContent). next_values h.code (blocks_in h.blocks) count) same) i))
    ∙ ap (λ n. claimed c (known_in ops c) (next_values c (blocks_in (content_in ops c).blocks) n)) (whole count (LIMIT - known_in ops c) (omega (arith, within)))
  where
    whole : (a b : ℕ) → a ≤ b → a ≡ min a b
    whole a b le = omega (arith, le)

-- there is room for the values that are wanted
pub room_for : (held k count n : ℕ) → k ≡ held → n ≡ min (count - k) MAX_ITEMS → k < count → count ≤ LIMIT → held + n ≤ LIMIT
room_for held k count n is size more most =
    let few : n ≤ count - k = less (count - k) MAX_ITEMS n size in
    omega (arith, is, few, more, most)
  where
    less : (a b n : ℕ) → n ≡ min a b → n ≤ a
    less a b n is = omega (arith, is)
