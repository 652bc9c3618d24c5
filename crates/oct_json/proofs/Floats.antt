-- A document has no floats.
use Rattle.std.proofs.Common.{◌≡◌, ℕ, Bool, true, false, ◌||◌, List, [], ◌∷◌, map, refl}
use Rattle.std.specs.Prelude.{Option, Some, None}
use Rattle.oct_ops.specs.Body as kind
use Rattle.oct_ops.specs.Body.{Body, Operation}
use Rattle.oct_ops.specs.Operation.{Dot}
use Rattle.oct_period.specs.declared.status.PeriodStatus.{PeriodStatus}
use Rattle.oct_period.specs.declared.status.PeriodStatus.TheVariants as of_claim
use Rattle.oct_store.specs.declared.author.Author.{Author}
use Rattle.oct_verify.specs.declared.status.Status.{Status}
use Rattle.oct_verify.specs.declared.status.Status.TheVariants as of_block
use Rattle.oct_json.specs.Json.{author_data, bare_game, block_by, block_data, count, document, fork_data, game_by, game_data, least_data, list, long_data, marked_block, marked_period, named, no_values, numbers_of, op_data, period_by, period_data, said_and_values, said_data, said_row, withdrawn_if}
use Rattle.oct_overview.specs.Line.{period_of}
use Rattle.oct_overview.specs.declared.line.LeastPeriod.{LeastPeriod}
use Rattle.oct_json.specs.Said.{SaidPeriod}
use Rattle.oct_said.specs.Noting.{said_of}
use Rattle.oct_said.specs.declared.noting.LongPeriod.{LongPeriod}
use Rattle.oct_sheet.specs.Sheet.{GameSheet, Sheet}
use Rattle.oct_pages.specs.declared.statuses.BlockRow.{BlockRow}
use Rattle.oct_pages.specs.declared.statuses.PeriodRow.{PeriodRow}
use Rattle.serde_json.specs.Data.{Data}
use Rattle.serde_json.specs.View.{items_of}
use Rattle.serde_json.specs.Written.{has_float, items_have_float, members_have_float}

items_float : {X : Type 0} (form : X → Data) → ((x : X) → has_float (form x) ≡ false) → (xs : List X) → items_have_float (items_of (map form xs)) ≡ false
items_float form none [] = refl
items_float form none (x ∷ xs) = λ i. none x i || items_float form none xs i

block_float : (b : BlockRow) (w : Bool) (s : Status) → has_float (withdrawn_if w (block_by b s)) ≡ false
block_float b true of_block.Proved = refl
block_float b true (of_block.Refuted place claimed truth) = refl
block_float b true of_block.Pending = refl
block_float b false of_block.Proved = refl
block_float b false (of_block.Refuted place claimed truth) = refl
block_float b false of_block.Pending = refl

period_float : (p : PeriodRow) (w : Bool) (s : PeriodStatus) → has_float (withdrawn_if w (period_by p s)) ≡ false
period_float p true of_claim.Proved = refl
period_float p true (of_claim.Refuted place) = refl
period_float p true (of_claim.Pending needs) = refl
period_float p false of_claim.Proved = refl
period_float p false (of_claim.Refuted place) = refl
period_float p false (of_claim.Pending needs) = refl

said_float : (long : LongPeriod) (name : List ℕ) → has_float (named name (long_data long)) ≡ false
said_float long [] = refl
said_float long (b ∷ name) = refl

-- what is said, and the values
values_float : (said : List SaidPeriod) (values : Data) → has_float values ≡ false → members_have_float (said_and_values said values) ≡ false
values_float [] values none = λ i. none i || false
values_float (s ∷ said) values none = λ i. items_float said_data (λ t. said_float t.long t.name) (s ∷ said) i || (none i || false)

op_float : (o : Operation) → has_float (op_data o) ≡ false
op_float o = by o.dot o.body
  where
    by : (d : Dot) (body : Body) → has_float (op_data (record { dot = d; body = body })) ≡ false
    by d (kind.Block b) = refl
    by d (kind.Period p) = refl
    by d (kind.Note n) = refl
    by d (kind.Removal r) = refl

least_float : (least : Option LeastPeriod) → has_float (least_data least) ≡ false
least_float None = refl
least_float (Some least) = refl

game_by_float : (notes : List Operation) (g : GameSheet) (least : Option LeastPeriod) (values : Data) → has_float values ≡ false → has_float (game_by notes g least values) ≡ false
game_by_float notes g least values none =
    λ i. items_float block_data (λ b. block_float b.row b.is_withdrawn b.row.status) (map (marked_block notes) g.blocks) i
    || (false || (false || (least_float least i
    || (items_float period_data (λ p. period_float p.row p.is_withdrawn p.row.status) (map (marked_period notes) g.periods) i
    || values_float (map (said_row notes) (said_of notes g.code)) values none i))))

pub bare_game_float : (notes : List Operation) (g : GameSheet) (least : Option LeastPeriod) → has_float (bare_game notes g least) ≡ false
bare_game_float notes g least = game_by_float notes g least no_values refl

game_float : (notes : List Operation) (g : GameSheet) → has_float (game_data notes g) ≡ false
game_float notes g = game_by_float notes g (period_of g) (list count g.values) (items_float count (λ n. refl) g.values)

author_float : (a : Author) (name : List ℕ) → has_float (named name (numbers_of a)) ≡ false
author_float a [] = refl
author_float a (b ∷ name) = refl

pub document_float : (s : Sheet) → has_float (document s) ≡ false
document_float s =
    λ i. items_float author_data (λ a. author_float a.author a.name) s.authors i || (false || (items_float fork_data (λ f. refl) s.forks i || (items_float (game_data s.remarks) (game_float s.remarks) s.games i || (items_float op_data op_float s.notes i || false))))
