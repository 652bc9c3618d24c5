-- Reading from left to right: a value and the bytes after it, or why there is none.
use Rattle.std.specs.Prelude.{◌≡◌, ℕ, zero, suc, ◌+◌, List, [], ◌∷◌, ◌++◌, length, take, drop, Option, Some, None, is_none, Result, Ok, Err, is_ok, Bool, true, ◌&&◌, nat_lt, nat_le, ◌==◌, if◌then◌else◌}
use Rattle.std.specs.Int.{Width, w16, w32, byte_len, from_be_bytes}
use Rattle.std.specs.declared.cmp.Ordering.{Ordering}
use Rattle.std.specs.Ordering.{is_lt}
use Rattle.oct_code.specs.Code.{Code}
use Rattle.oct_code.specs.DigitFaults.{digits_fault}
use Rattle.oct_ops.specs.DotOrder.{dot_cmp}
use Rattle.oct_ops.specs.Faults.{is_dot, is_name, is_text, period_fault}
use Rattle.oct_ops.specs.Limits.{keeps_limit}
use Rattle.oct_ops.specs.Operation.{Dot, Block, Period, Note, Removal}
use Rattle.oct_ops.specs.Order.{op_cmp}
use Rattle.oct_ops.specs.Body.{Body, Operation}
use Rattle.oct_ops.specs.Body as kind
use Rattle.oct_ops.specs.declared.kinds.TheConstants.{BLOCK, PERIOD, NOTE, REMOVAL}
use Rattle.oct_ops.specs.declared.limits.TheConstants.{MAX_ITEMS}
use Rattle.oct_delta.specs.declared.fault.TextFault.{TextFault}
use Rattle.oct_delta.specs.declared.fault.TextFault.TheVariants.{Short, Malformed}
use Rattle.oct_delta.specs.declared.fault.ReadError.{ReadError}
use Rattle.oct_delta.specs.declared.fault.ReadError.TheVariants as errors
use Rattle.oct_delta.specs.declared.input.Front.{Front}
use Rattle.oct_delta.specs.Text.{Bytes}

infixl 10 ◌>>=◌
abbrev pub ◌>>=◌ : {A B : Type 0} → Result A TextFault → (A → Result B TextFault) → Result B TextFault
(Ok x) >>= f = f x
(Err e) >>= f = Err e

-- what a reader of this type answers
abbrev pub Read : Type 0 → Type 0
Read A = Result (A × Bytes) TextFault

-- the value, where it passes
abbrev pub checked : {A : Type 0} → Bool → A → Bytes → Read A
checked passes x rest = if passes then Ok (x, rest) else Err Malformed

abbrev pub byte_at : Bytes → Read ℕ
byte_at [] = Err Short
byte_at (b ∷ rest) = Ok (b, rest)

abbrev pub number_at : Width → Bytes → Read ℕ
number_at w bytes = if nat_lt (length bytes) (byte_len w) then Err Short else Ok (from_be_bytes w (take (byte_len w) bytes), drop (byte_len w) bytes)

abbrev pub bytes_at : ℕ → Bytes → Read Bytes
bytes_at count bytes = if nat_lt (length bytes) count then Err Short else Ok (take count bytes, drop count bytes)

-- so many items, each read in sight of the one before
unfoldable pub chain_at : {A : Type 0} → (Option A → Bytes → Read A) → Option A → ℕ → Bytes → Read (List A)
chain_at step before zero bytes = Ok ([], bytes)
chain_at step before (suc count) bytes = do
  first ← step before bytes
  others ← chain_at step (Some first.0) count first.1
  Ok (first.0 ∷ others.0, others.1)

abbrev pub numbers_at : ℕ → Bytes → Read (List ℕ)
numbers_at count bytes = chain_at (λ _. number_at w32) None count bytes

-- the first item may follow anything; each other one is above the one before
abbrev pub follows : {A : Type 0} → (A → A → Ordering) → Option A → A → Bool
follows cmp None x = true
follows cmp (Some before) x = is_lt (cmp before x)

-- an item that follows the one before
unfoldable pub next_at : {A : Type 0} → (A → A → Ordering) → (Bytes → Read A) → Option A → Bytes → Read A
next_at cmp item before bytes = do
  x ← item bytes
  checked (follows cmp before x.0) x.0 x.1

unfoldable pub code_at : Bytes → Read Code
code_at bytes = do
  head ← byte_at bytes
  count ← byte_at head.1
  digits ← bytes_at count.0 count.1
  let code : Code = record { head = head.0; digits = digits.0 } in checked (is_ok (digits_fault head.0 digits.0)) code digits.1

unfoldable pub dot_at : Bytes → Read Dot
dot_at bytes = do
  author ← number_at w32 bytes
  number ← number_at w32 author.1
  let dot : Dot = record { author = author.0; number = number.0 } in checked (is_dot dot) dot number.1

-- how many items a list of a body may have
abbrev pub is_count : ℕ → Bool
is_count count = nat_le 1 count && nat_le count MAX_ITEMS

-- a block of so many values from this place on, in a game of so many places
abbrev pub is_range : ℕ → ℕ → ℕ → Bool
is_range limit start count = is_count count && nat_le (start + count) limit

-- what stands before the values of a block
unfoldable pub front_at : ℕ → Bytes → Read Front
front_at limit bytes = do
  code ← code_at bytes
  start ← number_at w32 code.1
  count ← number_at w16 start.1
  checked (is_range limit start.0 count.0) (record { code = code.0; start = start.0; count = count.0 }) count.1

unfoldable pub block_at : ℕ → Bytes → Read Block
block_at limit bytes = do
  front ← front_at limit bytes
  values ← numbers_at front.0.count front.1
  Ok (record { code = front.0.code; start = front.0.start; values = values.0 }, values.1)

-- a claim within the limit
abbrev pub is_claim : ℕ → Period → Bool
is_claim limit p = is_none (period_fault p) && keeps_limit limit (kind.Period p)

unfoldable pub period_at : ℕ → Bytes → Read Period
period_at limit bytes = do
  code ← code_at bytes
  start ← number_at w32 code.1
  period ← number_at w32 start.1
  let claim : Period = record { code = code.0; start = start.0; period = period.0 } in checked (is_claim limit claim) claim period.1

unfoldable pub note_at : Bytes → Read Note
note_at bytes = do
  name_length ← byte_at bytes
  name ← bytes_at name_length.0 name_length.1
  text_length ← byte_at name.1
  text ← bytes_at text_length.0 text_length.1
  checked (is_name name.0 && is_text text.0) (record { name = name.0; text = text.0 }) text.1

unfoldable pub dot_count_at : Bytes → Read ℕ
dot_count_at bytes = do
  count ← number_at w16 bytes
  checked (is_count count.0) count.0 count.1

-- dots, of which each is above the one before
abbrev pub dots_at : ℕ → Bytes → Read (List Dot)
dots_at count bytes = chain_at (next_at dot_cmp dot_at) None count bytes

unfoldable pub removal_at : Bytes → Read Removal
removal_at bytes = do
  count ← dot_count_at bytes
  dots ← dots_at count.0 count.1
  Ok (record { dots = dots.0 }, dots.1)

unfoldable pub body_at : ℕ → ℕ → Bytes → Read Body
body_at limit number bytes =
    if number == BLOCK then (block_at limit bytes >>= λ block. Ok (kind.Block block.0, block.1))
    else if number == PERIOD then (period_at limit bytes >>= λ period. Ok (kind.Period period.0, period.1))
    else if number == NOTE then (note_at bytes >>= λ note. Ok (kind.Note note.0, note.1))
    else if number == REMOVAL then (removal_at bytes >>= λ removal. Ok (kind.Removal removal.0, removal.1))
    else Err Malformed

unfoldable pub op_at : ℕ → Bytes → Read Operation
op_at limit bytes = do
  dot ← dot_at bytes
  number ← byte_at dot.1
  body ← body_at limit number.0 number.1
  Ok (record { dot = dot.0; body = body.0 }, body.1)

-- an operation that follows the one before
abbrev pub next_op_at : ℕ → Option Operation → Bytes → Read Operation
next_op_at limit = next_at op_cmp (op_at limit)

-- operations, of which each is above the one before
abbrev pub ops_at : ℕ → ℕ → Bytes → Read (List Operation)
ops_at limit count bytes = chain_at (next_op_at limit) None count bytes

-- a count, and then so many operations
abbrev pub list_at : ℕ → Bytes → Read (List Operation)
list_at limit bytes = do
  count ← number_at w32 bytes
  ops_at limit count.0 count.1

-- ---- what a function returned, and what reading gives

-- What a function returned, seen by view, is what reading gives.
abbrev pub Gives : {X Y : Type 0} → (X → Y) → Result X TextFault → Result Y TextFault → Type 0
Gives view (Ok x) read = read ≡ Ok (view x)
Gives view (Err e) read = read ≡ Err e

-- The same, unless memory ran out.
abbrev pub Fails : {Y : Type 0} → ReadError → Result Y TextFault → Type 0
Fails errors.Memory read = Unit {0}
Fails (errors.Fault f) read = read ≡ Err f

abbrev pub GivesIfRoom : {X Y : Type 0} → (X → Y) → Result X ReadError → Result Y TextFault → Type 0
GivesIfRoom view (Ok x) read = read ≡ Ok (view x)
GivesIfRoom view (Err e) read = Fails e read

-- the bytes after what is read
abbrev pub skipped : {A : Type 0} → Read A → Result Bytes TextFault
skipped (Ok x) = Ok x.1
skipped (Err e) = Err e

-- what was read before, and what is still read
abbrev pub with_front : {A : Type 0} → List A → Read (List A) → Read (List A)
with_front front read = read >>= λ x. Ok (front ++ x.0, x.1)
