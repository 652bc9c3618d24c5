-- What a state file holds after a session.
use Rattle.std.proofs.Common.{arith, ◌≡◌, ℕ, ◌-◌, ◌==◌, true, length, Ok, Err, if◌then◌else◌, refl, sym, ap, ◌∙◌, eq-eqb}
use Rattle.oct_delta.specs.Text.{Bytes}
use Rattle.oct_ops.specs.Operations.{Operations, listed, union, IsSubset}
use Rattle.oct_join.specs.SetBounds.{subset_order}
use Rattle.oct_ops.specs.OrderLaws.{op_cmp_total, op_cmp_exact}
use Rattle.oct_ops.specs.SetLaws.{union_same, union_least, union_right}
use Rattle.oct_record.specs.Content.{RecordContent}
use Rattle.census_state.specs.Lines.{union_line}
use Rattle.census_state.specs.States.{rejoined, unchanged, united, IsHeldBefore}
use Rattle.census_state.specs.Steps.{◌>>=◌}
use Rattle.census_state.specs.Stored.{loaded, saved}
use Rattle.census_state.specs.declared.fault.Fault.TheVariants.{Author}

-- the union, under the author of what is kept, with its line
pub rejoin_saves : (state : Bytes) (held kept new : RecordContent) (text : Bytes) (before all : ℕ) → loaded state ≡ Ok kept → (kept.author == held.author) ≡ true → new.ops ≡ union kept.ops held.ops → new.author ≡ kept.author → before ≡ length (listed kept.ops) → all ≡ length (listed new.ops) → text ≡ union_line (all - before) all → rejoined state held ≡ saved new text
rejoin_saves state held kept new text before all load same ops author fewer more line =
    ap (λ read. read >>= λ r. if r.author == held.author then united r held.ops else Err Author) load
    ∙ ap (λ b. if b then united kept held.ops else Err Author) same
    ∙ (λ i. saved (record { author = sym author i; ops = sym ops i }) (union_line (length (listed (sym ops i)) - length (listed kept.ops)) (length (listed (sym ops i)))))
    ∙ ap (saved new) ((λ i. union_line (sym more i - sym fewer i) (sym more i)) ∙ sym line)

-- where the file says what is held, it stays as it is
pub rejoin_same : (state : Bytes) (held : RecordContent) → loaded state ≡ Ok held → rejoined state held ≡ saved held (unchanged held)
rejoin_same state held load =
    let count = length (listed held.ops) in
    let none : 0 ≡ count - count = omega (arith) in
    rejoin_saves state held held held (unchanged held) count count load (eq-eqb _ _ refl) (sym (union_same op_cmp_total op_cmp_exact held.ops)) refl refl refl
    (ap (λ new. union_line new count) none)

-- a union with a set that has all of the other one
union_within : (s t : Operations) → IsSubset s t → union s t ≡ t
union_within s t within = (subset_order op_cmp_total op_cmp_exact).antisymmetric _ _ (union_least op_cmp_total op_cmp_exact s t t within (λ o held. held)) (union_right op_cmp_total op_cmp_exact s t)

-- what the file says is held already, so that the union is what is held
pub rejoin_grows : (held kept : RecordContent) (text : Bytes) (before all : ℕ) → IsHeldBefore kept before held → all ≡ length (listed held.ops) → text ≡ union_line (all - before) all → united kept held.ops ≡ saved held text
rejoin_grows held kept text before all was more line =
    let grown : union kept.ops held.ops ≡ held.ops = union_within kept.ops held.ops was.all in
    (λ i. saved (record { author = was.author i; ops = grown i }) (union_line (length (listed (grown i)) - was.count i) (length (listed (grown i)))))
    ∙ ap (saved held) ((λ i. union_line (sym more i - before) (sym more i)) ∙ sym line)
