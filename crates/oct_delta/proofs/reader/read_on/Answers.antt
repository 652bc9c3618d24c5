use Rattle.std.proofs.Common.{◌≡◌, ◌-◌, ◌≤◌, ℕ, List, length, ap, sym, ◌∙◌, Some, arith}
use Rattle.std.proofs.lemmas.Bool.{eqb-true}
use Rattle.std.proofs.lemmas.List.{nil_from_length}
use Rattle.oct_delta.specs.Reading.{with_front}
use Rattle.oct_delta.specs.Streaming.{whole_at, last_of}
use Rattle.oct_delta.proofs.Pieces.{has_tag, reads_on, reads_on_rest, reads_on_refused, left_at_end, left_within, kept_is, fails_fault}
use Rattle.oct_delta.proofs.reader.read_on.Goals as goal
use Rattle.oct_delta.proofs.reader.read_on.Goals.{else-len-count-via-then-len-count+else-not-is_empty, else-len-count-via-else-len-count}

pub returns-in-Err-Fault : goal.returns-in-Err-Fault
returns-in-Err-Fault g c =
    let p = c.args.arrived in
    let read = λ (limit : ℕ). with_front p.ops.items (whole_at limit (last_of p.ops.items) (p.count - length p.ops.items) c.new-input.result) in (
      has_tag p.edition _,
      reads_on_refused p.edition p.count p.ops.items p.rest.items c.new-input.result c.in-Err-Fault.field-0-0 c.requires (c.new-input.ensures.value ∙ c.deref.ensures.value) c.new-input.ensures.bytes
          (sym (ap read c.limit.ensures.value) ∙ fails_fault c.in-Err-Fault.field-0 c.in-Err-Fault.field-0-0 (read c.limit.result) c.in-Err-Fault.field-0-is c.in-Err-Fault.ensures),
    )

pub returns-then-not-is_empty : goal.returns-then-not-is_empty
returns-then-not-is_empty g c =
    let p = c.args.arrived in
    let read = λ (limit : ℕ). with_front p.ops.items (whole_at limit (last_of p.ops.items) (p.count - length p.ops.items) c.new-input.result) in
    let full : length c.whole_ops.new.ops.items ≡ p.count = omega (arith, c.len.ensures, c.if-len-count.true, c.whole_ops.new.ops.ok) in (
      has_tag p.edition _,
      reads_on_rest p.edition p.count p.ops.items p.rest.items c.new-input.result c.whole_ops.new.ops.items c.whole_ops.new.self c.requires (c.new-input.ensures.value ∙ c.deref.ensures.value) c.new-input.ensures.bytes
          (sym (ap read c.limit.ensures.value) ∙ c.in-Ok.ensures) full (sym c.is_empty.ensures ∙ c.if-not-is_empty.true),
    )

pub overflow_sub-taken : goal.overflow_sub-taken
overflow_sub-taken g c =
    let p = c.args.arrived in
    let read = λ (limit : ℕ). with_front p.ops.items (whole_at limit (last_of p.ops.items) (p.count - length p.ops.items) c.new-input.result) in
    let left = left_at_end p.edition p.count p.ops.items p.rest.items c.new-input.result c.whole_ops.new.ops.items c.whole_ops.new.self (c.new-input.ensures.value ∙ c.deref.ensures.value) c.new-input.ensures.bytes (sym (ap read c.limit.ensures.value) ∙ c.in-Ok.ensures) in
    let within : length c.rest.result.now ≤ length p.rest.items = left_within left.0 c.whole_ops.new.self p.rest.items c.rest.result.now left.1 c.rest.ensures.rest in
    omega (arith, within, c.len-2.ensures, p.rest.ok)

pub returns : goal.returns
returns g c =
    let p = c.args.arrived in
    let read = λ (limit : ℕ). with_front p.ops.items (whole_at limit (last_of p.ops.items) (p.count - length p.ops.items) c.new-input.result) in
    let same = sym (ap read c.limit.ensures.value) ∙ c.in-Ok.ensures in
    let left = left_at_end p.edition p.count p.ops.items p.rest.items c.new-input.result c.whole_ops.new.ops.items c.whole_ops.new.self (c.new-input.ensures.value ∙ c.deref.ensures.value) c.new-input.ensures.bytes same in
    let len : c.len-2.result ≡ length p.rest.items = omega (arith, c.len-2.ensures, p.rest.ok) in
    let made = reads_on p.edition p.count p.ops.items p.rest.items c.new-input.result c.whole_ops.new.ops.items c.whole_ops.new.self c.in_ok-rest.rest.items c.requires (c.new-input.ensures.value ∙ c.deref.ensures.value) c.new-input.ensures.bytes same
    (λ full. elim c.else-len-count.branch [
      | else-len-count-via-then-len-count+else-not-is_empty w ↦ nil_from_length c.whole_ops.new.self (eqb-true _ _ (sym w.is_empty.ensures ∙ w.if-not-is_empty.false))
      | else-len-count-via-else-len-count w ↦ absurd (omega (arith, full, w.if-len-count.false, c.len.ensures, c.whole_ops.new.ops.ok))
    ])
    (kept_is left.0 c.whole_ops.new.self p.rest.items c.in_ok-rest.rest.items c.rest.result.now c.len-2.result left.1 c.rest.ensures.rest len c.in_ok-rest.ensures) in
    (made.0, ap (λ (z : List ℕ). Some z) made.1)
