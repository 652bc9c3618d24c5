use Rattle.std.proofs.Common.{◌≡◌, ℕ, ◌+◌, ◌-◌, ◌^◌, ◌<◌, ◌≤◌, ◌∷◌, ◌++◌, drop, length, decimal, codes, arith, ap, ◌∙◌, sym, append_assoc}
use Rattle.std.proofs.lemmas.Fmt.{length-decimal-le}
use Rattle.std.proofs.lemmas.List.{drop-set, length-set, take_all, length-drop}
use Rattle.std.proofs.lemmas.Result.{on_ok_weaker}
use Rattle.oct_bfile.proofs.bfile.append_row.Goals as goal

-- a value has at most ten digits, and a number at most twenty
short : (v : ℕ) → v < 2 ^ 32 → length (decimal v) ≤ 10
short v small = length-decimal-le 10 v (omega arith) (omega (arith, small)) (omega (arith, small))

pub write_digits-value_start-requires : goal.write_digits-value_start-requires
write_digits-value_start-requires g c = rw c.from.ensures (omega (arith, short c.args.value c.ranges.value.fits), omega arith)

pub overflow_sub-line : goal.overflow_sub-line
overflow_sub-line g c =
    let few : length (decimal c.from.result) ≤ 10 = rw c.from.ensures (short c.args.value c.ranges.value.fits) in
    omega (arith, few, c.write_digits-value_start.ensures.start)

pub overflow_sub-value_start : goal.overflow_sub-value_start
overflow_sub-value_start g c =
    let few : length (decimal c.from.result) ≤ 10 = rw c.from.ensures (short c.args.value c.ranges.value.fits) in
    omega (arith, few, c.write_digits-value_start.ensures.start)

pub write_digits-start-requires : goal.write_digits-start-requires
write_digits-start-requires g c =
    let few : length (decimal c.from.result) ≤ 10 = rw c.from.ensures (short c.args.value c.ranges.value.fits) in
    let long = length-decimal-le 20 c.args.number (omega arith) (omega (arith, c.ranges.number.fits)) c.ranges.number.fits in
    let room = length-set c.write_digits-value_start.new.buf (c.write_digits-value_start.result - 1) 32 in
    (omega (arith, few, long, c.write_digits-value_start.ensures.start), omega (arith, room, c.write_digits-value_start.ensures.start, c.write_digits-value_start.auto.buf))

pub returns-clause-ok : goal.returns-clause-ok
returns-clause-ok g c =
    let few : length (decimal c.from.result) ≤ 10 = rw c.from.ensures (short c.args.value c.ranges.value.fits) in
    let front = c.write_digits-value_start in
    let at = front.result - 1 in
    let behind : at + 1 ≡ front.result = omega (arith, few, front.ensures.start) in
    let value : drop front.result front.new.buf ≡ decimal c.args.value ++ codes "\n" = front.ensures.written ∙ ap (λ v. decimal v ++ codes "\n") c.from.ensures in
    let spaced = drop-set front.new.buf at 32 (omega (arith, few, front.ensures.start, front.auto.buf)) ∙ ap (λ k. 32 ∷ drop k front.new.buf) behind ∙ ap (λ t. 32 ∷ t) value in
    let line = c.write_digits-start.ensures.written ∙ ap (λ t. decimal c.args.number ++ t) spaced in
    let all = take_all (32 - c.write_digits-start.result) (drop c.write_digits-start.result c.write_digits-start.new.buf) (omega (arith, length-drop c.write_digits-start.result c.write_digits-start.new.buf, c.write_digits-start.auto.buf)) in
    let grouped = append_assoc (decimal c.args.number ++ codes " ") (decimal c.args.value) (codes "\n") ∙ append_assoc (decimal c.args.number) (codes " ") (decimal c.args.value ++ codes "\n") in
    on_ok_weaker c.append_text.result (λ e. e ∙ ap (λ t. c.args.out.now.items ++ t) (all ∙ line ∙ sym grouped)) c.append_text.ensures.ok
