-- What a look-up in the first nim-values gives.
use Rattle.std.proofs.Common.{◌≡◌, ℕ, ◌+◌, ◌-◌, ◌≤◌, Option, Some, None, Bor, cond, get_or, nat_lt, take, drop, sym, ap, ◌∙◌, arith}
use Rattle.std.specs.Option.{is_some, option_copied, IfSome}
use Rattle.std.proofs.lemmas.Bool.{ltb-true}
use Rattle.std.proofs.lemmas.List.{drop-take, get_or_default}
use Rattle.oct_code.specs.Code.{Code}
use Rattle.oct_mex.specs.NimValues.{nim_value, nim_values}
use Rattle.oct_mex.proofs.NimValues.{nim_values-at, nim_values-length, nim_values-take}

-- a look-up in the values below a length
pub looked_up : (c : Code) (len n : ℕ) (o : Option (Bor ℕ)) → is_some o ≡ nat_lt n len → IfSome o (λ x. x.now ≡ get_or (nim_values c len) n x.now)
    → option_copied o ≡ cond (nat_lt n len) (Some (nim_value c n)) None
looked_up c len n None e h = ap (λ b. cond b (Some (nim_value c n)) None) e
looked_up c len n (Some x) e h =
    let low = ltb-true n len (sym e) in
    ap Some (h ∙ get_or_default (nim_values c len) n x.now 0 (omega (arith, nim_values-length c len)) ∙ nim_values-at c len n low) ∙ ap (λ b. cond b (Some (nim_value c n)) None) e

-- a part of the values ends with the part
pub part_of_values : (c : Code) (len start count : ℕ) → start + count ≤ len → take (start + count - start) (drop start (nim_values c len)) ≡ drop start (nim_values c (start + count))
part_of_values c len start count le =
    ap (λ n. take n (drop start (nim_values c len))) (let e : start + count - start ≡ count = omega arith in e)
    ∙ sym (drop-take start count (nim_values c len)) ∙ ap (drop start) (nim_values-take c len (start + count) le)
