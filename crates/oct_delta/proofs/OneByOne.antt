-- Operations of a text, made one by one.
use Rattle.std.proofs.Common.{◌≡◌, ◌≢◌, ℕ, suc, ◌≤◌, List, [], ◌∷◌, Some, None, Ok, Err, refl, sym, ap, subst, ◌∙◌}
use Rattle.std.specs.Int.{w32}
use Rattle.oct_code.specs.declared.limits.TheConstants.{LIMIT}
use Rattle.oct_ops.specs.Body.{Operation}
use Rattle.oct_delta.specs.declared.fault.TextFault.{TextFault}
use Rattle.oct_delta.specs.Text.{Bytes}
use Rattle.oct_delta.specs.Delta.{IsList}
use Rattle.oct_delta.specs.Reading.{◌>>=◌, Read, number_at, op_at, chain_at}
use Rattle.oct_delta.specs.OneByOne.{ops_at_front, ops_left, what_is_read, IsTextOps}
use Rattle.oct_delta.proofs.Codecs.{bind_ok, done, ok_is}
use Rattle.oct_delta.proofs.Lists.{list_reads}
use Rattle.oct_delta.proofs.Loops.{chain_at-free}

-- what a list's text spells, after its count
pub begins : (limit : ℕ) → limit ≤ LIMIT → (list rest : Bytes) (n : ℕ) → number_at w32 list ≡ Ok (n, rest) → (ops : List Operation) → IsList limit list ops → IsTextOps limit n rest × IsList limit list (ops_left limit n rest)
begins limit low list rest n count ops is =
    let read : ops_at_front limit n rest ≡ Ok (ops, []) = list_reads limit low list rest n count ops is in
    let left : ops_left limit n rest ≡ ops = ap what_is_read read in (
      record { low = low; whole = read ∙ ap (λ (l : List Operation). done {A = List Operation × Bytes} (l, [])) (sym left) },
      subst (IsList limit list) (sym left) is,
    )

pub none_left : (limit n : ℕ) (bytes : Bytes) → n ≡ 0 → ops_left limit n bytes ≡ []
unfolding chain_at
none_left limit n bytes none = ap (λ (k : ℕ). ops_left limit k bytes) none

-- an operation is left, and the bytes begin with it
module _ (limit n : ℕ) (bytes : Bytes) (is : IsTextOps limit (suc n) bytes) where
  pub no_fault : (f : TextFault) → op_at limit bytes ≡ Err f → ⊥
  unfolding chain_at
  no_fault f wrong = no_err (sym opened ∙ is.whole)
    where
      opened : ops_at_front limit (suc n) bytes ≡ Err f
      opened = rw wrong refl

      no_err : Err f ≡ done {A = List Operation × Bytes} (ops_left limit (suc n) bytes, []) → ⊥
      no_err e = cc

  pub steps : (x : Operation) (after : Bytes) → op_at limit bytes ≡ Ok (x, after) → IsTextOps limit n after × (ops_left limit (suc n) bytes ≡ x ∷ ops_left limit n after)
  unfolding chain_at
  steps x after read =
      let opened : ops_at_front limit (suc n) bytes ≡ (chain_at (λ _. op_at limit) (Some x) n after >>= λ others. Ok (x ∷ others.0, others.1)) = rw read refl in
      let rest = bind_ok (chain_at (λ _. op_at limit) (Some x) n after) (λ others. let y : List Operation × Bytes = (x ∷ others.0, others.1) in Ok y) (ops_left limit (suc n) bytes, []) (sym opened ∙ is.whole) in
      let all = ok_is (x ∷ rest.0.0, rest.0.1) (ops_left limit (suc n) bytes, []) rest.2 in
      let whole : ops_at_front limit n after ≡ Ok rest.0 = chain_at-free (op_at limit) None (Some x) n after ∙ rest.1 in
      let left : ops_left limit n after ≡ rest.0.0 = ap what_is_read whole in
      let end : rest.0.1 ≡ [] = ap (λ (p : List Operation × Bytes). p.1) all in (
        record { low = is.low; whole = whole ∙ (λ i. done {A = List Operation × Bytes} (sym left i, end i)) },
        sym (ap (λ (p : List Operation × Bytes). p.0) all) ∙ ap (λ (l : List Operation). x ∷ l) (sym left),
      )

  pub one_is_due : ops_left limit (suc n) bytes ≢ []
  one_is_due none = by (op_at limit bytes) refl
    where
      by : (read : Read Operation) → op_at limit bytes ≡ read → ⊥
      by (Ok x) is = no_nil (sym none ∙ (steps x.0 x.1 is).1)
        where
          no_nil : {xs : List Operation} → [] ≡ x.0 ∷ xs → ⊥
          no_nil e = cc
      by (Err f) wrong = no_fault f wrong
