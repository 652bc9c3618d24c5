-- A loop that copies the operations that pass a test.
use Rattle.std.proofs.Common.{◌≡◌, Bool, true, false, cond, List, [], ◌∷◌, ◌++◌, append_assoc, sym, ap, ◌∙◌}
use Rattle.std.proofs.lemmas.List.{append-nil}
use Rattle.std.specs.List.{filter}
use Rattle.oct_ops.specs.Body.{Operation}
use Rattle.oct_ops.specs.Operations.{Operations, IsRising, keep, listed}
use Rattle.oct_ops.specs.Order.{op_cmp}
use Rattle.oct_ops.specs.OrderLaws.{op_cmp_total, op_cmp_exact}
use Rattle.oct_ops.specs.SetLaws.{listed-keep, listed-rises}

module _ (all rest : List Operation) (o : Operation) (next : all ≡ o ∷ rest) (done : List Operation) where
  module _ (copy : Operation) (more : List Operation) (added : more ≡ done ++ (copy ∷ [])) (same : copy ≡ o) where
    grown : (after : List Operation) → more ++ after ≡ done ++ (o ∷ after)
    grown after = ap (λ l. l ++ after) (added ∙ ap (λ x. done ++ (x ∷ [])) same) ∙ append_assoc done (o ∷ []) after

    pub one_more : (whole : List Operation) → done ++ all ≡ whole → more ++ rest ≡ whole
    one_more whole before = grown rest ∙ sym (ap (λ l. done ++ l) next) ∙ before

    pub one_passes : (p : Operation → Bool) (whole : List Operation) → done ++ filter p all ≡ whole → p o ≡ true → more ++ filter p rest ≡ whole
    one_passes p whole before passes =
        grown (filter p rest)
        ∙ sym (ap (λ l. done ++ l) (ap (filter p) next ∙ ap (λ b. cond b (o ∷ filter p rest) (filter p rest)) passes)) ∙ before

  pub one_fails : (p : Operation → Bool) (whole : List Operation) → done ++ filter p all ≡ whole → p o ≡ false → done ++ filter p rest ≡ whole
  one_fails p whole before fails = sym (ap (λ l. done ++ l) (ap (filter p) next ∙ ap (λ b. cond b (o ∷ filter p rest) (filter p rest)) fails)) ∙ before

pub all_kept : (s : Operations) (done rest : List Operation) → rest ≡ [] → done ++ rest ≡ listed s → done ≡ listed s
all_kept s done rest none before = sym (append-nil done) ∙ sym (ap (λ l. done ++ l) none) ∙ before

pub those_kept : (p : Operation → Bool) (s : Operations) (done rest : List Operation) → rest ≡ [] → done ++ filter p rest ≡ filter p (listed s) → done ≡ listed (keep p s)
those_kept p s done rest none before =
    sym (append-nil done) ∙ sym (ap (λ l. done ++ filter p l) none) ∙ before ∙ sym (listed-keep op_cmp_total op_cmp_exact p s)

-- the list of a set rises
pub rising_as : (s : Operations) (done : List Operation) → done ≡ listed s → IsRising done
rising_as s done is = ap (Rattle.oct_ops.specs.Sets.rises op_cmp) is ∙ listed-rises op_cmp s
