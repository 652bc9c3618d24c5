-- What the changes of chunks leave.
use Rattle.std.proofs.Common.{◌≡◌, ◌≢◌, ℕ, ◌+◌, ◌<◌, zero, suc, List, [], ◌∷◌, ◌++◌, length, get_or, set, sym, ap, subst, ◌∙◌, arith, inl, inr}
use Rattle.std.specs.List.{insert, remove, AllWithin}
use Rattle.std.proofs.lemmas.List.{length-set, get_or-set_same, get_or-set_other}
use Rattle.std.proofs.lemmas.Bool.{cases_lt, cases_order}
use Rattle.std.proofs.lemmas.List.Edits.{length-insert, get_or-insert_at, get_or-insert_below, length-remove, get_or-remove_below, get_or-remove_above}
use Rattle.chunked.specs.Chunked.{joined}
use Rattle.chunked.proofs.Joining.{AreFilled, AllWithin-set}
use Rattle.chunked.proofs.Lists.{AllWithin-insert}

module _ {V X : Type 0} (f : V → List X) where
  pub filled-set : (vs : List V) (n : ℕ) (w : V) → 0 < length (f w) → AreFilled f vs → AreFilled f (set vs n w)
  filled-set vs n w some filled = subst (λ m. AllWithin (λ v. 0 < length (f v)) (set vs n w) 1 m) (sym (length-set vs n w)) (AllWithin-set (λ v. 0 < length (f v)) vs n 1 (length vs) w (omega arith) some filled)

  module _ (vs : List V) (n : ℕ) (d lower upper : V) (lt : n < length vs) where
    abbrev pub new : List V
    new = insert (set vs n lower) (suc n) upper

    pub length-new : length new ≡ length vs + 1
    length-new = length-insert (set vs n lower) (suc n) upper (omega (arith, length-set vs n lower)) ∙ ap (λ m. m + 1) (length-set vs n lower)

    pub filled-split : 0 < length (f lower) → 0 < length (f upper) → AreFilled f vs → AreFilled f new
    filled-split some more filled =
        let h = length-set vs n lower in
        subst (λ m. AllWithin (λ v. 0 < length (f v)) new 1 m) (sym length-new ∙ sym (let e : length new ≡ length new = omega arith in e))
        (AllWithin-insert (set vs n lower) (suc n) upper (omega (arith, h)) (λ v. 0 < length (f v)) 1 (length vs) (omega arith) (omega arith) more (subst (λ m. AllWithin (λ v. 0 < length (f v)) (set vs n lower) 1 m) h (filled-set vs n lower some filled)))

    pub lower-at : (e : V) → get_or new n e ≡ lower
    lower-at e = get_or-insert_below (set vs n lower) (suc n) upper e n (omega arith) (omega (arith, length-set vs n lower)) ∙ get_or-set_same vs n lower e lt

    pub upper-at : (e : V) → get_or new (suc n) e ≡ upper
    upper-at e = get_or-insert_at (set vs n lower) (suc n) upper e (omega (arith, length-set vs n lower))

  -- a list in place of an equal one
  pub same-joined : (vs : List V) (n : ℕ) (d w : V) → f w ≡ f (get_or vs n d) → n < length vs → joined f (set vs n w) ≡ joined f vs
  same-joined [] n d w e lt = absurd (omega arith)
  same-joined (v ∷ vs) zero d w e lt = ap (λ l. l ++ joined f vs) e
  same-joined (v ∷ vs) (suc n) d w e lt = ap (λ l. f v ++ l) (same-joined vs n d w e (omega arith))

  pub filled-same : (vs : List V) (n : ℕ) (d w : V) → f w ≡ f (get_or vs n d) → AreFilled f vs → AreFilled f (set vs n w)
  filled-same vs n d w e filled k d' lo hi =
      let in_range : k < length vs = omega (arith, length-set vs n w) in
      elim (cases_order k n) [
        | inl same ↦
            let lt : n < length vs = omega arith in
            subst (λ l. 0 < length l) (sym (ap (λ i. f (get_or (set vs n w) i d')) same ∙ ap f (get_or-set_same vs n w d' lt) ∙ e)) (filled n d (omega arith) lt)
        | inr other ↦ let ne : k ≢ n = elim other [ inl lt ↦ λ z. absurd (omega arith) | inr lt ↦ λ z. absurd (omega arith) ] in subst (λ v. 0 < length (f v)) (sym (get_or-set_other vs n k w d' ne)) (filled k d' lo in_range)
      ]

  -- a first chunk, which is empty
  pub joined-first : (vs : List V) (w : V) → length vs ≡ 0 → f w ≡ [] → joined f (vs ++ w ∷ []) ≡ joined f vs
  joined-first [] w none empty = ap (λ l. l ++ []) empty
  joined-first (v ∷ vs) w none empty = absurd (omega arith)

  pub filled-remove : (vs : List V) (n : ℕ) → n < length vs → AreFilled f vs → AreFilled f (remove vs n)
  filled-remove vs n lt filled k d lo hi =
      let fewer = length-remove vs n lt in
      elim (cases_lt k n) [
        | inl before ↦ subst (λ v. 0 < length (f v)) (sym (get_or-remove_below vs n d k before lt)) (filled k d lo (omega arith))
        | inr after ↦ subst (λ v. 0 < length (f v)) (sym (get_or-remove_above vs n d k after lt)) (filled (k + 1) d (omega arith) (omega arith))
      ]
