-- Two sets differ where there is a line.
use Rattle.std.proofs.Common.{◌≡◌, ℕ, true, false, not, List, [], ◌∷◌, ◌++◌, Option, Some, None, inl, inr, refl, sym, ap, ◌∙◌, subst}
use Rattle.std.specs.Prelude.{codes}
use Rattle.std.specs.List.{filter, flat_map}
use Rattle.std.specs.Option.{is_none, option_eq}
use Rattle.std.specs.Ordering.{is_eq}
use Rattle.std.proofs.lemmas.Cmp.{tied_itself}
use Rattle.std.proofs.lemmas.Bool.{cases_Bool, cond-true, cond-false}
use Rattle.oct_code.specs.Code.{Code, code_eq}
use Rattle.oct_code.specs.CodeOrder.{code_cmp_total}
use Rattle.oct_ops.specs.Body.{Operation}
use Rattle.oct_ops.specs.Games.{game_of, of_code}
use Rattle.oct_ops.specs.OrderLaws.{op_cmp_total, op_cmp_exact}
use Rattle.oct_ops.specs.Operation.{Dot}
use Rattle.oct_ops.specs.Operations.{Operations, contains, listed, union}
use Rattle.oct_ops.specs.SetLaws as laws
use Rattle.oct_ops.proofs.Members.{Has, Has-keep, Has-listed, In, In-filter, In-filter_source, In-listed, keep-has, same_set}
use Rattle.oct_pages.proofs.InGames.{In-games}
use Rattle.oct_pages.specs.Catalogue.{games}
use Rattle.oct_sheet.specs.Names.{author_name}
use Rattle.oct_sheet.specs.Sheet.{names_of}
use Rattle.oct_store.specs.Summary.{of_game}
use Rattle.oct_text.specs.Words.{Text}
use Rattle.oct_log.specs.Diff.{apart, diff_line, diff_text, game_part, has_no_game, rest_part, twice_line, twice_part}
use Rattle.oct_log.specs.Log.{named_line}
use Rattle.oct_log.specs.Twice.{is_twice, sides_of}
use Rattle.oct_log.specs.declared.twice.Sides.{Sides}

-- ---- texts that are empty

front_empty : (xs ys : Text) → xs ++ ys ≡ [] → xs ≡ []
front_empty [] ys h = refl
front_empty (x ∷ xs) ys h = cc

rest_empty : (xs ys : Text) → xs ++ ys ≡ [] → ys ≡ []
rest_empty [] ys h = h
rest_empty (x ∷ xs) ys h = cc

each_empty : {X : Type 0} (f : X → Text) (xs : List X) (x : X) → flat_map f xs ≡ [] → In x xs → f x ≡ []
each_empty f [] x h i = absurd i
each_empty f (y ∷ xs) x h i = elim i [
  | inl e ↦ ap f e ∙ front_empty (f y) (flat_map f xs) h
  | inr t ↦ each_empty f xs x (rest_empty (f y) (flat_map f xs) h) t
]

all_empty : {X : Type 0} (f : X → Text) (xs : List X) → ((x : X) → In x xs → f x ≡ []) → flat_map f xs ≡ []
all_empty f [] each = refl
all_empty f (x ∷ xs) each = (λ i. each x (inl refl) i ++ flat_map f xs) ∙ all_empty f xs (λ y i. each y (inr i))

-- ---- the line of an operation

-- of one that one set has alone, and of one that the other has alone
line_of_one : (one other : Operations) (name : Text) (o : Operation) → contains one o ≡ true → contains other o ≡ false → apart [] one other name o ≡ [] → ⊥
line_of_one one other name o here gone h =
    no_line (sym (cond-true (contains one o) _ _ here ∙ cond-false (contains other o) _ _ gone) ∙ h)
  where
    no_line : codes "- " ++ named_line name o ≡ [] → ⊥
    no_line e = cc

line_of_other : (one other : Operations) (name : Text) (o : Operation) → contains one o ≡ false → apart [] one other name o ≡ [] → ⊥
line_of_other one other name o gone h = no_line (sym (cond-false (contains one o) _ _ gone) ∙ h)
  where
    no_line : codes "+ " ++ named_line name o ≡ [] → ⊥
    no_line e = cc

-- of one that both have
no_line_of_both : (lead : Text) (ops : Operations) (name : Text) (o : Operation) → Has ops o → apart lead ops ops name o ≡ []
no_line_of_both lead ops name o has = cond-true (contains ops o) _ _ has ∙ cond-true (contains ops o) _ _ has

-- ---- where there is no line

its_code : (c : Code) (o : Operation) → game_of o ≡ Some c → of_code c o ≡ true
its_code c o is = ap (λ f. option_eq code_eq f (Some c)) is ∙ ap is_eq (tied_itself code_cmp_total c)

module _ (one other : Operations) (none : diff_text one other ≡ []) where
  abbrev all : Operations
  all = union one other

  abbrev names : ℕ → Text
  names = author_name (names_of (listed (union one other)))

  front_is_empty : flat_map (game_part one other names all) (games (listed all)) ++ rest_part one other names all ≡ []
  front_is_empty = front_empty (flat_map (game_part one other names all) (games (listed all)) ++ rest_part one other names all) (twice_part one other names all) none

  games_empty : flat_map (game_part one other names all) (games (listed all)) ≡ []
  games_empty = front_empty (flat_map (game_part one other names all) (games (listed all))) (rest_part one other names all) front_is_empty

  rest_is_empty : rest_part one other names all ≡ []
  rest_is_empty = rest_empty (flat_map (game_part one other names all) (games (listed all))) (rest_part one other names all) front_is_empty

  -- each operation of the two has an empty line
  no_line : (o : Operation) → Has all o → diff_line one other names o ≡ []
  no_line o has = by (game_of o) refl
    where
      by : (found : Option Code) → game_of o ≡ found → diff_line one other names o ≡ []
      by None is = each_empty (diff_line one other names) (filter has_no_game (listed all)) o rest_is_empty (In-filter has_no_game o (listed all) (In-listed all o has) (ap is_none is))
      by (Some c) is =
          each_empty (diff_line one other names) (listed (of_game all c)) o
          (each_empty (game_part one other names all) (games (listed all)) c games_empty (In-games c (listed all) o (In-listed all o has) is))
          (In-listed (of_game all c) o (keep-has (of_code c) all o has (its_code c o is)))

pub empty_of_the_same : (one other : Operations) → diff_text one other ≡ [] → one ≡ other
empty_of_the_same one other none = same_set one other forth back
  where
    forth : (o : Operation) → Has one o → Has other o
    forth o has = elim (cases_Bool (contains other o)) [
      | inl there ↦ there
      | inr gone ↦ absurd (line_of_one one other (author_name (names_of (listed (union one other))) o.dot.author) o has gone (no_line one other none o (laws.union_left op_cmp_total op_cmp_exact one other o has)))
    ]

    back : (o : Operation) → Has other o → Has one o
    back o has = elim (cases_Bool (contains one o)) [
      | inl there ↦ there
      | inr gone ↦ absurd (line_of_other one other (author_name (names_of (listed (union one other))) o.dot.author) o gone (no_line one other none o (laws.union_right op_cmp_total op_cmp_exact one other o has)))
    ]

-- ---- where both sets are the same

module _ (ops : Operations) where
  line_empty : (names : ℕ → Text) (o : Operation) → Has (union ops ops) o → diff_line ops ops names o ≡ []
  line_empty names o has = no_line_of_both [] ops (names o.dot.author) o (subst (λ s. Has s o) (laws.union_same op_cmp_total op_cmp_exact ops) has)

  twice_empty : (names : ℕ → Text) (sides : Dot → Sides) (o : Operation) → Has (union ops ops) o → twice_line ops ops names sides o ≡ []
  twice_empty names sides o has = elim (cases_Bool (is_twice (sides o.dot))) [
    | inl is ↦ cond-true (is_twice (sides o.dot)) _ _ is ∙ no_line_of_both (codes "used twice ") ops (names o.dot.author) o (subst (λ s. Has s o) (laws.union_same op_cmp_total op_cmp_exact ops) has)
    | inr not ↦ cond-false (is_twice (sides o.dot)) _ _ not
  ]

  all_lines_empty : (names : ℕ → Text) → flat_map (game_part ops ops names (union ops ops)) (games (listed (union ops ops))) ++ rest_part ops ops names (union ops ops) ++ twice_part ops ops names (union ops ops) ≡ []
  all_lines_empty names =
      let all = union ops ops in
      let of_games = all_empty (game_part ops ops names all) (games (listed all)) (λ c i. all_empty (diff_line ops ops names) (listed (of_game all c)) (λ o h. line_empty names o (Has-keep (of_code c) all o (Has-listed (of_game all c) o h)))) in
      let of_rest = all_empty (diff_line ops ops names) (filter has_no_game (listed all)) (λ o h. line_empty names o (Has-listed all o (In-filter_source has_no_game o (listed all) h).0)) in
      let of_twice = all_empty (twice_line ops ops names (sides_of ops ops (listed all))) (listed all) (λ o h. twice_empty names (sides_of ops ops (listed all)) o (Has-listed all o h)) in
      (λ i. of_games i ++ of_rest i ++ of_twice i)

pub the_same_is_empty : (ops : Operations) → diff_text ops ops ≡ []
the_same_is_empty ops = all_lines_empty ops (author_name (names_of (listed (union ops ops))))
