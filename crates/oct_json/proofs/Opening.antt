-- The values come last in the text of a game, so that what stands before them is the same whatever they are.
use Rattle.std.proofs.Common.{◌≡◌, ℕ, ◌-◌, ◌≤◌, Bool, true, false, List, [], ◌∷◌, ◌++◌, length, map, take, sym, ap, ◌∙◌, append_assoc, length-append, arith}
use Rattle.std.specs.Prelude.{codes, Option}
use Rattle.std.proofs.lemmas.List.{take_at}
use Rattle.json.specs.Print.{quoted}
use Rattle.oct_code.specs.CodeText.{code_text}
use Rattle.oct_ops.specs.Body.{Operation}
use Rattle.oct_overview.specs.declared.line.LeastPeriod.{LeastPeriod}
use Rattle.oct_said.specs.Noting.{said_of}
use Rattle.oct_sheet.specs.Sheet.{GameSheet}
use Rattle.oct_json.specs.Json.{bare_game, block_data, count, game_by, least_data, list, marked_block, marked_period, no_values, period_data, said_and_values, said_data, said_row, word}
use Rattle.oct_json.specs.Said.{SaidPeriod}
use Rattle.serde_json.specs.Data.{Data, Members, member, no_members}
use Rattle.serde_json.specs.View.{items_of}
use Rattle.serde_json.specs.Written.{comma_if, compact_text, items_text, members_text}

-- these members end in the values, so that their texts begin with the same opening
record EndIn (later : Bool) (members : Data → Members) : Type 0 where
  opening : List ℕ
  is : (values : Data) → members_text later (members values) ≡ opening ++ (compact_text values ++ 125 ∷ [])

alone : (later : Bool) (key : List ℕ) → EndIn later (λ values. member key values no_members)
alone later key = record {
  opening = comma_if later ++ (quoted key ++ 58 ∷ []);
  is = λ values.
      let tail = compact_text values ++ 125 ∷ [] in
      sym (append_assoc (comma_if later) (quoted key ++ 58 ∷ []) tail ∙ ap (λ t. comma_if later ++ t) (append_assoc (quoted key) (58 ∷ []) tail));
}

-- one member more before them
led : {rest : Data → Members} (later : Bool) (key : List ℕ) (first : Data) → EndIn true rest → EndIn later (λ values. member key first (rest values))
led later key first end =
    let begin = 58 ∷ (compact_text first ++ end.opening) in
    record {
      opening = comma_if later ++ (quoted key ++ begin);
      is = λ values.
          let tail = compact_text values ++ 125 ∷ [] in
          ap (λ t. comma_if later ++ (quoted key ++ 58 ∷ (compact_text first ++ t))) (end.is values)
          ∙ ap (λ t. comma_if later ++ (quoted key ++ 58 ∷ t)) (sym (append_assoc (compact_text first) end.opening tail))
          ∙ ap (λ t. comma_if later ++ t) (sym (append_assoc (quoted key) begin tail))
          ∙ sym (append_assoc (comma_if later) (quoted key ++ begin) tail);
    }

said_last : (said : List SaidPeriod) → EndIn true (said_and_values said)
said_last [] = alone true (codes "values")
said_last (s ∷ said) = led true (codes "said") (list said_data (s ∷ said)) (alone true (codes "values"))

-- the whole object
record Opened (text : Data → List ℕ) : Type 0 where
  opening : List ℕ
  is : (values : Data) → text values ≡ opening ++ (compact_text values ++ 125 ∷ [])

game_opened : (notes : List Operation) (g : GameSheet) (least : Option LeastPeriod) → Opened (λ values. compact_text (game_by notes g least values))
game_opened notes g least =
    let members =
    led false (codes "blocks") (list block_data (map (marked_block notes) g.blocks))
    (led true (codes "code") (word (code_text g.code))
    (led true (codes "known") (count (length g.values))
    (led true (codes "least_period") (least_data least)
    (led true (codes "periods") (list period_data (map (marked_period notes) g.periods))
    (said_last (map (said_row notes) (said_of notes g.code))))))) in
    record { opening = 123 ∷ members.opening; is = λ values. ap (λ t. 123 ∷ t) (members.is values) }

-- a text that ends in an empty array and the bracket of the object, without its last two bytes
cut : (text opening : List ℕ) → text ≡ opening ++ 91 ∷ 93 ∷ 125 ∷ [] → take (length text - 2) text ≡ opening ++ 91 ∷ []
cut text opening is =
    let short : length text - 2 ≡ length (opening ++ 91 ∷ []) =
    omega (arith, ap length is, length-append opening (91 ∷ 93 ∷ 125 ∷ []), length-append opening (91 ∷ [])) in
    ap (take (length text - 2)) (is ∙ sym (append_assoc opening (91 ∷ []) (93 ∷ 125 ∷ []))) ∙ take_at (opening ++ 91 ∷ []) (93 ∷ 125 ∷ []) (length text - 2) (sym short)

pub bare_game-long : (notes : List Operation) (g : GameSheet) (least : Option LeastPeriod) → 2 ≤ length (compact_text (bare_game notes g least))
bare_game-long notes g least =
    let game = game_opened notes g least in
    omega (arith, ap length (game.is no_values), length-append game.opening (91 ∷ 93 ∷ 125 ∷ []))

-- the game with no values but for its last two bytes, then the values, and then the last bracket
pub values_put : (notes : List Operation) (g : GameSheet) (least : Option LeastPeriod) (old opened valued out : List ℕ)
    → opened ≡ old ++ take (length (compact_text (bare_game notes g least)) - 2) (compact_text (bare_game notes g least))
    → valued ≡ opened ++ items_text false (items_of (map count g.values)) → out ≡ valued ++ 125 ∷ []
    → out ≡ old ++ compact_text (game_by notes g least (list count g.values))
values_put notes g least old opened valued out e f h =
    let game = game_opened notes g least in
    let items = items_text false (items_of (map count g.values)) in
    let begin = game.opening ++ 91 ∷ [] in
    let first : opened ≡ old ++ begin = e ∙ ap (λ t. old ++ t) (cut (compact_text (bare_game notes g least)) game.opening (game.is no_values)) in
    h ∙ ap (λ t. t ++ 125 ∷ []) (f ∙ ap (λ t. t ++ items) first)
    ∙ append_assoc (old ++ begin) items (125 ∷ []) ∙ append_assoc old begin (items ++ 125 ∷ [])
    ∙ ap (λ t. old ++ t) (append_assoc game.opening (91 ∷ []) (items ++ 125 ∷ []) ∙ sym (game.is (list count g.values)))
