-- Games that have their turns one after another, and who keeps what is done.
use Rattle.std.proofs.Common.{◌≡◌, ℕ, suc, ◌+◌, ◌<◌, List, [], ◌∷◌, ◌++◌, length, drop, get_or, Result, Ok, refl, sym, ap, subst, ◌∙◌, add-one, append_assoc, drop-cons}
use Rattle.std.specs.Prelude.{◌≢◌, Err, IfErr, unwrap_or}
use Rattle.std.specs.Result.{result_ok}
use Rattle.oct_code.specs.Code.{Code}
use Rattle.oct_delta.specs.Text.{Bytes}
use Rattle.oct_record.specs.Content.{RecordContent}
use Rattle.oct_text.specs.Words.{Text}
use Rattle.census_state.specs.Codes.{codes_of}
use Rattle.census_state.specs.Steps.{◌>>=◌}
use Rattle.census_state.specs.Stored.{loaded}
use Rattle.census_issue.specs.Extending.{stages_in_turns, wanted}
use Rattle.census_issue.specs.Turns.{Turn, Kept, KeptSome, KeptUpTo, behind, in_turn, stage, stages}
use Rattle.census_state.specs.declared.fault.Fault.{Fault}
use Rattle.census_state.specs.declared.fault.Fault.TheVariants as fault

-- the game that is next, and those behind it
next_game : (games : List Code) (i : ℕ) (c other : Code) → i < length games → c ≡ get_or games i other → drop i games ≡ c ∷ drop (i + 1) games
next_game games i c other within is = rw add-one (drop-cons games i other within ∙ ap (λ q. q ∷ drop (suc i) games) (sym is))

-- one more is kept
kept_then : {K : Type 0} (keeps : K → Turn → K → Type 0) (old now next : K) (done : List Turn) (t : Turn) → Kept keeps old done now → keeps now t next → Kept keeps old (done ++ t ∷ []) next
kept_then keeps old now next [] t so_far one = (next, subst (λ k. keeps k t next) so_far one, refl)
kept_then keeps old now next (d ∷ ds) t so_far one = (so_far.0, so_far.1, kept_then keeps so_far.0 now next ds t so_far.2 one)

-- a game had its turn, so that the games behind it are next
module _ (turn : Code → RecordContent → Result Turn Fault) (games : List Code) (i : ℕ) (c other : Code) (before after : RecordContent) (text line slice more : Text)
    (within : i < length games) (is : c ≡ get_or games i other) (had : turn c before ≡ Ok (record { replica = after; text = line })) (sliced : slice ≡ line) (joined : more ≡ text ++ slice) where
  abbrev so_far : Turn
  so_far = record { replica = before; text = text }

  abbrev later : Turn
  later = record { replica = after; text = more }

  behind_it : behind so_far (record { replica = after; text = line }) ≡ later
  behind_it = ap (λ t. record { replica = after; text = t }) (ap (λ t. text ++ t) (sym sliced) ∙ sym joined)

  pub had_turn : in_turn turn (drop i games) (record { replica = before; text = text }) ≡ in_turn turn (drop (i + 1) games) (record { replica = after; text = more })
  had_turn =
      ap (λ l. in_turn turn l so_far) (next_game games i c other within is)
      ∙ ap (λ r. r >>= λ next. in_turn turn (drop (i + 1) games) (behind so_far next)) had
      ∙ ap (in_turn turn (drop (i + 1) games)) behind_it

  stage_is : stages turn (drop i games) so_far ≡ later ∷ stages turn (drop (i + 1) games) later
  stage_is =
      ap (λ l. stages turn l so_far) (next_game games i c other within is)
      ∙ ap (stage (stages turn (drop (i + 1) games)) so_far) had
      ∙ ap (λ t. t ∷ stages turn (drop (i + 1) games) t) behind_it

  -- and a keeper kept what is done then
  pub kept_turn : {K : Type 0} (keeps : K → Turn → K → Type 0) (old now next : K) (all : List Turn) (handed : Text)
      → KeptUpTo keeps old all (stages turn (drop i games) (record { replica = before; text = text })) now → handed ≡ more → keeps now (record { replica = after; text = handed }) next
      → KeptUpTo keeps old all (stages turn (drop (i + 1) games) (record { replica = after; text = more })) next
  kept_turn keeps old now next all handed kept same one = record {
    done = kept.done ++ later ∷ [];
    kept = kept_then keeps old now next kept.done later kept.kept (subst (λ t. keeps now (record { replica = after; text = t }) next) same one);
    whole = append_assoc kept.done (later ∷ []) (stages turn (drop (i + 1) games) later) ∙ ap (λ ts. kept.done ++ ts) (sym stage_is) ∙ kept.whole;
  }

-- who was handed nothing kept the first of any
pub none_kept : {K X : Type 0} (keeps : K → Turn → K → Type 0) (keeper : K) (all : List Turn) (r : Result X Fault) → IfErr r (λ e. e ≢ fault.File → KeptSome keeps keeper all keeper)
none_kept keeps keeper all (Ok x) = tt
none_kept keeps keeper all (Err e) = λ other. (all, record { done = []; kept = refl; whole = refl })

-- what is done in the turns of a command whose words and state are read
pub stages_are : (turn : ℕ → Code → RecordContent → Result Turn Fault) (state : Bytes) (count : ℕ) (words : List Bytes) (replica : RecordContent) (games given : List Code)
    → wanted count ≡ Ok count → loaded state ≡ Ok replica → codes_of words ≡ Ok games → given ≡ games → stages (turn count) given (record { replica = replica; text = [] }) ≡ stages_in_turns turn state count words
stages_are turn state count words replica games given wanted_is loaded_is codes_are same =
    ap (λ l. stages (turn count) l (record { replica = replica; text = [] })) same
    ∙ sym (
    ap (λ q. unwrap_or (result_ok (q >>= λ n. loaded state >>= λ r. codes_of words >>= λ l. Ok (stages (turn n) l (record { replica = r; text = [] })))) []) wanted_is
    ∙ ap (λ q. unwrap_or (result_ok (q >>= λ r. codes_of words >>= λ l. Ok (stages (turn count) l (record { replica = r; text = [] })))) []) loaded_is
    ∙ ap (λ q. unwrap_or (result_ok (q >>= λ l. Ok (stages (turn count) l (record { replica = replica; text = [] })))) []) codes_are)
