-- Commands that leave a state as it is, step by step.
use Rattle.std.proofs.Common.{◌≡◌, ℕ, Result, Ok, refl, sym, ap, ◌∙◌}
use Rattle.oct_code.specs.Code.{Code}
use Rattle.oct_delta.specs.Text.{Bytes}
use Rattle.oct_ops.specs.Operations.{Operations, listed}
use Rattle.oct_pages.specs.GamesIn.{content_in}
use Rattle.oct_record.specs.Content.{RecordContent}
use Rattle.oct_store.specs.Summary.{of_game}
use Rattle.oct_bfile.specs.Bfile.{bfile_text}
use Rattle.oct_overview.specs.Line.{least_in}
use Rattle.oct_overview.proofs.Choosing.{least_in-sheet_by}
use Rattle.oct_plot.specs.Plot as picture
use Rattle.oct_pages.specs.Sheet.{GameSheet, game_sheet, sheet_by}
use Rattle.oct_pages.proofs.SheetLaws.{sheet_by-is}
use Rattle.census_state.specs.Codes.{code_of, read_code}
use Rattle.census_tell.specs.Questions.{told, told_of}
use Rattle.census_tell.specs.Viewing.{drawn, heaps_in, heaps_of, known_values, some_heaps}
use Rattle.census_state.specs.Replies.{Answer, text_alone}
use Rattle.census_state.specs.Steps.{◌>>=◌, because}
use Rattle.census_state.specs.Stored.{loaded}
use Rattle.census_tell.specs.declared.asking.Question as question
use Rattle.census_state.specs.declared.fault.Fault.{Fault}
use Rattle.census_state.specs.declared.fault.Fault.TheVariants as fault

-- a text of a game
pub game_said : (state word : Bytes) (spelling : RecordContent → Code → Bytes) (r : RecordContent) (c : Code) (text : Bytes) → loaded state ≡ Ok r → read_code word ≡ Ok c → text ≡ spelling r c
    → (loaded state >>= λ q. code_of word >>= λ d. Ok (text_alone (spelling q d))) ≡ Ok (text_alone text)
game_said state word spelling r c text there coded spelled =
    let done : RecordContent → Code → Result Answer Fault = λ q d. Ok (text_alone (spelling q d)) in
    ap (λ l. l >>= λ q. code_of word >>= λ d. done q d) there
    ∙ ap (λ d. because fault.Code d >>= λ e. done r e) coded
    ∙ ap (λ t. Ok (text_alone t)) (sym spelled)

-- what is told of a game, by its blocks and claims
sheet_is : (ops : Operations) (c : Code) → sheet_by (content_in ops c) (listed (of_game ops c)) ≡ game_sheet (listed ops) c
sheet_is ops c = sheet_by-is ops c (content_in ops c) (of_game ops c) refl refl

pub told_is : (q : question.Question) (ops : Operations) (c : Code) → told_of q (content_in ops c) ≡ told q ops c
told_is (question.TheVariants.Value heaps form) ops c = refl
told_is (question.TheVariants.Move heaps form) ops c = refl
told_is question.TheVariants.Bfile ops c = ap (λ (s : GameSheet). bfile_text s.values) (sheet_is ops c)
told_is question.TheVariants.Plot ops c =
    let game = content_in ops c in
    ap (picture.plot c (known_values game)) (least_in-sheet_by game (listed (of_game ops c)))
    ∙ ap (λ (s : GameSheet). picture.plot c s.values (least_in s)) (sheet_is ops c)

-- the picture of some heaps, by the blocks and claims of the game
pub heaps_are : (from to : ℕ) (ops : Operations) (c : Code) → heaps_of from to (content_in ops c) ≡ heaps_in from to ops c
heaps_are from to ops c =
    let game = content_in ops c in
    ap (drawn c (known_values game) from to) (least_in-sheet_by game (listed (of_game ops c)))
    ∙ ap (λ (s : GameSheet). drawn c s.values from to (least_in s)) (sheet_is ops c)

-- and of a state that is read, for a code that is read
pub heaps_said : (state word : Bytes) (from to : ℕ) (r : RecordContent) (c : Code) → loaded state ≡ Ok r → read_code word ≡ Ok c
    → some_heaps from to state word ≡ heaps_of from to (content_in r.ops c)
heaps_said state word from to r c there coded =
    let done : RecordContent → Code → Result Bytes Fault = λ q d. heaps_in from to q.ops d in
    ap (λ l. l >>= λ q. code_of word >>= λ d. done q d) there
    ∙ ap (λ d. because fault.Code d >>= λ e. done r e) coded
    ∙ sym (heaps_are from to r.ops c)
