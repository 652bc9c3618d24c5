-- Each line of a catalogue tells what is so.
use Rattle.std.proofs.Common.{◌≡◌, ℕ, ◌+◌, ◌*◌, ◌<◌, Bool, true, false, not, ◌&&◌, nat_lt, nat_le, [], ◌∷◌, ◌++◌, map, length, take, drop, slice_index, Option, Some, None, inl, inr, refl, ◌∙◌, subst, arith}
use Rattle.std.specs.Int.{div_ceil}
use Rattle.std.specs.List.{flat_map, range_with_len}
use Rattle.std.proofs.lemmas.Bool.{leb-true}
use Rattle.std.proofs.lemmas.List.{get_or-take, get_or-drop, length-take, length-drop}
use Rattle.oct_code.specs.Code.{Code, code_eq}
use Rattle.oct_mex.specs.NimValues.{nim_value, nim_values}
use Rattle.oct_code.proofs.Members as members
use Rattle.oct_mex.proofs.NimValues.{nim_values-at, nim_values-length}
use Rattle.oct_ops.specs.Operation.{Dot, Block, Period}
use Rattle.oct_ops.specs.Operations.{Operations, contains, listed}
use Rattle.oct_ops.specs.Body as kind
use Rattle.oct_ops.specs.Body.{Body, Operation}
use Rattle.oct_ops.specs.Valid.{IsPeriod}
use Rattle.oct_store.specs.Summary as summary
use Rattle.oct_store.proofs.Greatest.{is_last}
use Rattle.oct_store.proofs.Throughs.{is_through}
use Rattle.oct_notes.specs.Laws.{IsUnremoved}
use Rattle.oct_notes.specs.Notes.{live_notes}
use Rattle.oct_notes.proofs.Unremoved.{live_is_unremoved}
use Rattle.oct_verify.specs.Known.{known, verdict}
use Rattle.oct_verify.specs.Laws.{IsRight}
use Rattle.oct_verify.specs.declared.status.Status.{Status}
use Rattle.oct_verify.specs.declared.status.Status.TheVariants as of_block
use Rattle.oct_verify.proofs.KnownLaws.{known_is}
use Rattle.oct_verify.proofs.Verdicts.{proved-is_right}
use Rattle.oct_period.specs.FarBlocks.{block_status, has_proved}
use Rattle.oct_period.specs.Periods.{needs, period_status, status_at}
use Rattle.oct_period.specs.declared.status.PeriodStatus.{PeriodStatus}
use Rattle.oct_period.specs.declared.status.PeriodStatus.TheVariants as of_claim
use Rattle.oct_pages.specs.Catalogue.{Text, author_line, block_in, block_line, blocks_of, claim_in, claims_of, ending, fork_line, game_lines, game_text, games, heading, if_some, lines, note_line, period_line, under, values_line, values_lines, values_per_line}
use Rattle.oct_record.specs.Valid.{AreValid}
use Rattle.oct_replica.specs.Settled.{blocks_in, claims_in}
use Rattle.oct_replica.specs.Shown.{BlockIsSo, ClaimIsSo, GameLinesAreSo, GameTells, Has, LinesAreSo, Tells, TellsAuthor, TellsBlock, TellsClaim, TellsFork, TellsKnown, TellsNote, TellsValues}
use Rattle.oct_replica.specs.Shown as shown
use Rattle.oct_replica.proofs.Headline.{refuted_at_first_wrong, refuted_at_first_break, proved_periods_hold}
use Rattle.oct_replica.proofs.Lines.{same_code}
use Rattle.oct_ops.proofs.Members.{In, In-among, among-In, Has-listed}
use Rattle.oct_pages.proofs.InGames.{In-filter_map_source}
use Rattle.oct_replica.proofs.Settled.{claim_is_valid, contains-In}

-- ---- what was taken from an operation

module _ {X : Type 0} (made : X → Body) (code : X → Code) where
  -- the operation from which a block or a claim of the game was taken
  pub record IsTakenFrom (c : Code) (o : Operation) (p : Dot × X) : Type 0 where
    pub whole : o ≡ record { dot = p.0; body = made p.1 }
    pub game : code p.1 ≡ c

  taken_from : (c : Code) (d : Dot) (x : X) (t : Bool) (p : Dot × X) → code_eq (code x) c ≡ t → under d (if_some t x) ≡ Some p → IsTakenFrom c (record { dot = d; body = made x }) p
  taken_from c d x true p e h =
      let pair : Dot × X = (d, x) in
      let same : pair ≡ p = cc in
      subst (IsTakenFrom c (record { dot = d; body = made x })) same (record { whole = refl; game = same_code (code x) c e })
  taken_from c d x false p e h = cc

abbrev pub IsBlockOf : Code → Operation → Dot × Block → Type 0
IsBlockOf = IsTakenFrom kind.Block (λ b. b.code)

abbrev pub IsClaimOf : Code → Operation → Dot × Period → Type 0
IsClaimOf = IsTakenFrom kind.Period (λ p. p.code)

-- ---- values

pub values_row : (c : Code) (k i j : ℕ) → let row = take values_per_line (drop (values_per_line * i) (nim_values c k)) in j < length row → slice_index row j ≡ nim_value c (values_per_line * i + j)
values_row c k i j lt =
    let all = nim_values c k in
    let first = values_per_line * i in
    let row = length-take values_per_line (drop first all) in
    let rest = length-drop first all in
    get_or-take values_per_line (drop first all) j 0 (omega (arith, lt, row))
    ∙ get_or-drop first all j 0
    ∙ nim_values-at c k (first + j) (omega (arith, lt, row, rest, nim_values-length c k))

values_tell : (c : Code) (k : ℕ) (line : Text) → In line (values_lines (nim_values c k)) → TellsValues c line
values_tell c k line h =
    let row = members.In-map_source (values_line (nim_values c k)) line (range_with_len 0 (div_ceil (length (nim_values c k)) values_per_line)) h in
    record {
      first = values_per_line * row.0;
      values = take values_per_line (drop (values_per_line * row.0) (nim_values c k));
      are = values_row c k row.0;
      text = row.2;
    }

-- ---- blocks

block_of_op : (c : Code) (d : Dot) (body : Body) (b : Dot × Block) → block_in c (record { dot = d; body = body }) ≡ Some b → IsBlockOf c (record { dot = d; body = body }) b
block_of_op c d (kind.Block x) b h = taken_from kind.Block (λ y. y.code) c d x (code_eq x.code c) b refl h
block_of_op c d (kind.Period x) b h = cc
block_of_op c d (kind.Note x) b h = cc
block_of_op c d (kind.Removal x) b h = cc

block_right : (ops : Operations) (c : Code) (b : Block) → block_status (blocks_in c ops) (claims_in c ops) b ≡ of_block.Proved → IsRight b
block_right ops c b is = by (nat_lt (known (blocks_in c ops)) b.start && not (has_proved (blocks_in c ops) (claims_in c ops))) is
  where
    by : (waits : Bool) → elim waits [ true ↦ of_block.Pending | false ↦ verdict b ] ≡ of_block.Proved → IsRight b
    by true e = cc
    by false e = (proved-is_right b).0 e

pub block_so : (ops : Operations) (c : Code) (b : Block) (s : Status) → block_status (blocks_in c ops) (claims_in c ops) b ≡ s → BlockIsSo b s
block_so ops c b of_block.Proved is = block_right ops c b is
block_so ops c b (of_block.Refuted at claimed truth) is = refuted_at_first_wrong ops c b at claimed truth is
block_so ops c b of_block.Pending is = tt

block_tells : (ops : Operations) (c : Code) (line : Text) → In line (map (block_line (blocks_in c ops) (claims_in c ops)) (blocks_of c (listed ops))) → TellsBlock ops c line
block_tells ops c line h =
    let pair = members.In-map_source (block_line (blocks_in c ops) (claims_in c ops)) line (blocks_of c (listed ops)) h in
    let op = In-filter_map_source (block_in c) (listed ops) pair.0 pair.1 in
    let from = block_of_op c op.0.dot op.0.body pair.0 op.2 in
    record {
      dot = pair.0.0;
      block = pair.0.1;
      held = subst (λ o. contains ops o ≡ true) from.whole (Has-listed ops op.0 op.1);
      game = from.game;
      status = block_status (blocks_in c ops) (claims_in c ops) pair.0.1;
      so = block_so ops c pair.0.1 (block_status (blocks_in c ops) (claims_in c ops) pair.0.1) refl;
      text = pair.2;
    }

-- ---- claims

pub claim_of_op : (c : Code) (d : Dot) (body : Body) (p : Dot × Period) → claim_in c (record { dot = d; body = body }) ≡ Some p → IsClaimOf c (record { dot = d; body = body }) p
claim_of_op c d (kind.Block x) p h = cc
claim_of_op c d (kind.Period x) p h = taken_from kind.Period (λ y. y.code) c d x (code_eq x.code c) p refl h
claim_of_op c d (kind.Note x) p h = cc
claim_of_op c d (kind.Removal x) p h = cc

unbroken_needs : (p : Period) (t : Bool) (n : ℕ) → elim t [ true ↦ of_claim.Proved | false ↦ of_claim.Pending (needs p) ] ≡ of_claim.Pending n → n ≡ needs p
unbroken_needs p true n e = cc
unbroken_needs p false n e = cc

pending_needs : (k : ℕ) (p : Period) (first : Option ℕ) (n : ℕ) → status_at k p first ≡ of_claim.Pending n → n ≡ needs p
pending_needs k p None n e = unbroken_needs p (nat_le (needs p) k) n e
pending_needs k p (Some at) n e = cc

pub claim_so : (ops : Operations) (c : Code) (p : Period) (s : PeriodStatus) → IsPeriod p → period_status (blocks_in c ops) p ≡ s → ClaimIsSo p s
claim_so ops c p of_claim.Proved valid is = proved_periods_hold ops c p valid is
claim_so ops c p (of_claim.Refuted at) valid is = refuted_at_first_break ops c p at is
claim_so ops c p (of_claim.Pending n) valid is = pending_needs (known (blocks_in c ops)) p _ n is

claim_tells : (ops : Operations) (c : Code) (line : Text) → AreValid ops → In line (map (period_line (blocks_in c ops)) (claims_of c (listed ops))) → TellsClaim ops c line
claim_tells ops c line valid h =
    let pair = members.In-map_source (period_line (blocks_in c ops)) line (claims_of c (listed ops)) h in
    let op = In-filter_map_source (claim_in c) (listed ops) pair.0 pair.1 in
    let from = claim_of_op c op.0.dot op.0.body pair.0 op.2 in
    let held = Has-listed ops op.0 op.1 in
    record {
      dot = pair.0.0;
      claim = pair.0.1;
      held = subst (λ o. contains ops o ≡ true) from.whole held;
      game = from.game;
      status = period_status (blocks_in c ops) pair.0.1;
      so = claim_so ops c pair.0.1 (period_status (blocks_in c ops) pair.0.1) (claim_is_valid c op.0.dot op.0.body pair.0 (valid op.0 held).body op.2) refl;
      text = pair.2;
    }

-- ---- the lines of a game

game_tells : (ops : Operations) (c : Code) (line : Text) → AreValid ops → In line (game_lines (listed ops) c) → GameTells ops c line
game_tells ops c line valid h =
    let k = known (blocks_in c ops) in
    let values = values_lines (nim_values c k) in
    let blocks = map (block_line (blocks_in c ops) (claims_in c ops)) (blocks_of c (listed ops)) in
    let claims = map (period_line (blocks_in c ops)) (claims_of c (listed ops)) in
    elim (members.In-append_cases line ((game_text c k ∷ values) ++ blocks) claims h) [
      | inr claim ↦ shown.tells_claim (claim_tells ops c line valid claim)
      | inl front ↦ elim (members.In-append_cases line (game_text c k ∷ values) blocks front) [
        | inr block ↦ shown.tells_block (block_tells ops c line block)
        | inl first ↦ elim first [
          | inl is ↦ shown.tells_known (record { known = k; is = known_is (blocks_in c ops); text = is })
          | inr row ↦ shown.tells_values (values_tell c k line row)
        ]
      ]
    ]

pub game_lines_are_so : GameLinesAreSo
game_lines_are_so ops c line valid h = game_tells ops c line valid (In-among (game_lines (listed ops) c) line h)

-- ---- the other lines

note_tells : (ops : Operations) (d : Dot) (body : Body) (line : Text) → IsUnremoved ops (record { dot = d; body = body }) → line ≡ note_line (record { dot = d; body = body }) → TellsNote ops line
note_tells ops d (kind.Block b) line live is = absurd (no_note live.noted)
  where
    no_note : false ≡ true → ⊥
    no_note e = cc
note_tells ops d (kind.Period p) line live is = absurd (no_note live.noted)
  where
    no_note : false ≡ true → ⊥
    no_note e = cc
note_tells ops d (kind.Note n) line live is = record { dot = d; note = n; live = live; text = is }
note_tells ops d (kind.Removal r) line live is = absurd (no_note live.noted)
  where
    no_note : false ≡ true → ⊥
    no_note e = cc

live_tells : (ops : Operations) (line : Text) → In line (map note_line (live_notes (listed ops))) → TellsNote ops line
live_tells ops line h =
    let note = members.In-map_source note_line line (live_notes (listed ops)) h in
    note_tells ops note.0.dot note.0.body line (live_is_unremoved ops note.0 (contains-In (live_notes (listed ops)) note.0 note.1)) note.2

fork_tells : (ops : Operations) (line : Text) → In line (map (fork_line (listed ops)) (summary.forks (listed ops))) → TellsFork ops line
fork_tells ops line h =
    let fork = members.In-map_source (fork_line (listed ops)) line (summary.forks (listed ops)) h in
    let several = members.In-filter_source (λ d. nat_le 2 (summary.contents (listed ops) d)) fork.0 _ fork.1 in
    record {
      dot = fork.0;
      contents = summary.contents (listed ops) fork.0;
      several = leb-true 2 (summary.contents (listed ops) fork.0) several.1;
      are = refl;
      text = fork.2;
    }

author_tells : (ops : Operations) (line : Text) → In line (map (author_line (listed ops)) (summary.authors (listed ops))) → TellsAuthor ops line
author_tells ops line h =
    let author = members.In-map_source (author_line (listed ops)) line (summary.authors (listed ops)) h in
    record {
      author = author.0;
      through = summary.through (listed ops) author.0;
      last = summary.last (listed ops) author.0;
      is_through = is_through (listed ops) author.0;
      is_last = is_last (listed ops) author.0;
      text = author.2;
    }

line_tells : (ops : Operations) (line : Text) → AreValid ops → In line (lines (listed ops)) → Tells ops line
line_tells ops line valid h =
    let all = heading ∷ flat_map (game_lines (listed ops)) (games (listed ops)) in
    let notes = map note_line (live_notes (listed ops)) in
    let forks = map (fork_line (listed ops)) (summary.forks (listed ops)) in
    let authors = map (author_line (listed ops)) (summary.authors (listed ops)) in
    elim (members.In-append_cases line (all ++ notes ++ forks ++ authors) (ending ∷ []) h) [
      | inr last ↦ elim last [ inl is ↦ shown.ends is | inr none ↦ absurd none ]
      | inl front ↦ elim (members.In-append_cases line (all ++ notes ++ forks) authors front) [
        | inr author ↦ shown.tells_author (author_tells ops line author)
        | inl front ↦ elim (members.In-append_cases line (all ++ notes) forks front) [
          | inr fork ↦ shown.tells_fork (fork_tells ops line fork)
          | inl front ↦ elim (members.In-append_cases line all notes front) [
            | inr note ↦ shown.tells_note (live_tells ops line note)
            | inl first ↦ elim first [
              | inl is ↦ shown.heads is
              | inr part ↦
                  let game = members.In-flat_map_source (game_lines (listed ops)) line (games (listed ops)) part in
                  shown.tells_game game.0 (among-In (games (listed ops)) game.0 game.1) (game_tells ops game.0 line valid game.2)
            ]
          ]
        ]
      ]
    ]

pub lines_are_so : LinesAreSo
lines_are_so ops line valid h = line_tells ops line valid (In-among (lines (listed ops)) line h)
