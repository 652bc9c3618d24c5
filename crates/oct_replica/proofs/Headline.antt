-- What a replica shows after byte strings were handed to it.
use Rattle.std.proofs.Common.{◌≡◌, Bool, true, false, not, ◌&&◌, nat_lt, List, [], ◌∷◌, sym, ap, ◌∙◌}
use Rattle.oct_ops.specs.Operations.{Operations, empty, listed, union}
use Rattle.oct_ops.specs.OrderLaws.{op_cmp_total, op_cmp_exact}
use Rattle.oct_ops.specs.SetLaws.{same_set, union_assoc, union_comm, union-empty}
use Rattle.oct_delta.specs.Text.{Bytes}
use Rattle.oct_delta.specs.Taken.{operations_of, operations_of_all}
use Rattle.oct_delta.proofs.Spelled.{spell_together}
use Rattle.oct_mex.proofs.NimValues as nim
use Rattle.oct_verify.specs.Known.{known, verdict}
use Rattle.oct_verify.specs.Laws.{IsLeastWrong}
use Rattle.oct_verify.specs.declared.status.Status.TheVariants as of_block
use Rattle.oct_verify.proofs.Verdicts.{refuted-is_least}
use Rattle.oct_period.specs.FarBlocks.{has_proved}
use Rattle.oct_period.proofs.Statuses as statuses
use Rattle.oct_pages.specs.Catalogue.{catalogue}
use Rattle.oct_replica.specs.Headline.{handed, UnionIsPrinted, SpelledIsPrinted, SameIsPrinted, ShownValuesAreNimValues, NimValuesAreTheSequence, RefutedAtFirstWrong, RefutedAtFirstBreak, ProvedPeriodsHold}
use Rattle.oct_replica.specs.Settled.{blocks_in, claims_in}
use Rattle.oct_replica.proofs.Settled.{start_some}

handed-union : (ops : Operations) (strings : List Bytes) → handed ops strings ≡ union ops (operations_of_all strings)
handed-union ops [] = sym (union-empty op_cmp_total op_cmp_exact ops)
handed-union ops (bytes ∷ rest) =
    handed-union (union ops (operations_of bytes)) rest ∙ union_assoc op_cmp_total op_cmp_exact ops (operations_of bytes) (operations_of_all rest)

handed-all : (strings : List Bytes) → handed empty strings ≡ operations_of_all strings
handed-all strings =
    handed-union empty strings ∙ union_comm op_cmp_total op_cmp_exact empty (operations_of_all strings) ∙ union-empty op_cmp_total op_cmp_exact (operations_of_all strings)

pub union_is_printed : UnionIsPrinted
union_is_printed strings = ap (λ ops. catalogue (listed ops)) (handed-all strings)

pub spelled_is_printed : SpelledIsPrinted
spelled_is_printed strings ops are spell = union_is_printed strings ∙ ap (λ s. catalogue (listed s)) (sym ((spell_together strings ops are).0 spell))

pub same_is_printed : SameIsPrinted
same_is_printed strings others same =
    union_is_printed strings ∙ ap (λ ops. catalogue (listed ops)) (same_set op_cmp_total op_cmp_exact (operations_of_all strings) (operations_of_all others) same) ∙ sym (union_is_printed others)

pub shown_values_are_nim_values : ShownValuesAreNimValues
shown_values_are_nim_values c known n lt = nim.nim_values-at c known n lt

pub nim_values_are_the_sequence : NimValuesAreTheSequence
nim_values_are_the_sequence = nim.nim_sequence

pub refuted_at_first_wrong : RefutedAtFirstWrong
refuted_at_first_wrong ops c b at claimed truth is = by (nat_lt (known (blocks_in c ops)) b.start && not (has_proved (blocks_in c ops) (claims_in c ops))) is
  where
    by : (waits : Bool) → elim waits [ true ↦ of_block.Pending | false ↦ verdict b ] ≡ of_block.Refuted at claimed truth → IsLeastWrong b at claimed truth
    by true e = cc
    by false e = refuted-is_least b at claimed truth e

pub refuted_at_first_break : RefutedAtFirstBreak
refuted_at_first_break ops c p at is = statuses.refuted_is_first_break (blocks_in c ops) p at is

pub proved_periods_hold : ProvedPeriodsHold
proved_periods_hold ops c p valid is = statuses.proved_holds (blocks_in c ops) p (start_some p valid) is
