-- Names that are found after one was put in.
use Rattle.std.proofs.Common.{Bool, true, false, Option, Some, cond}
use Rattle.oct_sheet.specs.Names.{name_at}
use Rattle.oct_text.specs.Words.{Text}

-- what holds of the new name and of the old ones holds of whichever is found
pub found_either : {R : Type 0} (text : R → Text) (here : Bool) (new : R) (old : Option R) (P : Text → Type 0) → P (text new) → P (name_at text old)
    → P (name_at text (cond here (Some new) old))
found_either text true new old P at_new at_old = at_new
found_either text false new old P at_new at_old = at_old
