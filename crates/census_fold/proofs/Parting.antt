-- What is held, and no more, as one delta.
use Rattle.std.proofs.Common.{arith, ◌≡◌, ◌^◌, true, false, cond, Some, Result, Ok, Err, length}
use Rattle.std.specs.Prelude.{Bool, None, nat_lt, codes}
use Rattle.oct_delta.specs.Delta.{encoded}
use Rattle.oct_delta.specs.Text.{Bytes}
use Rattle.oct_ops.specs.Operations.{Operations, listed}
use Rattle.census_fold.specs.Deltas.{delta_of}
use Rattle.census_fold.specs.Digests.{text_of}
use Rattle.census_state.specs.Lines.{number_line}
use Rattle.census_state.specs.Replies.{Answer}
use Rattle.census_state.specs.declared.fault.Fault.{Fault}
use Rattle.census_state.specs.declared.fault.Fault.TheVariants.{TooMany}

abbrev reply_of : Bytes → Bytes → Answer
reply_of file text = record { state = None; file = Some file; text = text }

by_count : (b : Bool) (written file line text : Bytes) → cond {A = Result Bytes Fault} b (Ok written) (Err TooMany) ≡ Ok file → text ≡ line
    → cond {A = Result Answer Fault} b (Ok (reply_of written line)) (Err TooMany) ≡ Ok (reply_of file text)
by_count true written file line text w is = grind (arith, w, is)
by_count false written file line text w is = grind (arith, w, is)

pub part_written : (ops : Operations) (file text : Bytes) → text_of ops ≡ Ok file → text ≡ number_line (codes "operations ") (length (listed ops)) → delta_of (listed ops) ≡ Ok (reply_of file text)
part_written ops file text w is = by_count (nat_lt (length (listed ops)) (2 ^ 32)) (encoded (listed ops)) file _ text w is

by_count_not : (b : Bool) (written line : Bytes) (e : Fault) → cond {A = Result Bytes Fault} b (Ok written) (Err TooMany) ≡ Err e
    → cond {A = Result Answer Fault} b (Ok (reply_of written line)) (Err TooMany) ≡ Err e
by_count_not true written line e w = grind (arith, w)
by_count_not false written line e w = grind (arith, w)

pub part_not_written : (ops : Operations) (e : Fault) → text_of ops ≡ Err e → delta_of (listed ops) ≡ Err e
part_not_written ops e w = by_count_not (nat_lt (length (listed ops)) (2 ^ 32)) (encoded (listed ops)) _ e w
