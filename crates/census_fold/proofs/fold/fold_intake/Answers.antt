use Rattle.std.proofs.Common.{◌≡◌, ap, ◌∙◌, subst, IfSome, Option, Some, None}
use Rattle.std.specs.Io.KnownBytes.{Appends}
use Rattle.oct_delta.specs.Text.{Bytes}
use Rattle.oct_ops.specs.Operations.{Operations, listed}
use Rattle.oct_pages.specs.Catalogue.{catalogue}
use Rattle.written.specs.Output.{AppendsPrefix}
use Rattle.census_fold.specs.Folded.{folded, taken}
use Rattle.census_fold.proofs.fold.fold_intake.Goals as goal

-- what holds of the text holds of the input's, where the input is known
told : (Holds : Bytes → Type 0) (input : Option Bytes) (ops : Operations) (text : Bytes) → IfSome input (λ x. ops ≡ taken x) → text ≡ catalogue (listed ops) → Holds text
    → IfSome input (λ x. Holds (folded x))
told Holds None ops text whole same holds = tt
told Holds (Some x) ops text whole same holds = subst Holds (same ∙ ap (λ o. catalogue (listed o)) whole) holds

pub returns-clause-text : goal.returns-clause-text
returns-clause-text g c =
    let same = c.in_ok-ready.ensures ∙ ap (λ (ops : Operations). catalogue (listed ops)) c.as_record.ensures in
    told (λ text. Appends (g.W.Write.contents c.args.writer.now) (g.W.Write.contents c.write.new.out) text) _ _ _ c.in_ok-intake.ensures.taken same c.in_ok-write.ensures.ok

pub returns-in_err-write-clause-prefix : goal.returns-in_err-write-clause-prefix
returns-in_err-write-clause-prefix g c _ =
    let same = c.in_ok-ready.ensures ∙ ap (λ (ops : Operations). catalogue (listed ops)) c.as_record.ensures in
    told (λ text. AppendsPrefix (g.W.Write.contents c.args.writer.now) (g.W.Write.contents c.write.new.out) text) _ _ _ c.in_ok-intake.ensures.taken same c.in_err-write.ensures.err
