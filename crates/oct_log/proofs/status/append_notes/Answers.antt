use Rattle.std.proofs.Common.{◌++◌, length, sym, ap, ◌∙◌}
use Rattle.std.proofs.lemmas.List.{length-map}
use Rattle.std.specs.Prelude.{codes}
use Rattle.oct_notes.proofs.Kept.{live_notes-of}
use Rattle.oct_notes.specs.Notes.{live_notes}
use Rattle.oct_ops.specs.Operations.{Operations, listed}
use Rattle.oct_log.specs.Status.{count_line}
use Rattle.oct_log.proofs.status.append_notes.Goals as goal

pub returns : goal.returns
returns g c =
    let kept = c.in_ok-live.ensures ∙ ap (λ (held : Operations). live_notes (listed held)) c.notes.ensures ∙ live_notes-of c.args.said.now.ops in
    let many = c.len.ensures ∙ c.in_ok-live.live.ok.0 ∙ sym (length-map c.in_ok-live.live.items (λ op. op.now)) ∙ ap length kept in
    c.in_ok-append_count.ensures ∙ (λ i. c.args.out.now.items ++ count_line (codes "notes ") (many i))
