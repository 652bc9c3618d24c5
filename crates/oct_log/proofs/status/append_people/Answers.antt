use Rattle.std.proofs.Common.{◌≡◌, ◌++◌, map, ap, ◌∙◌}
use Rattle.oct_ops.specs.Operations.{Operations, listed}
use Rattle.oct_sheet.specs.Names.{author_name, name_in}
use Rattle.oct_sheet.specs.Sheet.{names_of}
use Rattle.oct_log.specs.Status.{count_in, people_by, said_by}
use Rattle.oct_log.proofs.status.append_people.Goals as goal

pub returns : goal.returns
returns g c =
    let ops = c.args.said.now.ops in
    let named : name_in (λ text. text.now) c.in_ok-names.names ≡ author_name (names_of (listed ops)) =
    λ i author. (c.in_ok-names.ensures.names author ∙ ap (λ notes. author_name (map (λ op. op.now) notes) author) c.deref.ensures.value ∙ ap (λ notes. author_name notes author) c.in_ok-notes.ensures) i in
    let counted : count_in c.in_ok-counts.counts ≡ said_by (listed ops) =
    λ i author. (c.in_ok-counts.ensures author ∙ ap (λ (held : Operations). said_by (listed held) author) c.store.ensures) i in
    c.in_ok-append_by.ensures ∙ (λ i. c.args.out.now.items ++ people_by (named i) (counted i) c.args.said.now.author (listed ops))
