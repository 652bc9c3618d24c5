use Rattle.std.proofs.Common.{◌≡◌, ℕ, List, ◌++◌, ap, ◌∙◌, append_assoc}
use Rattle.std.specs.Prelude.{codes, length}
use Rattle.oct_ops.specs.Operations.{Operations, listed}
use Rattle.oct_sheet.specs.Names.{name_in}
use Rattle.oct_store.specs.Rows.{author_rows}
use Rattle.oct_store.specs.declared.author.Author.{Author}
use Rattle.oct_log.specs.Status.{authors_part, count_in, count_line, own_line}
use Rattle.oct_log.proofs.status.append_by.Goals as goal

-- a text that grows by three parts, one after another
three_parts : (t0 t1 t2 t3 a b c : List ℕ) → t1 ≡ t0 ++ a → t2 ≡ t1 ++ b → t3 ≡ t2 ++ c → t3 ≡ t0 ++ (a ++ b ++ c)
three_parts t0 t1 t2 t3 a b c first second third =
    third ∙ ap (λ t. t ++ c) (second ∙ ap (λ t. t ++ b) first ∙ append_assoc t0 a b) ∙ append_assoc t0 (a ++ b) c

pub returns : goal.returns
returns g c =
    let out = c.args.out.now.items in
    let ops = c.args.said.now.ops in
    let author = c.args.said.now.author in
    let names = name_in (λ text. text.now) c.args.names.now in
    let counts = count_in c.args.counts.now in
    let name = c.name_in.ensures ∙ ap names c.author.ensures.value in
    let whose = own_line (names author) author in
    let many = count_line (codes "operations ") (length (listed ops)) in
    let people = authors_part names counts (author_rows (listed ops)) in
    let own = c.in_ok-append_own.ensures ∙ (λ i. out ++ own_line (name i) (c.author-2.ensures.value i)) in
    let count = c.in_ok-append_count.ensures ∙ (λ i. c.append_own.new.out.items ++ count_line (codes "operations ") (c.len.ensures i)) in
    let rows = c.deref.ensures.value ∙ c.in_ok-authors.ensures ∙ ap (λ (held : Operations). author_rows (listed held)) c.store.ensures in
    let last = c.in_ok-append_authors.ensures ∙ ap (λ (found : List Author). c.append_count.new.out.items ++ authors_part names counts found) rows in
    three_parts out c.append_own.new.out.items c.append_count.new.out.items c.append_authors.new.out.items whose many people own count last
