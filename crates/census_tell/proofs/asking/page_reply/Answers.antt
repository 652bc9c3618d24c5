use Rattle.std.proofs.Common.{Ok, Err, ◌++◌, cond, ap, sym, ◌∙◌}
use Rattle.oct_ops.specs.Operations.{listed}
use Rattle.oct_pages.specs.Catalogue as catalogue
use Rattle.census_state.specs.Replies.{text_alone}
use Rattle.census_state.specs.declared.fault.Fault.TheVariants.{NoPage}
use Rattle.census_tell.proofs.asking.page_reply.Goals as goal

pub returns-clause-ok : goal.returns-clause-ok
returns-clause-ok c =
    let ops = listed c.args.held.now.ops in
    let shown = c.in_ok-write_page_of.ensures.ok ∙ ap (λ front. front ++ catalogue.page ops c.args.number) c.new-text.ensures.items in
    ap (λ found. cond found (Ok (text_alone (catalogue.page ops c.args.number))) (Err NoPage)) (sym c.in_ok-write_page_of.ensures.found ∙ c.if-not-branch.false)
    ∙ ap (λ text. Ok (text_alone text)) (sym shown)
    ∙ ap Ok (sym c.text_alone.ensures)

pub returns-clause-err : goal.returns-clause-err
returns-clause-err c = cc

pub returns-then-not-branch-clause-ok : goal.returns-then-not-branch-clause-ok
returns-then-not-branch-clause-ok c = tt

pub returns-then-not-branch-clause-err : goal.returns-then-not-branch-clause-err
returns-then-not-branch-clause-err c = λ other.
    ap (λ found. cond found (Ok (text_alone (catalogue.page (listed c.args.held.now.ops) c.args.number))) (Err NoPage)) (sym c.in_ok-write_page_of.ensures.found ∙ c.if-not-branch.true)
