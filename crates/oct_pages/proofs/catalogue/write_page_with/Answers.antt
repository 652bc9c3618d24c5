use Rattle.std.proofs.Common.{◌*◌, ◌++◌, ap, ◌∙◌, subst, sym}
use Rattle.std.proofs.lemmas.List.{append-nil}
use Rattle.oct_ops.specs.Operations.{listed}
use Rattle.oct_pages.specs.Catalogue.{lines, lines_among, page_length}
use Rattle.oct_pages.specs.Pager.{AreShown, after, is_reached, seen}
use Rattle.oct_pages.proofs.Pagers.{no_page, page_reached, page_seen}
use Rattle.oct_pages.proofs.catalogue.write_page_with.Goals as goal

pub returns-clause-found : goal.returns-clause-found
returns-clause-found g c =
    let all = lines (listed c.args.said.now.ops) in
    let shown = subst (AreShown _ _ _ _) (ap (λ store. lines_among (listed c.args.said.now.ops) (listed store)) c.store.ensures) c.in_ok-append_shown.ensures.ok in
    c.is_reached.ensures ∙ ap is_reached (shown.pager ∙ ap (λ w. after w all) c.page-pager.ensures) ∙ page_reached (page_length * c.args.page) all

pub returns-clause-ok : goal.returns-clause-ok
returns-clause-ok g c =
    let all = lines (listed c.args.said.now.ops) in
    let shown = subst (AreShown _ _ _ _) (ap (λ store. lines_among (listed c.args.said.now.ops) (listed store)) c.store.ensures) c.in_ok-append_shown.ensures.ok in
    shown.text ∙ ap (λ w. c.args.out.now.items ++ seen w all) c.page-pager.ensures
    ∙ ap (λ t. c.args.out.now.items ++ t) (page_seen (page_length * c.args.page) page_length all)

pub returns-clause-none : goal.returns-clause-none
returns-clause-none g c none =
    let all = lines (listed c.args.said.now.ops) in
    returns-clause-ok g c ∙ ap (λ t. c.args.out.now.items ++ t) (no_page (page_length * c.args.page) all (sym (returns-clause-found g c) ∙ none)) ∙ append-nil c.args.out.now.items
