use Rattle.oct_pages.proofs.pager.Pager.page.Goals as goal

pub returns : goal.returns
returns c = cc
