use Rattle.std.proofs.Common.{ap, ◌∙◌}
use Rattle.std.specs.List.{insert}
use Rattle.oct_verify.specs.Filed.{Filed}
use Rattle.oct_verify.specs.Known.{verdict}
use Rattle.oct_verify.specs.Kept.{filings_of}
use Rattle.chunked.specs.Chunked.{chunked, index_of}
use Rattle.oct_verify.proofs.Keeping.{grown_within, held_grown, settle_new, gap_before, set_new}
use Rattle.oct_verify.proofs.Ending.{ends_within}
use Rattle.oct_verify.proofs.Growing.{beside_upto}
use Rattle.oct_verify.proofs.shelf.Shelf.insert_reached.Goals as goal

pub returns-clause-halfway : goal.returns-clause-halfway
returns-clause-halfway g c =
    let entry : Filed = record c.args.entry { status = c.compare-status.result } in
    let settling = c.requires.kept.halfway.settling in
    let upto = beside_upto c.args.self.now.entries c.args.place c.requires.room.beside in
    let gap = c.requires.room.gap in
    let before = gap_before c.args.self.now.comparer.values.code _ _ _ _ _ entry settling upto gap c.requires.kept.parked c.requires.reached in
    let judged = c.compare-status.ensures.status ∙ ap verdict c.block-block.ensures in
    record {
      chunks = c.insert.ensures.chunked;
      settling = rw (c.insert.ensures.items, c.set_status.ensures, c.grown-self.ensures, c.end.ensures.value, c.block-block.ensures, c.compare-status.ensures.room, c.compare-status.ensures.code, c.compare-status.ensures.count)
          (settle_new c.args.self.now.comparer.values.code _ _ _ _ _ entry settling upto gap c.requires.room.fits before c.requires.reached judged);
      within = rw (c.grown-self.ensures, c.end.ensures.value, c.block-block.ensures) (grown_within c.compare-status.result _ _ _ c.requires.kept.halfway.within (ends_within c.args.entry.block (rw c.block-block.ensures at c.end.ensures.valid)));
      held = rw (c.grown-self.ensures, c.end.ensures.value, c.compare-status.ensures.len) (held_grown c.compare-status.result _ _ _ c.requires.kept.halfway.held);
    }

pub returns-clause-filings : goal.returns-clause-filings
returns-clause-filings g c =
    let entry : Filed = record c.args.entry { status = c.compare-status.result } in
    let upto = beside_upto c.args.self.now.entries c.args.place c.requires.room.beside in
    ap filings_of (c.insert.ensures.items ∙ ap (λ e. insert (chunked c.args.self.now.entries) (index_of c.args.self.now.entries c.args.place) e) c.set_status.ensures)
    ∙ set_new c.args.self.now.comparer.values.code _ _ _ _ _ entry c.requires.kept.halfway.settling upto c.requires.room.gap c.requires.room.fits
