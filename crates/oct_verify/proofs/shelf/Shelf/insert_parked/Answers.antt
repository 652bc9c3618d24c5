use Rattle.std.proofs.Common.{ap, ◌∙◌}
use Rattle.oct_verify.specs.Kept.{filings_of}
use Rattle.oct_verify.proofs.Keeping.{park_new, gap_after, set_new}
use Rattle.oct_verify.proofs.Growing.{beside_upto}
use Rattle.oct_verify.proofs.shelf.Shelf.insert_parked.Goals as goal

pub returns-clause-halfway : goal.returns-clause-halfway
returns-clause-halfway g c =
    let settling = c.requires.kept.halfway.settling in
    let upto = beside_upto c.args.self.now.entries c.args.place c.requires.room.beside in
    let gap = c.requires.room.gap in
    record {
      chunks = c.insert.ensures.chunked;
      settling = rw c.insert.ensures.items (park_new c.args.self.now.comparer.values.code _ _ _ _ _ c.args.entry settling upto gap c.requires.room.fits (gap_after c.args.self.now.comparer.values.code _ _ _ _ _ c.args.entry settling upto gap c.requires.beyond) c.requires.pending);
      within = c.requires.kept.halfway.within;
      held = c.requires.kept.halfway.held;
    }

pub returns-clause-filings : goal.returns-clause-filings
returns-clause-filings g c =
    let upto = beside_upto c.args.self.now.entries c.args.place c.requires.room.beside in
    ap filings_of c.insert.ensures.items ∙ set_new c.args.self.now.comparer.values.code _ _ _ _ _ c.args.entry c.requires.kept.halfway.settling upto c.requires.room.gap c.requires.room.fits
