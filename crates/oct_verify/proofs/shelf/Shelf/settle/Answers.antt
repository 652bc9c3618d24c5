use Rattle.std.proofs.Common.{◌≡◌, ◌≤◌, get_or, sym, ap, subst, ◌∙◌, arith}
use Rattle.oct_ops.specs.Sets.{set_of}
use Rattle.oct_verify.specs.Filed.{Filed}
use Rattle.oct_verify.specs.Kept.{Fits, filing_of, filings_of}
use Rattle.oct_verify.specs.Known.{verdict}
use Rattle.chunked.specs.Chunked.{chunked, index_of}
use Rattle.oct_verify.proofs.Ending.{ends_within}
use Rattle.oct_verify.proofs.Keeping.{grown_within, held_grown, settle_next, end_fits}
use Rattle.chunked.proofs.Lists.{map-set_same}
use Rattle.oct_verify.proofs.shelf.Shelf.settle.Goals as goal

pub compare-status-requires-clause-room : goal.compare-status-requires-clause-room
compare-status-requires-clause-room g c =
    let entry = c.item_at.result.now in
    let is : get_or (chunked c.args.self.now.entries) c.args.self.now.comparer.checks entry ≡ entry = ap (λ i. get_or (chunked c.args.self.now.entries) i entry) (sym c.requires.reached.next) ∙ c.item_at.ensures in
    rw c.block-block.ensures (subst (λ (e : Filed). Fits c.args.self.now.comparer.values.code c.args.self.now.comparer.values.room (filing_of e)) is (end_fits c.args.self.now.comparer.values.code _ _ _ _ _ entry c.requires.halfway.settling c.requires.reached.waits)).within

pub compare-status-requires-clause-game : goal.compare-status-requires-clause-game
compare-status-requires-clause-game g c =
    let entry = c.item_at.result.now in
    let is : get_or (chunked c.args.self.now.entries) c.args.self.now.comparer.checks entry ≡ entry = ap (λ i. get_or (chunked c.args.self.now.entries) i entry) (sym c.requires.reached.next) ∙ c.item_at.ensures in
    rw c.block-block.ensures (subst (λ (e : Filed). Fits c.args.self.now.comparer.values.code c.args.self.now.comparer.values.room (filing_of e)) is (end_fits c.args.self.now.comparer.values.code _ _ _ _ _ entry c.requires.halfway.settling c.requires.reached.waits)).game

pub compare-status-requires-clause-count : goal.compare-status-requires-clause-count
compare-status-requires-clause-count g c = omega (arith, c.requires.reached.waits, c.requires.halfway.chunks.small, c.requires.halfway.chunks.count)

pub returns-clause-halfway : goal.returns-clause-halfway
returns-clause-halfway g c =
    let entry = c.item_at.result.now in
    let es = chunked c.args.self.now.entries in
    let k = c.args.self.now.comparer.checks in
    let new : Filed = record entry { status = c.compare-status.result } in
    let is : get_or es k entry ≡ entry = ap (λ i. get_or es i entry) (sym c.requires.reached.next) ∙ c.item_at.ensures in
    let reached : entry.block.start ≤ c.args.self.now.known = subst (λ (e : Filed). e.block.start ≤ c.args.self.now.known) is (c.requires.reached.reached entry) in
    let judged = c.compare-status.ensures.status ∙ ap verdict c.block-block.ensures in
    record {
      chunks = c.change_at.ensures.chunked;
      settling = rw (c.change_at.ensures.items entry c.item_at.ensures, c.requires.reached.next, c.grown-self.ensures, c.end.ensures.value, c.block-block.ensures, c.compare-status.ensures.room, c.compare-status.ensures.code, c.compare-status.ensures.count)
          (settle_next c.args.self.now.comparer.values.code es k _ _ new entry c.requires.halfway.settling c.requires.reached.waits (ap filing_of (sym is)) reached judged);
      within = rw (c.grown-self.ensures, c.end.ensures.value, c.block-block.ensures) (grown_within c.compare-status.result _ _ _ c.requires.halfway.within (ends_within entry.block (rw c.block-block.ensures at c.end.ensures.valid)));
      held = rw (c.grown-self.ensures, c.end.ensures.value, c.compare-status.ensures.len) (held_grown c.compare-status.result _ _ _ c.requires.halfway.held);
    }

pub returns-clause-filings : goal.returns-clause-filings
returns-clause-filings g c =
    let entry = c.item_at.result.now in
    let es = chunked c.args.self.now.entries in
    let new : Filed = record entry { status = c.compare-status.result } in
    ap filings_of (c.change_at.ensures.items entry c.item_at.ensures)
    ∙ ap (λ fs. set_of fs) (map-set_same es (index_of c.args.self.now.entries c.args.place) new filing_of entry (ap filing_of (sym c.item_at.ensures)))
