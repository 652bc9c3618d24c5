use Rattle.std.proofs.Common.{arith}
use Rattle.oct_window.proofs.Held.{told}
use Rattle.oct_window.proofs.window.Window.next_cell.Goals as goal

pub returns-then-value-lt-MARKS-clause-value : goal.returns-then-value-lt-MARKS-clause-value
returns-then-value-lt-MARKS-clause-value g c known =
    let w = c.args.self.now in
    let s = c.requires.shaped in
    let e = c.in_ok-value.ensures in
    (told w.code w.rare.mask w.reach w.count w.used c.in_ok-value.value c.deref.result.now w.held.items w.rare.heaps.items c.args.marks.now c.deref.ensures.value (omega arith)
    known.held known.fit s.some known.rare s.few s.table known.common e.common e.settles).0

pub returns-then-value-lt-MARKS-clause-settled : goal.returns-then-value-lt-MARKS-clause-settled
returns-then-value-lt-MARKS-clause-settled g c known =
    let w = c.args.self.now in
    let s = c.requires.shaped in
    let e = c.in_ok-value.ensures in
    (told w.code w.rare.mask w.reach w.count w.used c.in_ok-value.value c.deref.result.now w.held.items w.rare.heaps.items c.args.marks.now c.deref.ensures.value (omega arith)
    known.held known.fit s.some known.rare s.few s.table known.common e.common e.settles).1
