use Rattle.std.proofs.Common.{◌++◌, ap, subst, ◌∙◌}
use Rattle.std.specs.Io.BufRead.{FillKeeps}
use Rattle.std.proofs.lemmas.Option.{IfSome_then}
use Rattle.census_fold.proofs.LineEnds.{line_is_shown}
use Rattle.census_fold.proofs.taken.take_buffered.Goals as goal

pub returns-clause-line : goal.returns-clause-line
returns-clause-line g c = λ _.
    let shown = c.in-Ok.available.now in
    let rested = c.fill_buf.follows.lender-at-none in
    let filled = subst (FillKeeps _ (g.B.Read.remaining rested) (g.B.BufRead.consumable_len rested)) c.in-Ok.is c.fill_buf.follows.holds-at-none in
    let read = line_is_shown _ _ _ _ shown c.in-Some.at c.in-Some.ensures.0.high c.in-Some.ensures c.in-Ok.ensures.front c.in-Ok.ensures.end filled.0 filled.1 c.consume.ensures.bytes in
    let old = c.args.line.now.items in
    let new = c.extend_from_slice.new.self.items in
    IfSome_then (g.B.Read.remaining c.args.input.now) read.0 (λ xs e. c.in_ok-extend_from_slice.ensures.items ∙ ap (λ l. old ++ l) e)

pub returns-clause-rest : goal.returns-clause-rest
returns-clause-rest g c = λ _.
    let shown = c.in-Ok.available.now in
    let rested = c.fill_buf.follows.lender-at-none in
    let filled = subst (FillKeeps _ (g.B.Read.remaining rested) (g.B.BufRead.consumable_len rested)) c.in-Ok.is c.fill_buf.follows.holds-at-none in
    (line_is_shown _ _ _ _ shown c.in-Some.at c.in-Some.ensures.0.high c.in-Some.ensures c.in-Ok.ensures.front c.in-Ok.ensures.end filled.0 filled.1 c.consume.ensures.bytes).1
