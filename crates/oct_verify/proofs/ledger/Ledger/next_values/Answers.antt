use Rattle.std.proofs.Common.{◌≡◌, ◌+◌, ◌-◌, ◌≤◌, drop, take, length, length-drop, ap, ◌∙◌, arith}
use Rattle.std.proofs.lemmas.List.{length-take-le}
use Rattle.std.proofs.lemmas.Result.{IfOk-weaker}
use Rattle.oct_mex.specs.Held.{Held}
use Rattle.oct_mex.specs.NimValues.{nim_values}
use Rattle.oct_verify.specs.Filing.{GameBlocks, blocks_in}
use Rattle.oct_verify.specs.Next.{next_values}
use Rattle.oct_verify.proofs.Lookup.{part_of_values}
use Rattle.oct_verify.proofs.ledger.Ledger.next_values.Goals as goal

pub returns-clause-values : goal.returns-clause-values
returns-clause-values g c =
    let game = c.args.self.now in
    let start = c.known-start.result in
    let held = c.extend_to.new.self in
    let code : held.code ≡ game.code =
    ap (λ (h : Held). h.code) c.in_ok-extend_to.ensures.ok ∙ ap (λ (h : Held). h.code) c.in_ok-values.ensures ∙ ap (λ (h : GameBlocks). h.code) c.self.view_is in
    let far : start + c.args.count ≤ held.len = omega (arith, ap (λ (h : Held). h.len) c.in_ok-extend_to.ensures.ok) in
    let part : take (start + c.args.count - start) (drop start c.as_slice.result.now) ≡ next_values game.code (blocks_in game.blocks) c.args.count =
    ap (λ vs. take (start + c.args.count - start) (drop start vs)) c.as_slice.ensures.values
    ∙ part_of_values held.code held.len start c.args.count far
    ∙ (λ i. drop (c.known-start.ensures.value i) (nim_values (code i) (c.known-start.ensures.value i + c.args.count))) in
    IfOk-weaker c.from_slice.result _ _ (λ next is. is ∙ part) c.from_slice.ensures.items

pub returns-clause-len : goal.returns-clause-len
returns-clause-len g c =
    let start = c.known-start.result in
    let held = c.extend_to.new.self in
    let slice = c.as_slice.result.now in
    let far : start + c.args.count ≤ length slice = omega (arith, ap (λ (h : Held). h.len) c.in_ok-extend_to.ensures.ok, c.as_slice.ensures.len) in
    let fits : start + c.args.count - start ≤ length (drop start slice) = omega (arith, length-drop start slice) in
    let size : length (take (start + c.args.count - start) (drop start slice)) ≡ c.args.count = length-take-le (start + c.args.count - start) (drop start slice) fits ∙ omega arith in
    IfOk-weaker c.from_slice.result _ _ (λ next is. ap length is ∙ size) c.from_slice.ensures.items
