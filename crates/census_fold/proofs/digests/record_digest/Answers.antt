use Rattle.std.proofs.Common.{◌<◌, ◌^◌, ◌++◌, length, arith, ap, refl, ◌∙◌}
use Rattle.hex.specs.Hex.{encode_lower}
use Rattle.sha2.specs.Sha256.{sha256}
use Rattle.oct_delta.specs.Delta.{encoded, head_bytes}
use Rattle.oct_ops.specs.Operations.{listed}
use Rattle.census_fold.proofs.Digested.{set_digested, written}
use Rattle.census_fold.proofs.Hashing.{headed}
use Rattle.census_fold.proofs.digests.record_digest.Goals as goal

pub returns-clause-ok : goal.returns-clause-ok
returns-clause-ok c =
    let ops = c.args.held.now.ops in
    let all = listed ops in
    let few : length all < 2 ^ 32 = omega (arith, c.len.ensures, c.if-len.false) in
    let head = c.in_ok-put_head.ensures.ok ∙ ap (λ h. h ++ head_bytes c.iter.result) c.new-head.ensures.items in
    let text = headed c.put_head.new.out.items c.iter.result c.iter-2.result all head (c.iter.ensures ∙ ap listed c.store.ensures) (c.iter-2.ensures ∙ ap listed c.store-2.ensures) in
    set_digested ops (encoded all) _ (written ops (encoded all) few refl)
    (ap (λ digits. digits.items) c.into_bytes.ensures.value ∙ c.in_ok-digits.ensures ∙ ap encode_lower (c.in_ok-hash.ensures ∙ ap sha256 text))
