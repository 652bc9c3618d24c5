use Rattle.std.proofs.Common.{ℕ, ◌<◌, ◌^◌, length, get_or, sym, ap, subst, arith}
use Rattle.std.proofs.lemmas.List.Elements.{All-push}
use Rattle.oct_saved.proofs.Bytes.{bytes_more, number_bytes-length, part_fits}
use Rattle.oct_saved.specs.Saved.{AreWords, number_bytes}
use Rattle.oct_saved.proofs.reading.numbers_of.Goals as goal

pub returns-then-body-ne0-clause-err : goal.returns-then-body-ne0-clause-err
returns-then-body-ne0-clause-err g c = λ (xs, is). omega (arith, ap length is, number_bytes-length xs)

pub loop-rest-preserved : goal.loop-rest-preserved
loop-rest-preserved g c =
    let front = c.split_at.result.0.now in
    let fits : (i : ℕ) → get_or front i 0 < 256 =
    part_fits c.args.body.now (number_bytes c.loop-rest.numbers.items) c.loop-rest.rest.now front c.loop-rest.invariant.bytes c.split_at.ensures.front (λ i. omega (arith, c.type_inv.body i)) in
    record {
      bytes = bytes_more c.args.body.now c.loop-rest.rest.now front c.split_at.result.1.now c.loop-rest.numbers.items c.push_reserved.new.self.items c.read_u64.result
          c.loop-rest.invariant.bytes c.split_at.ensures.front c.split_at.ensures.back c.split_at.ensures.front_len fits c.read_u64.ensures c.push_reserved.ensures.items;
      size = omega arith;
      words = subst AreWords (sym c.push_reserved.ensures.items) (All-push (λ n. n < 2 ^ 64) c.loop-rest.numbers.items c.read_u64.result c.loop-rest.invariant.words (omega (arith, c.read_u64.type_inv)));
      room = omega arith;
    }
