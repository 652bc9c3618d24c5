use Rattle.std.proofs.Common.{◌≡◌, length, eqb, refl, sym, ap, ◌∙◌, arith, false}
use Rattle.oct_answer.specs.Left.{left}
use Rattle.oct_answer.proofs.Leaving.{end_sent, pack_sent, pack_short, none_of}
use Rattle.oct_answer.proofs.missing.Missing.put_next.Goals as goal

pub returns-then-is_empty-clause-ok : goal.returns-then-is_empty-clause-ok
returns-then-is_empty-clause-ok g c =
    let m = c.self.inside in
    let len : length c.in_ok-next.next.ops.items ≡ c.in_ok-next.next.ops.len = omega (arith, c.in_ok-next.next.ops.ok) in
    end_sent _ _ _ _ _ _ c.args.out.now.items c.put_end.new.out.items c.args.self.now _ c.in_ok-next.ensures
    (none_of c.in_ok-next.next.ops.items (ap (λ n. eqb n 0) len ∙ sym c.is_empty.ensures ∙ c.if-is_empty.true))
    (ap (λ h. left h m.clock m.at false) c.deref.ensures ∙ ap (left m.snapshot.value m.clock m.at) (sym c.if-self.false) ∙ c.self.view_is)
    refl c.in_ok-put_end.ensures.ok

pub returns-clause-ok : goal.returns-clause-ok
returns-clause-ok g c =
    let m = c.self.inside in
    let end = c.in_ok-next.next.end in
    let len : length c.in_ok-next.next.ops.items ≡ c.in_ok-next.next.ops.len = omega (arith, c.in_ok-next.next.ops.ok) in
    pack_sent _ _ _ _ _ _ c.args.out.now.items c.put_pack.new.out.items c.args.self.now (left m.snapshot.value m.clock end m.is_over) c.in_ok-next.ensures
    (ap (λ n. eqb n 0) len ∙ sym c.is_empty.ensures ∙ c.if-is_empty.false)
    (ap (λ h. left h m.clock m.at false) c.deref.ensures ∙ ap (left m.snapshot.value m.clock m.at) (sym c.if-self.false) ∙ c.self.view_is)
    (ap (λ h. left h m.clock end false) c.deref.ensures ∙ ap (left m.snapshot.value m.clock end) (sym c.if-self.false))
    c.in_ok-put_pack.ensures.ok

pub returns-clause-few : goal.returns-clause-few
returns-clause-few g c = (pack_short _ _ _ _ _ _ c.args.out.now.items c.put_pack.new.out.items c.in_ok-next.ensures c.in_ok-put_pack.ensures.ok).1
