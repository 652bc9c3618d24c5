use Rattle.std.proofs.Common.{◌∙◌, ap, arith}
use Rattle.oct_mex.specs.NimValues.{nim_value}
use Rattle.oct_window.proofs.Compared.{again_more, breaks}
use Rattle.oct_window.proofs.comparison.Comparison.compare_next.Goals as goal

pub returns-in_default-clause-compared : goal.returns-in_default-clause-compared
returns-in_default-clause-compared g c code row compared right later = record {
  first = compared.first;
  second = c.next.ensures.right code compared.second later;
  again = compared.again;
  earliest = compared.earliest;
}

pub returns-in_default-next-clause-compared : goal.returns-in_default-next-clause-compared
returns-in_default-next-clause-compared g c code row compared right later = record {
  first = c.next-2.ensures.right code compared.first right;
  second = c.next.ensures.right code compared.second later;
  again = λ n low near. compared.again n low (omega (arith, c.in_default-next.ensures.heap));
  earliest = compared.earliest;
}

pub returns-then-value-again-clause-compared : goal.returns-then-value-again-clause-compared
returns-then-value-again-clause-compared g c code row compared right later =
    let k = c.args.self.now in
    let value = c.in-Some-next.ensures.value code row compared.first right in
    let again = c.in-Some.ensures.value code row compared.second later ∙ ap (nim_value code) c.requires.ahead in
    record {
      first = c.next-2.ensures.right code compared.first right;
      second = c.next.ensures.right code compared.second later;
      again = λ n low near. absurd (omega arith);
      earliest = λ more. breaks code k.period k.first.heap c.in-Some-next.value c.in-Some.again value again c.next-2.new.self.heap c.in-Some-next.ensures.heap c.if-value-again.true;
    }

pub returns-else-value-again-clause-compared : goal.returns-else-value-again-clause-compared
returns-else-value-again-clause-compared g c code row compared right later =
    let k = c.args.self.now in
    let value = c.in-Some-next.ensures.value code row compared.first right in
    let again = c.in-Some.ensures.value code row compared.second later ∙ ap (nim_value code) c.requires.ahead in
    record {
      first = c.next-2.ensures.right code compared.first right;
      second = c.next.ensures.right code compared.second later;
      again = again_more code k.period k.first.heap c.in-Some-next.value c.in-Some.again value again k.start c.next-2.new.self.heap c.in-Some-next.ensures.heap c.if-value-again.false compared.again;
      earliest = compared.earliest;
    }

pub returns-in_default-clause-right_later : goal.returns-in_default-clause-right_later
returns-in_default-clause-right_later g c code compared later = c.next.ensures.sets code compared.second later

pub returns-in_default-next-clause-right : goal.returns-in_default-next-clause-right
returns-in_default-next-clause-right g c code compared right = c.next-2.ensures.sets code compared.first right

pub returns-in_default-next-clause-right_later : goal.returns-in_default-next-clause-right_later
returns-in_default-next-clause-right_later g c code compared later = c.next.ensures.sets code compared.second later

pub returns-then-value-again-clause-right : goal.returns-then-value-again-clause-right
returns-then-value-again-clause-right g c code compared right = c.next-2.ensures.sets code compared.first right

pub returns-then-value-again-clause-right_later : goal.returns-then-value-again-clause-right_later
returns-then-value-again-clause-right_later g c code compared later = c.next.ensures.sets code compared.second later

pub returns-else-value-again-clause-right : goal.returns-else-value-again-clause-right
returns-else-value-again-clause-right g c code compared right = c.next-2.ensures.sets code compared.first right

pub returns-else-value-again-clause-right_later : goal.returns-else-value-again-clause-right_later
returns-else-value-again-clause-right_later g c code compared later = c.next.ensures.sets code compared.second later
