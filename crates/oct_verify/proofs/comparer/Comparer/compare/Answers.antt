use Rattle.std.proofs.Common.{◌≡◌, ℕ, ◌≤◌, max, refl, ◌∙◌, ap, arith, sym}
use Rattle.oct_mex.specs.Held.{Held}
use Rattle.oct_verify.specs.Known.{end}
use Rattle.oct_verify.proofs.Verdicts.{compared_equal, compared_differ}
use Rattle.oct_verify.proofs.comparer.Comparer.compare.Goals as goal

either_first : (a b : ℕ) → max a b ≡ max b a
either_first a b = omega arith

pub returns-in-None-clause-status : goal.returns-in-None-clause-status
returns-in-None-clause-status g c =
    let b = c.args.block.now in
    let held = c.extend_within.new.self in
    let code : held.code ≡ b.code = ap (λ (h : Held). h.code) c.extend_within.ensures ∙ sym c.requires.game in
    let far : end b ≤ held.len = omega (arith, ap (λ (h : Held). h.len) c.extend_within.ensures, c.end-end.ensures.value) in
    let same = rw (c.values-claimed.ensures.value, c.start-start.ensures.value, c.end-end.ensures.value, c.as_slice.ensures.values, code) at c.in-None.ensures in
    compared_equal b held.len far same

pub returns-in-Some-clause-status : goal.returns-in-Some-clause-status
returns-in-Some-clause-status g c =
    let b = c.args.block.now in
    let held = c.extend_within.new.self in
    let code : held.code ≡ b.code = ap (λ (h : Held). h.code) c.extend_within.ensures ∙ sym c.requires.game in
    let far : end b ≤ held.len = omega (arith, ap (λ (h : Held). h.len) c.extend_within.ensures, c.end-end.ensures.value) in
    let differ = rw (c.values-claimed.ensures.value, c.start-start.ensures.value, c.end-end.ensures.value, c.as_slice.ensures.values, code) at c.in-Some.ensures in
    rw (c.values-claimed.ensures.value, c.start-start.ensures.value, c.end-end.ensures.value, c.as_slice.ensures.values, code)
    (compared_differ b held.len c.in-Some.index far differ.within differ.differs differ.before)

pub returns-in-None-clause-count : goal.returns-in-None-clause-count
returns-in-None-clause-count g c = refl

pub returns-in-None-clause-code : goal.returns-in-None-clause-code
returns-in-None-clause-code g c = ap (λ (h : Held). h.code) c.extend_within.ensures

pub returns-in-None-clause-len : goal.returns-in-None-clause-len
returns-in-None-clause-len g c = ap (λ (h : Held). h.len) c.extend_within.ensures ∙ either_first c.end-end.result c.args.self.now.values.len ∙ ap (max c.args.self.now.values.len) c.end-end.ensures.value

pub returns-in-None-clause-room : goal.returns-in-None-clause-room
returns-in-None-clause-room g c = ap (λ (h : Held). h.room) c.extend_within.ensures

pub returns-in-Some-clause-count : goal.returns-in-Some-clause-count
returns-in-Some-clause-count g c = refl

pub returns-in-Some-clause-code : goal.returns-in-Some-clause-code
returns-in-Some-clause-code g c = ap (λ (h : Held). h.code) c.extend_within.ensures

pub returns-in-Some-clause-len : goal.returns-in-Some-clause-len
returns-in-Some-clause-len g c = ap (λ (h : Held). h.len) c.extend_within.ensures ∙ either_first c.end-end.result c.args.self.now.values.len ∙ ap (max c.args.self.now.values.len) c.end-end.ensures.value

pub returns-in-Some-clause-room : goal.returns-in-Some-clause-room
returns-in-Some-clause-room g c = ap (λ (h : Held). h.room) c.extend_within.ensures
