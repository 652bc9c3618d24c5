use Rattle.std.proofs.Common.{List, sym, ap, ◌∙◌, subst}
use Rattle.oct_ops.specs.Sets as sets
use Rattle.oct_ops.specs.SetLaws.{contains-keys, keys_added}
use Rattle.oct_period.specs.Claims.{Claim, Claims, claim_cmp}
use Rattle.oct_period.specs.ClaimLaws.{claim_cmp_total, claim_cmp_exact}
use Rattle.oct_period.specs.GameContent.{GameContent}
use Rattle.oct_period.proofs.Added.{ClaimsAreOf, claim_more}
use Rattle.oct_period.proofs.game.Game.add_period.Goals as goal
use Rattle.oct_period.proofs.game.Game.add_period.Goals.{in-Ok, in-Err}

pub invariant_of-self : goal.invariant_of-self
invariant_of-self g c =
    let code = c.self.inside.ledger.code in
    let game = c.requires ∙ sym (ap (λ (h : GameContent). h.code) c.self.view_is) in
    record {
      sorted = c.insert.ensures.ordered;
      blocks = c.self.invariant.blocks;
      claims = elim c.match-insert.branch [
        | in-Ok w ↦
            subst (ClaimsAreOf code) (sym (keys_added claim_cmp_total claim_cmp_exact c.self.inside.claims c.insert.new.self (c.args.dot, c.args.period) w.in-Ok.ensures.updates))
            (claim_more code (sets.set_of c.self.inside.claims.keys) (c.args.dot, c.args.period) game c.self.invariant.claims)
        | in-Err w ↦ subst (λ (keys : List Claim). ClaimsAreOf code (sets.set_of {R = claim_cmp} keys)) (sym w.in-Err.ensures.err) c.self.invariant.claims
      ];
    }

pub returns-clause-ok : goal.returns-clause-ok
returns-clause-ok g c =
    let ledger = c.self.inside.ledger in
    let claim : Claim = (c.args.dot, c.args.period) in
    elim c.match-insert.branch [
      | in-Ok w ↦
          rw w.result-is
          (ap (λ (claims : Claims). record { code = ledger.code; blocks = ledger.blocks; claims = claims }) (keys_added claim_cmp_total claim_cmp_exact c.self.inside.claims c.insert.new.self claim w.in-Ok.ensures.updates)
          ∙ ap (λ (h : GameContent). record h { claims = sets.insert h.claims claim }) c.self.view_is)
      | in-Err w ↦ rw w.result-is tt
    ]

pub returns-clause-absent : goal.returns-clause-absent
returns-clause-absent g c =
    let claim : Claim = (c.args.dot, c.args.period) in
    let seen = sym (contains-keys claim_cmp_total claim_cmp_exact c.self.inside.claims claim) ∙ ap (λ (h : GameContent). sets.contains h.claims claim) c.self.view_is in
    elim c.match-insert.branch [
      | in-Ok w ↦ rw w.result-is tt
      | in-Err w ↦ rw w.result-is (sym seen ∙ w.in-Err.ensures.absent)
    ]
