-- An addition to a game keeps what its fields keep.
use Rattle.std.proofs.Common.{◌≡◌, true, inl, inr, Result, Ok, Err, Some, OnOk, OnErr, get_or, sym, ap, ◌∙◌, subst}
use Rattle.std.specs.Cmp.{Equal-is, tied_itself}
use Rattle.std.specs.Option.{IsSome}
use Rattle.std.specs.Ordering.{eq_by_cmp, is_eq}
use Rattle.std.proofs.lemmas.List.Folds.{list_any_at}
use Rattle.std.proofs.lemmas.Bool.{or_cases, true≢false}
use Rattle.oct_code.specs.Code.{Code}
use Rattle.oct_ops.specs.Body as kind
use Rattle.oct_ops.specs.Body.{Operation}
use Rattle.oct_ops.specs.Games.{game_of, game_of_body}
use Rattle.oct_ops.specs.Sets as sets
use Rattle.oct_ops.specs.SetLaws.{contains-insert, contains-listed}
use Rattle.oct_verify.specs.Filing.{Filing, GameBlocks, block_of, filing_cmp, with_block_at, with_block_of}
use Rattle.oct_verify.specs.FilingLaws.{filing_cmp_total, filing_cmp_exact}
use Rattle.oct_period.specs.Claims.{Claim, Claims, AreOfGame, claim_cmp}
use Rattle.oct_period.specs.ClaimLaws.{claim_cmp_total, claim_cmp_exact}

abbrev pub BlocksAreOf : GameBlocks → Type 0
BlocksAreOf l = (f : Filing) → sets.contains l.blocks f ≡ true → f.1.code ≡ l.code

abbrev pub ClaimsAreOf : Code → Claims → Type 0
ClaimsAreOf code claims = (c : Claim) → sets.contains claims c ≡ true → c.1.code ≡ code

block_more : (l : GameBlocks) (f : Filing) → f.1.code ≡ l.code → BlocksAreOf l → BlocksAreOf (record l { blocks = sets.insert l.blocks f })
block_more l f game each d here = elim (or_cases (eq_by_cmp filing_cmp d f) (sets.contains l.blocks d) (sym (contains-insert filing_cmp_total filing_cmp_exact l.blocks f d) ∙ here)) [
  | inl tied ↦ let same : d ≡ f = filing_cmp_exact d f ((Equal-is (filing_cmp d f)).0 tied) in ap (λ (e : Filing). e.1.code) same ∙ game
  | inr there ↦ each d there
]

pub claim_more : (code : Code) (claims : Claims) (f : Claim) → f.1.code ≡ code → ClaimsAreOf code claims → ClaimsAreOf code (sets.insert claims f)
claim_more code claims f game each d here = elim (or_cases (eq_by_cmp claim_cmp d f) (sets.contains claims d) (sym (contains-insert claim_cmp_total claim_cmp_exact claims f d) ∙ here)) [
  | inl tied ↦ let same : d ≡ f = claim_cmp_exact d f ((Equal-is (claim_cmp d f)).0 tied) in ap (λ (e : Claim). e.1.code) same ∙ game
  | inr there ↦ each d there
]

-- a ledger after an addition that may be refused
pub block_added : {T E : Type 0} (r : Result T E) (old new : GameBlocks) (f : Filing) → f.1.code ≡ old.code → OnOk r (new ≡ record old { blocks = sets.insert old.blocks f }) → OnErr r (new ≡ old) → (new.code ≡ old.code) × (BlocksAreOf old → BlocksAreOf new)
block_added (Ok v) old new f game ok err = (ap (λ (l : GameBlocks). l.code) ok, λ each. subst BlocksAreOf (sym ok) (block_more old f game each))
block_added (Err e) old new f game ok err = (ap (λ (l : GameBlocks). l.code) err, λ each. subst BlocksAreOf (sym err) each)

-- and after one of an operation's block
pub block_shared : {T E : Type 0} (r : Result T E) (old new : GameBlocks) (o : Operation) → IsSome (block_of o.body) → game_of o ≡ Some old.code → OnOk r (new ≡ with_block_of old o) → OnErr r (new ≡ old) → (new.code ≡ old.code) × (BlocksAreOf old → BlocksAreOf new)
block_shared {T} {E} r old new o = elim o.body as (λ body. IsSome (block_of body) → game_of_body body ≡ Some old.code → OnOk r (new ≡ with_block_at old o.dot (block_of body)) → OnErr r (new ≡ old) → (new.code ≡ old.code) × (BlocksAreOf old → BlocksAreOf new)) [
  | kind.Block b ↦ λ some game ok err. let same : b.code ≡ old.code = cc in block_added r old new (o.dot, b) same ok err
  | kind.Period p ↦ λ none game ok err. absurd (true≢false (sym none))
  | kind.Note n ↦ λ none game ok err. absurd (true≢false (sym none))
  | kind.Removal m ↦ λ none game ok err. absurd (true≢false (sym none))
]

-- each listed claim is one of the set
pub listed_of : (code : Code) (claims : Claims) → ClaimsAreOf code claims → AreOfGame code (sets.listed claims)
listed_of code claims each k d lt =
    let x = get_or (sets.listed claims) k d in
    each x (contains-listed claims x ∙ list_any_at (eq_by_cmp claim_cmp x) (sets.listed claims) k d lt (ap is_eq (tied_itself claim_cmp_total x)))
