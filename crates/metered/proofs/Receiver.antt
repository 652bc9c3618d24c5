-- The allocator that a method of the metered one is called on. Assumes `Logic`.
use Rattle.std.proofs.Common.{[], ◌∷◌}
use mir.Syntax.{Args, a_type, dnil, dcons}
use denote.Builtin.{RefOf}
use denote.Param.{bounded, param}
use denote.Signature.{Slot, plain}
use Rattle.std.proofs.alloc.Calls.{Al}
use Rattle.metered.specs.contracts.Metered as wrapper

module _ (Z : Al) where
  abbrev pub args : Args
  args = bounded (a_type ∷ []) (Z.row, tt) (dcons Z.d (dcons Z.drops dnil))

  abbrev pub self : Slot 2
  self = RefOf (0 ∷ []) tt (plain (λ _. wrapper.the_row (param 0 Z.row))) (λ _. tt)
