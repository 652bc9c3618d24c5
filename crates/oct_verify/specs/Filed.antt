-- A block under its dot, with its status.
use Rattle.std.specs.Prelude.{[], unwrap_or}
use Rattle.oct_ops.specs.Body.{Body, Operation}
use Rattle.oct_ops.specs.Operation.{Dot, Block, claimed}
use Rattle.oct_verify.specs.Filing.{Filing, block_of}
use Rattle.oct_verify.specs.declared.status.Status.{Status}

pub record Filed : Type 0 where
  pub dot : Dot
  pub block : Block
  pub status : Status

-- the block of a body that is one
abbrev pub block_in : Body → Block
block_in body = unwrap_or (block_of body) (claimed (record { head = 0; digits = [] }) 0 [])

-- what an operation files that is a block
abbrev pub filing_in : Operation → Filing
filing_in o = (o.dot, block_in o.body)

-- its entry with this status
abbrev pub filed_of : Operation → Status → Filed
filed_of o status = record { dot = o.dot; block = block_in o.body; status = status }
