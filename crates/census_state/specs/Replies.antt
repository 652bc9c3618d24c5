-- What a command gives, as bytes.
use Rattle.std.specs.Prelude.{Option, Some, None, option_map}
use Rattle.oct_delta.specs.Text.{Bytes}
use Rattle.census_state.specs.declared.reply.Reply.{Reply}

-- the new text of the state file and the bytes of another file, where they are written, and the text of standard output
pub record Answer : Type 0 where
  pub state : Option Bytes
  pub file : Option Bytes
  pub text : Bytes

-- what a reply holds
abbrev pub answer_of : Reply → Answer
answer_of r = record { state = option_map (λ bytes. bytes.items) r.state; file = option_map (λ bytes. bytes.items) r.file; text = r.text.items }

-- a text alone
abbrev pub text_alone : Bytes → Answer
text_alone text = record { state = None; file = None; text = text }

-- a new state, and a text
abbrev pub state_and_text : Bytes → Bytes → Answer
state_and_text state text = record { state = Some state; file = None; text = text }
