use Rattle.oct_delta.proofs.Rising.{text_found, rest_shorter}
use Rattle.oct_delta.proofs.input.Input.op_text.Goals as goal

pub slice_bounds-result-count : goal.slice_bounds-result-count
slice_bounds-result-count c = rest_shorter c.args.limit c.requires c.args.self.now c.skip_op.new.self c.rest-before.result.now c.rest.result.now c.rest-before.ensures.rest c.rest.ensures.rest c.rest-before.ensures.bytes c.in_ok-skip_op.ensures

pub returns-clause-text : goal.returns-clause-text
returns-clause-text c = text_found c.args.limit c.requires c.args.self.now c.skip_op.new.self c.rest-before.result.now c.rest.result.now c.rest-before.ensures.rest c.rest.ensures.rest c.rest-before.ensures.bytes c.in_ok-skip_op.ensures
