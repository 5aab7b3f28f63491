use Rattle.std.specs.Int.{w128}
use Rattle.fx_word.proofs.Near.{step_shown, room_shown}
use Rattle.fx_word.proofs.arithmetic.nearest_with_room_in_128.Goals as goal

pub overflow_add-result : goal.overflow_add-result
overflow_add-result c = room_shown w128 c.args.v c.args.s c.requires.low c.ranges.v c.requires.room

pub returns : goal.returns
returns c = step_shown w128 c.args.v c.args.s c.requires.low c.ranges.v c.requires.room
