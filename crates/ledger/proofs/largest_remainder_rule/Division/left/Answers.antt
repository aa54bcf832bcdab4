use Rattle.std.proofs.Common.{◌+◌, arith}
use Rattle.ledger.specs.LargestLemmas.{small_product, floors_more, floors_front}
use Rattle.ledger.proofs.largest_remainder_rule.Division.left.Goals as goal

pub overflow_mul-given : goal.overflow_mul-given
overflow_mul-given c = omega (arith, small_product c.args.self.now.small c.loop-weight.weight-index c.loop-weight-test.true)

pub overflow_add-given : goal.overflow_add-given
overflow_add-given c =
    let ws = c.args.self.now.weights.now in
    let i = c.loop-weight.weight-index in
    omega (arith, c.loop-weight.invariant, c.args.self.now.enough, c.args.self.now.small.size_small, floors_more c.args.self.now.size c.args.self.now.divisor ws i c.loop-weight-test.true, floors_front c.args.self.now.size c.args.self.now.divisor ws (i + 1))
