use Rattle.std.proofs.Common.{arith}
use Rattle.ledger.specs.LargestLemmas.{small_product}
use Rattle.ledger.proofs.largest_remainder_rule.Division.rows_from.Goals as goal

pub overflow_mul-self : goal.overflow_mul-self
overflow_mul-self c = omega (arith, small_product c.args.self.now.small c.loop-weight.weight-index c.loop-weight-test.true)
