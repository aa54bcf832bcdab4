use Rattle.std.proofs.Common.{arith}
use Rattle.ledger.specs.LargestLemmas.{small_front, floors_front}
use Rattle.ledger.proofs.largest_remainder_rule.Division.before.Goals as goal

pub invariant_of-result : goal.invariant_of-result
invariant_of-result c = record {
  small = small_front c.args.self.now.small c.args.i;
  enough = omega (arith, c.args.self.now.enough, floors_front c.args.self.now.size c.args.self.now.divisor c.args.self.now.weights.now c.args.i);
}
