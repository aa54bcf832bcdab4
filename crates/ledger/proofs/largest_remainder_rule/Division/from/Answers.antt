use Rattle.std.proofs.Common.{arith}
use Rattle.std.proofs.lemmas.List.{take_rest}
use Rattle.ledger.specs.LargestLemmas.{small_back, floors_back}
use Rattle.ledger.proofs.largest_remainder_rule.Division.from.Goals as goal

pub invariant_of-result : goal.invariant_of-result
invariant_of-result c = rw (take_rest c.args.self.now.weights.now c.args.i) (record {
  small = small_back c.args.self.now.small c.args.i;
  enough = omega (arith, c.args.self.now.enough, floors_back c.args.self.now.size c.args.self.now.divisor c.args.self.now.weights.now c.args.i);
})
