use Rattle.std.proofs.Common.{◌≡◌, take, sum}
use Rattle.ledger.specs.Largest.{floors}
use Rattle.ledger.proofs.largest_remainder_rule.Division.left.Given as goal

abbrev pub invariant-loop-weight : goal.invariant-loop-weight
invariant-loop-weight l = l.given ≡ sum (floors l.self.size l.self.divisor (take l.weight-index l.self.weights.now))
