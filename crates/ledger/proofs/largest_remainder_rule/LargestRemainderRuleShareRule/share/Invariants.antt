use Rattle.std.proofs.Common.{◌≡◌, map, take}
use Rattle.ledger.specs.Signs.{signed}
use Rattle.ledger.specs.Largest.{portions}
use Rattle.ledger.proofs.largest_remainder_rule.LargestRemainderRuleShareRule.share.Given as goal

abbrev pub invariant-loop-i : goal.invariant-loop-i
invariant-loop-i l = take l.i l.out ≡ take l.i (map (signed l.total) (portions l.division.size l.division.divisor l.weights))
