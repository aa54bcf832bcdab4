use Rattle.std.proofs.Common.{◌≡◌, ◌≤◌, take, sum}
use Rattle.ledger.specs.Laws.{most_weight_sum}
use Rattle.ledger.proofs.rule.limited_sum.Given as goal

abbrev pub invariant-loop-w : goal.invariant-loop-w
invariant-loop-w l = (l.sum ≤ most_weight_sum) × (l.sum ≡ sum (take l.w-index l.weights))
