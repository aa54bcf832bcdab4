use Rattle.std.proofs.Common.{◌≡◌, ◌≤◌, leb, take, count_by}
use Rattle.ledger.specs.Largest.{remainders}
use Rattle.ledger.proofs.largest_remainder_rule.Division.rows_from.Given as goal

abbrev pub invariant-loop-weight : goal.invariant-loop-weight
invariant-loop-weight l = (l.rows ≤ l.weight-index) × (l.rows ≡ count_by (λ s. leb l.bar s) (remainders l.self.size l.self.divisor (take l.weight-index l.self.weights.now)))
