use Rattle.std.proofs.Common.{◌≡◌, ◌*◌, ◌/◌, ◌++◌, map, take, drop, sum}
use Rattle.ledger.specs.Running.{growths}
use Rattle.ledger.specs.Signs.{signed}
use Rattle.ledger.proofs.running_rule.RunningRuleShareRule.share.Given as goal

-- what is given so far, with what the rows that are left get, is all
abbrev pub invariant-loop-i : goal.invariant-loop-i
invariant-loop-i l =
    (l.reached ≡ sum (take l.i l.weights)) ×
    (l.given ≡ l.size * l.reached / l.divisor) ×
    (take l.i l.out ++ map (signed l.total) (growths l.size l.divisor l.reached (drop l.i l.weights)) ≡ map (signed l.total) (growths l.size l.divisor 0 l.weights))
