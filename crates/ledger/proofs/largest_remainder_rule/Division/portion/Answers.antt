use Rattle.std.proofs.Common.{◌≡◌, ◌+◌, ◌*◌, ◌%◌, ltb, leb, get_or, take, drop, count_by, div-le_self, arith}
use Rattle.std.proofs.lemmas.Bool.Decides.{nat_tests}
use Rattle.ledger.specs.Largest.{remainders}
use Rattle.ledger.specs.LargestLemmas.{small_product, portion_is}
use Rattle.ledger.specs.Ranks.{one_if}
use Rattle.ledger.proofs.largest_remainder_rule.Division.portion.Goals as goal
use Rattle.ledger.proofs.largest_remainder_rule.Division.portion.Goals.{After-rows_from-later}

-- what the two calls answered
earlier : (c : goal.After-rows_from-later) → c.rows_from-earlier.result ≡ count_by (λ r. leb (c.args.self.now.size * get_or c.args.self.now.weights.now c.args.i 0 % c.args.self.now.divisor) r) (remainders c.args.self.now.size c.args.self.now.divisor (take c.args.i c.args.self.now.weights.now))
earlier c = simp (c.before-2.ensures.same.0, c.before-2.ensures.same.1, c.before-2.ensures.rows) at c.rows_from-earlier.ensures

later : (c : goal.After-rows_from-later) → c.rows_from-later.result ≡ count_by (λ r. leb (c.args.self.now.size * get_or c.args.self.now.weights.now c.args.i 0 % c.args.self.now.divisor + 1) r) (remainders c.args.self.now.size c.args.self.now.divisor (drop (c.args.i + 1) c.args.self.now.weights.now))
later c = simp (c.from.ensures.same.0, c.from.ensures.same.1, c.from.ensures.rows) at c.rows_from-later.ensures

pub overflow_add-result : goal.overflow_add-result
overflow_add-result c =
    let p = c.args.self.now.size * get_or c.args.self.now.weights.now c.args.i 0 in
    omega (arith, div-le_self p c.args.self.now.divisor, small_product c.args.self.now.small c.args.i c.requires.within)

pub returns-then-earlier-later : goal.returns-then-earlier-later
returns-then-earlier-later c =
    let a = (goal.at.returns-then-earlier-later c).After-rows_from-later in
    let o : one_if (ltb (c.rows_from-earlier.result + c.rows_from-later.result) c.args.left) ≡ 1 = grind (arith, nat_tests, c.if-earlier-later.true) in
    omega (arith, o, portion_is c.args.self.now.size c.args.self.now.divisor c.args.self.now.weights.now c.args.i _ _ c.args.left c.requires.within c.requires.rest (earlier a) (later a))

pub returns-else-earlier-later : goal.returns-else-earlier-later
returns-else-earlier-later c =
    let a = (goal.at.returns-else-earlier-later c).After-rows_from-later in
    let o : one_if (ltb (c.rows_from-earlier.result + c.rows_from-later.result) c.args.left) ≡ 0 = grind (arith, nat_tests, c.if-earlier-later.false) in
    omega (arith, o, portion_is c.args.self.now.size c.args.self.now.divisor c.args.self.now.weights.now c.args.i _ _ c.args.left c.requires.within c.requires.rest (earlier a) (later a))
