use Rattle.std.proofs.Common.{rules, tests, ◌≡◌, ◌∙◌, arith}
use Rattle.std.proofs.lemmas.Iterator.{YieldsList-from_range, YieldsList-from_map}
use Rattle.std.proofs.lemmas.Iterator.Consumers.{sum_from_yields_List, fits_from_yields_list}
use Rattle.ledger.specs.Calendar.{first_day, length_of}
use Rattle.ledger.proofs.Months.{first_within}
use Rattle.ledger.proofs.Sums.{sum_of_range}
use Rattle.ledger.proofs.calendar.limits.Calendar.first_day.Goals as goal

pub sum-requires-clause-fits : goal.sum-requires-clause-fits
sum-requires-clause-fits c =
    fits_from_yields_list c.map.result _
    (YieldsList-from_map _ (length_of c.args.self.year c.args.self.month) (YieldsList-from_range 0 c.args.month c.args.month c.map.ensures.source (omega arith)) c.map.ensures.closure (λ x r q k. search (rules, tests)))
    (omega (arith, sum_of_range c.args.month (length_of c.args.self.year c.args.self.month), (first_within c.args.self.year c.args.self.month c.args.month).1, c.ranges.month.fits))

pub returns : goal.returns
returns c =
    let s = sum_from_yields_List c.map.result c.sum.result c.sum.ensures.ran
    (YieldsList-from_map _ (length_of c.args.self.year c.args.self.month) (YieldsList-from_range 0 c.args.month c.args.month c.map.ensures.source (omega arith)) c.map.ensures.closure (λ x r q k. search (rules, tests))) in
    let e : c.sum.result ≡ first_day c.args.self.year c.args.self.month c.args.month = s ∙ sum_of_range c.args.month (length_of c.args.self.year c.args.self.month) in
    let b = first_within c.args.self.year c.args.self.month c.args.month in
    record { value = e; limits = (omega (arith, e, b), omega (arith, e, b)) }
