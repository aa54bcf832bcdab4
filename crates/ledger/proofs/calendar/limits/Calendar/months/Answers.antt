use Rattle.std.proofs.Common.{rules, tests, ◌≡◌, suc, ◌<◌, ◌≤◌, leb, sym, ◌∙◌, subst, arith}
use Rattle.std.proofs.lemmas.Iterator.{YieldsList-from_range}
use Rattle.std.proofs.lemmas.Iterator.Consumers.{YieldsList-from_filter, count_from_yields_List}
use Rattle.ledger.specs.Calendar.{first_day, whole_months}
use Rattle.ledger.proofs.Months.{whole_is, whole_few, whole_last, whole_next}
use Rattle.ledger.proofs.calendar.limits.Calendar.months.Goals as goal

pub returns : goal.returns
returns c =
    let counted = count_from_yields_List c.filter.result c.count.result c.count.ensures.ran
    (YieldsList-from_filter _ (λ m. leb (first_day c.args.self.year c.args.self.month (suc m)) c.args.self.days) (YieldsList-from_range 0 14 14 c.filter.ensures.source (omega arith)) c.filter.ensures.closure (λ x r q k. search (rules, tests))) in
    let e : c.count.result ≡ whole_months c.args.self.year c.args.self.month c.args.self.days = counted ∙ whole_is c.args.self.year c.args.self.month c.args.self.days in
    record {
      value = e;
      few = omega (arith, e, whole_few c.args.self.year c.args.self.month c.args.self.days c.args.self.months.1 c.args.self.length.1);
      last = subst (λ n. first_day c.args.self.year c.args.self.month n ≤ c.args.self.days) (sym e) (whole_last c.args.self.year c.args.self.month c.args.self.days);
      next = subst (λ n. c.args.self.days < first_day c.args.self.year c.args.self.month (suc n)) (sym e) (whole_next c.args.self.year c.args.self.month c.args.self.days c.args.self.months.1 c.args.self.length.1);
    }
