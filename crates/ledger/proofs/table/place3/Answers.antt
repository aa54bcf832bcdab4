use Rattle.std.proofs.Common.{◌≡◌, ◌+◌, ◌*◌, ap, arith}
use Rattle.ledger.specs.Places.{at3}
use Rattle.ledger.proofs.Places.{inside3}
use Rattle.ledger.proofs.table.place3.Goals as goal

pub returns : goal.returns
returns c =
    let e : c.place2.result * c.args.width + c.args.column ≡ at3 c.args.lines c.args.width c.args.block c.args.line c.args.column = ap (λ x. x * c.args.width + c.args.column) c.place2.ensures.value in
    record { value = e; inside = λ blocks p q r. omega (arith, e, inside3 blocks c.args.lines c.args.width c.args.block c.args.line c.args.column p q r) }
