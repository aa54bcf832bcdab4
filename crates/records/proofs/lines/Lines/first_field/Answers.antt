use Rattle.std.proofs.Common.{ap, arith, length}
use Rattle.records.proofs.Text.{after_shorter}
use Rattle.records.proofs.lines.Lines.first_field.Goals as goal

-- a line takes a byte of the text at least
pub invariant_of-rest : goal.invariant_of-rest
invariant_of-rest c =
    let s = after_shorter 10 c.args.self.text.now c.in-Some.ensures.0 in
    record { near = omega (arith, ap length c.in-Some.ensures.2, c.args.self.near) }

pub invariant_of-rest-2 : goal.invariant_of-rest-2
invariant_of-rest-2 c =
    let s = after_shorter 10 c.args.self.text.now c.in-Some.ensures.0 in
    record { near = omega (arith, ap length c.in-Some.ensures.2, c.args.self.near) }
