use Rattle.std.proofs.Common.{arith}
use Rattle.std.proofs.lemmas.Grind.{common_steps}
use Rattle.records.proofs.Exactness.{exactly}
use Rattle.records.proofs.body.next_record.Goals as goal

pub returns-clause-exact : goal.returns-clause-exact
returns-clause-exact c = exactly c.args.lines.text.now c.args.lines.line _ (grind (arith, common_steps))
