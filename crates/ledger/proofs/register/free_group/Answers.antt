use Rattle.std.proofs.Common.{rules}
use Rattle.std.proofs.lemmas.List.Edits.{map_over_more}
use Rattle.ledger.specs.Slots.{freed}
use Rattle.ledger.proofs.register.free_group.Goals as goal

pub loop-slot-preserved : goal.loop-slot-preserved
loop-slot-preserved g c = search (rules, map_over_more (freed (g.R.Keyed.among c.args.group)))
