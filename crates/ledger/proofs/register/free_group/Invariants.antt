use Rattle.std.proofs.Common.{◌≡◌, ◌++◌, map, take, drop}
use Rattle.ledger.specs.Slots.{freed}
use Rattle.ledger.proofs.register.free_group.Given as goal

abbrev pub invariant-loop-slot : goal.invariant-loop-slot
invariant-loop-slot g l = l.slots ≡ map (freed (g.R.Keyed.among l.group)) (take l.slot-index l.initial.slots) ++ drop l.slot-index l.initial.slots
