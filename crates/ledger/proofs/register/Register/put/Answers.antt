use Rattle.ledger.proofs.SlotPlaces.{put_there, put_nowhere, told_full}
use Rattle.ledger.proofs.register.Register.put.Goals as goal

pub returns-in-Some-clause-after : goal.returns-in-Some-clause-after
returns-in-Some-clause-after g c = put_there (g.R.Keyed.keyed (g.R.Keyed.key_of c.args.r)) c.args.self.now.slots.now c.args.r c.in-Some.at (simp c.key.ensures at c.in-Some.ensures)

pub returns-in-None-clause-answer : goal.returns-in-None-clause-answer
returns-in-None-clause-answer g c = told_full (g.R.Keyed.keyed (g.R.Keyed.key_of c.args.r)) c.args.self.now.slots.now (simp c.key.ensures at c.in-None.ensures)

pub returns-in-None-clause-after : goal.returns-in-None-clause-after
returns-in-None-clause-after g c = put_nowhere (g.R.Keyed.keyed (g.R.Keyed.key_of c.args.r)) c.args.self.now.slots.now c.args.r (simp c.key.ensures at c.in-None.ensures)
