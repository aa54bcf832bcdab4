use Rattle.std.proofs.Common.{◌∙◌}
use Rattle.ledger.proofs.SlotPlaces.{place_key, place_free}
use Rattle.ledger.proofs.register.place_for.Goals as goal

pub returns-in-Some : goal.returns-in-Some
returns-in-Some g c = place_key (g.R.Keyed.keyed c.args.key) c.args.slots.now c.in-Some.at c.in-Some.ensures

pub returns : goal.returns
returns g c = c.find_free.ensures ∙ place_free (g.R.Keyed.keyed c.args.key) c.args.slots.now c.in_default.ensures
