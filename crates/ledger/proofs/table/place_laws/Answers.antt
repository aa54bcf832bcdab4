use Rattle.ledger.proofs.Places.{place_laws}
use Rattle.ledger.proofs.table.place_laws.Goals as goal

pub returns : goal.returns
returns g c = place_laws _
