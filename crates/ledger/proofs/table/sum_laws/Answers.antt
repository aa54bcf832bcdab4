use Rattle.ledger.proofs.Sums.{sum_laws}
use Rattle.ledger.proofs.table.sum_laws.Goals as goal

pub returns : goal.returns
returns c = sum_laws
