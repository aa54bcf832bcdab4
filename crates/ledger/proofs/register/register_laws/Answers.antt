use Rattle.ledger.proofs.SlotLaws.{register_laws}
use Rattle.ledger.proofs.register.register_laws.Goals as goal

pub returns : goal.returns
returns g c = register_laws _ _ _ _ (λ k r. g.met.R.Keyed.tells_key k r) (λ k r. g.met.R.Keyed.tells_group k r)
