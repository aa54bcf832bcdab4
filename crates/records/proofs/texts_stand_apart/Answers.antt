use Rattle.records.proofs.Answered.{apart}
use Rattle.records.proofs.texts_stand_apart.Goals as goal

pub returns : goal.returns
returns c = apart
