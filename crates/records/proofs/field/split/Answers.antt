use Rattle.std.proofs.lemmas.List.{take_rest}
use Rattle.records.proofs.Text.{split_there, split_nowhere}
use Rattle.records.proofs.field.split.Goals as goal

pub returns-in_err-i : goal.returns-in_err-i
returns-in_err-i c = rw c.from_residual.ensures (split_nowhere c.args.b c.args.text.now c.in_err-i.ensures)

pub returns : goal.returns
returns c = simp take_rest (split_there c.args.b c.args.text.now c.in_ok-i.i c.in_ok-i.ensures)
