use Rattle.std.proofs.Common.{rules, ◌≡◌, pos, ◌+ℤ◌, ◌∙◌, to_z, of_z, w64, arith}
use Rattle.std.proofs.iter.runs.Made.{chains}
use Rattle.std.proofs.lemmas.Int.{ints}
use Rattle.std.proofs.lemmas.Iterator.{YieldsList-from_slice}
use Rattle.std.proofs.lemmas.Iterator.Consumers.{YieldsList-from_copied}
use Rattle.std.specs.List.{fold}
use Rattle.quantities.proofs.Added.{fold_is_sum, sum_fits}
use Rattle.quantities.proofs.add_up.Goals as goal

pub sum-requires-clause-fits : goal.sum-requires-clause-fits
sum-requires-clause-fits c = sum_fits (YieldsList-from_copied (YieldsList-from_slice c.args.column.now cc)) c.requires

pub returns : goal.returns
returns c =
    let e : to_z w64 (of_z w64 c.sum.result) ≡ fold ◌+ℤ◌ (pos 0) c.args.column.now = search (rules, chains) in
    e ∙ fold_is_sum (pos 0) c.args.column.now ∙ omega (arith, ints)
