use Rattle.std.proofs.Common.{◌≡◌, ◌++◌, drop, map}
use Rattle.records.specs.Outcome.{amount, bad_value, sights}
use Rattle.records.proofs.body.numbers.Given as goal

-- the first values are read: the values that are left say what all values say
abbrev pub invariant-loop-field : goal.invariant-loop-field
invariant-loop-field l =
    let left = sights (drop l.field-index l.fields) in
    record {
      valued : bad_value left ≡ bad_value (sights l.fields);
      numbered : l.found.items ++ map amount left ≡ map amount (sights l.fields);
    }
