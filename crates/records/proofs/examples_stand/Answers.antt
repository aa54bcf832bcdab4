use Rattle.std.proofs.Common.{refl}
use Rattle.std.specs.Fmt.{digits}
use Rattle.records.proofs.examples_stand.Goals as goal

pub returns : goal.returns
unfolding digits
returns c = record { minus_zero = refl; plus = refl; leading_zero = refl; twelve_digits = refl; eleven_digits = refl; entry_text = refl; close_read = refl; no_equals = refl; two_letters = refl; missing = refl; keys_first = refl; first_value = refl }
