-- The number, the line and the layer of each refusal of a text.
use Rattle.std.specs.Prelude.{ℕ}
use Rattle.ledger.specs.declared.layer.Layer.{Layer}
use Rattle.ledger.specs.declared.layer.Layer.TheVariants as layer
use Rattle.records.specs.declared.fault.TextFault.{TextFault}
use Rattle.records.specs.declared.fault.TextFault.TheVariants.{WrongKey, UnknownKind, MalformedValue}

abbrev pub number_of_fault : TextFault → ℕ
number_of_fault (WrongKey line) = 1
number_of_fault (UnknownKind line) = 2
number_of_fault (MalformedValue line) = 3

abbrev pub line_of_fault : TextFault → ℕ
line_of_fault (WrongKey line) = line
line_of_fault (UnknownKind line) = line
line_of_fault (MalformedValue line) = line

abbrev pub layer_of_fault : TextFault → Layer
layer_of_fault (WrongKey line) = layer.Text
layer_of_fault (UnknownKind line) = layer.Text
layer_of_fault (MalformedValue line) = layer.Text
