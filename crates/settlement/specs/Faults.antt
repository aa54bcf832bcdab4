-- The refusals: each with its number and the layer that refuses.
use Rattle.std.specs.Prelude.{ℕ}
use Rattle.ledger.specs.declared.layer.Layer.{Layer}
use Rattle.ledger.specs.declared.layer.Layer.TheVariants as layer
use Rattle.records.specs.Faults.{layer_of_fault, number_of_fault}
use Rattle.settlement.specs.declared.fault.Fault.{Fault}
use Rattle.settlement.specs.declared.fault.Fault.TheVariants as fault

abbrev pub number_of : Fault → ℕ
number_of (fault.Text t) = number_of_fault t
number_of fault.NotTakenNow = 4
number_of fault.BadTable = 5
number_of fault.OutsideLimits = 6
number_of fault.NotInBook = 7
number_of fault.SelfTrade = 8
number_of fault.NoSuchDay = 9
number_of fault.DayClosed = 10
number_of fault.WrongClass = 11
number_of fault.RegisterFull = 12
number_of fault.TooManyPoints = 13
number_of fault.NoPoint = 14
number_of fault.NoDayLeft = 15
number_of fault.MeasurementMissing = 16
number_of fault.FactorsMissing = 17
number_of fault.DailyQuantityMissing = 18
number_of fault.EstimateTooLarge = 19
number_of fault.InputsWithoutWeight = 20
number_of fault.UnidentifiedWithoutWeight = 21
number_of fault.NotClosed = 22
number_of fault.NoSlipInHand = 23
number_of fault.TooFewDays = 24
number_of fault.TooManySlips = 25
number_of fault.AggregateTooLarge = 26
number_of fault.MonthOpen = 27
number_of fault.SlipInHand = 28
number_of fault.ReturnsWithoutWeight = 29

-- the register refuses where it is full, a share rule where there is no weight to share by, the book itself everything else
abbrev pub layer_of : Fault → Layer
layer_of (fault.Text t) = layer_of_fault t
layer_of fault.NotTakenNow = layer.Book
layer_of fault.BadTable = layer.Book
layer_of fault.OutsideLimits = layer.Book
layer_of fault.NotInBook = layer.Book
layer_of fault.SelfTrade = layer.Book
layer_of fault.NoSuchDay = layer.Book
layer_of fault.DayClosed = layer.Book
layer_of fault.WrongClass = layer.Book
layer_of fault.RegisterFull = layer.Register
layer_of fault.TooManyPoints = layer.Book
layer_of fault.NoPoint = layer.Book
layer_of fault.NoDayLeft = layer.Book
layer_of fault.MeasurementMissing = layer.Book
layer_of fault.FactorsMissing = layer.Book
layer_of fault.DailyQuantityMissing = layer.Book
layer_of fault.EstimateTooLarge = layer.Book
layer_of fault.InputsWithoutWeight = layer.Rule
layer_of fault.UnidentifiedWithoutWeight = layer.Rule
layer_of fault.NotClosed = layer.Book
layer_of fault.NoSlipInHand = layer.Book
layer_of fault.TooFewDays = layer.Book
layer_of fault.TooManySlips = layer.Book
layer_of fault.AggregateTooLarge = layer.Book
layer_of fault.MonthOpen = layer.Book
layer_of fault.SlipInHand = layer.Book
layer_of fault.ReturnsWithoutWeight = layer.Rule
