-- The number of each refusal, and the layer that refuses. A lower layer's refusal keeps its own number.
use Rattle.std.specs.Prelude.{ℕ, List, codes}
use Rattle.seal.specs.Answers as seal
use Rattle.telegram.specs.Answers as telegram
use Rattle.station.specs.declared.fault.StationFault.{StationFault}
use Rattle.station.specs.declared.fault.StationFault.TheVariants.{Telegram, Seal, NotStarted, AlreadyStarted, StartRange, OutputShort, Kind, Gauge, ChangePending, SerialsGiven, Stale, Worn, OtherOrder}

abbrev pub refusal : StationFault → ℕ
refusal (Telegram fault) = telegram.refusal fault
refusal (Seal fault) = seal.refusal fault
refusal NotStarted = 1
refusal AlreadyStarted = 2
refusal StartRange = 3
refusal OutputShort = 5
refusal Kind = 8
refusal Gauge = 9
refusal ChangePending = 10
refusal SerialsGiven = 11
refusal Stale = 12
refusal Worn = 13
refusal OtherOrder = 15

abbrev pub layer_name : StationFault → List ℕ
layer_name (Telegram fault) = codes "telegram"
layer_name (Seal fault) = codes "seal"
layer_name NotStarted = codes "station"
layer_name AlreadyStarted = codes "station"
layer_name StartRange = codes "station"
layer_name OutputShort = codes "station"
layer_name Kind = codes "station"
layer_name Gauge = codes "station"
layer_name ChangePending = codes "station"
layer_name SerialsGiven = codes "station"
layer_name Stale = codes "station"
layer_name Worn = codes "station"
layer_name OtherOrder = codes "station"

-- .. in words
abbrev pub words : StationFault → List ℕ
words (Telegram fault) = telegram.words fault
words (Seal fault) = seal.words fault
words NotStarted = codes "the station is not started"
words AlreadyStarted = codes "the station is started already"
words StartRange = codes "the own gauge, the allowance or the key's length is out of range"
words OutputShort = codes "the output is shorter than what is to be written"
words Kind = codes "the kind is not the call's, or the message is no key"
words Gauge = codes "the gauge is above 15, or the own one"
words ChangePending = codes "a key change is pending"
words SerialsGiven = codes "every serial has been given"
words Stale = codes "the serial is not above the gauge's last"
words Worn = codes "the key's wear would pass the allowance"
words OtherOrder = codes "the order does not match the pending change"
