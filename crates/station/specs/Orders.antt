-- Orders, and calls that hand one back.
use Rattle.std.specs.Prelude.{Ok, Err, Result}
use Rattle.station.specs.declared.declining.OrderBack.{OrderBack}
use Rattle.station.specs.declared.order.ChangeOrder.{ChangeOrder}
use Rattle.station.specs.Answers.{refusal}
use Rattle.station.specs.Calls.{Answer, Order, Refused}

abbrev pub order_of : ChangeOrder → Order
order_of o = record { own = o.own; sender = o.sender; serial = o.serial }

-- such a call's result as an answer
abbrev pub returned : {X : Type 0} → (X → Answer) → Result X OrderBack → Answer
returned f (Ok x) = f x
returned f (Err back) = Refused (refusal back.fault)
