-- The passes of a flight determine the order that they keep: two proper order numbers that the same passes keep are equal. Keeping an order says that the
-- starts of the passes rise along it, and such starts determine a proper order (crate `order`, specs/Rising.antt).
use Rattle.std.specs.Prelude.{◌≡◌, List, ℕ}
use Rattle.order.specs.Order.{Proper}
use Rattle.order.proofs.Rising.{rising_determined}
use Rattle.sheet.specs.declared.FlightSection.{FlightSection}
use Rattle.rules.specs.Flight.{pass_start, Keeps}
use Rattle.rules.specs.declared.Passes.{Passes}

pub order_determined : {f : FlightSection} {ps : List Passes} {x y : ℕ} → Proper f.blocks x → Proper f.blocks y → Keeps f x ps → Keeps f y ps → x ≡ y
order_determined {f} {ps} X Y kept also = rising_determined (pass_start f ps) X Y kept.by_start also.by_start
