-- The numbers given back (01, "Numbers given back"): one for each reason to refuse.
--
--   number_of r    the number of a reason
--   fault_in a     what an answer says of faults: 0 for none, else the number of its reason
--
-- Assumes nothing.
use Rattle.std.specs.Prelude.{ℕ, Result, Ok, Err}
use Rattle.refusal.specs.declared.Refusal.{Refusal}
use Rattle.refusal.specs.declared.Refusal.TheVariants.{Cut, Tag, Shape, Shift, Wire, Full, Slots, Twice, Empty, Double, Circle, Room, Size, Wide}

abbrev pub number_of : Refusal → ℕ
number_of Cut = 1
number_of Tag = 2
number_of Shape = 3
number_of Shift = 4
number_of Wire = 5
number_of Full = 6
number_of Slots = 7
number_of Twice = 8
number_of Empty = 9
number_of Double = 10
number_of Circle = 11
number_of Room = 12
number_of Size = 13
number_of Wide = 14

abbrev pub fault_in : {A : Type 0} → Result A Refusal → ℕ
fault_in (Ok _) = 0
fault_in (Err r) = number_of r
