-- "the number of the first question failed": why a call is refused, as the number that C is given.
use Rattle.std.specs.Prelude.{ℕ, List, Result, Ok, Err, codes}
use Rattle.frame.specs.declared.refusal.Refusal.{Refusal}
use Rattle.frame.specs.declared.refusal.Refusal.TheVariants.{SideAbove4096, EmptyFrame, Depth, Format, PlaneLength, SampleAboveDepth, LagAbove3, SolverOrder, RegisterBits, HeaderField, HeaderRoom, ActiveRectangle}

abbrev pub number : Refusal → ℕ
number SideAbove4096 = 1
number EmptyFrame = 2
number Depth = 3
number Format = 4
number PlaneLength = 5
number SampleAboveDepth = 6
number LagAbove3 = 7
number SolverOrder = 8
number RegisterBits = 9
number HeaderField = 10
number HeaderRoom = 11
number ActiveRectangle = 12

-- what is printed of it
abbrev pub words : Refusal → List ℕ
words SideAbove4096 = codes "width and height must each be at most 4,096"
words EmptyFrame = codes "width and height must each be at least 1"
words Depth = codes "the depth must be 8, 10 or 12 bits"
words Format = codes "the format must be monochrome, 4:2:0, 4:2:2 or 4:4:4"
words PlaneLength = codes "every plane must have as many samples as its size says"
words SampleAboveDepth = codes "every sample must be below 2^depth"
words LagAbove3 = codes "the lag must be at most 3"
words SolverOrder = codes "the order must be 1 to 25"
words RegisterBits = codes "the register gives at most 16 bits at once"
words HeaderField = codes "every field of the record must keep its limits"
words HeaderRoom = codes "the destination must have a byte for every eight bits begun"
words ActiveRectangle = codes "the active rectangle must hold a sample and lie in the frame"

-- of a call's outcome; 0 where it is accepted
abbrev pub number_of : {A : Type 0} → Result A Refusal → ℕ
number_of (Ok value) = 0
number_of (Err refusal) = number refusal

-- with a refusal's number in its place
abbrev pub numbered : {A : Type 0} → Result A Refusal → Result A ℕ
numbered (Ok value) = Ok value
numbered (Err refusal) = Err (number refusal)
