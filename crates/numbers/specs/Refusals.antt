-- Refusals (document 01, "Numbers a call can answer"; document 02, E1): the number of each reason, and a refusal of a file in numbers.
use Rattle.std.specs.Prelude.{ℕ, Result, Ok, Err}
use Rattle.numbers.specs.declared.refusals.Reason.{Reason}
use Rattle.numbers.specs.declared.refusals.Reason.TheVariants as reason
use Rattle.numbers.specs.declared.refusals.Refusal as code
use Rattle.numbers.specs.declared.Number as code_number
use Rattle.numbers.specs.Groups.{Refusal, bad, Number, Value, Refused}

-- "Numbers a call can answer"
abbrev pub number_of : Reason → ℕ
number_of reason.CutShort = 1
number_of reason.NotShortest = 2
number_of reason.Format = 3
number_of reason.Size = 4
number_of reason.Schedule = 5
number_of reason.Value = 6
number_of reason.Order = 7
number_of reason.Surplus = 8
number_of reason.Room = 9
number_of reason.CycleTime = 10
number_of reason.Times = 11

-- a refusal of a file, in numbers
abbrev pub said : code.Refusal → Refusal
said r = bad (number_of r.reason) r.at

-- what reading one number finds, in numbers
abbrev pub read : Result code_number.Number code.Refusal → Number
read (Ok n) = Value n.value n.at n.next
read (Err r) = Refused (said r)

-- 0 for what is not refused, and else the number of the reason
abbrev pub verdict : {A : Type 0} → Result A Reason → ℕ
verdict (Ok a) = 0
verdict (Err r) = number_of r
