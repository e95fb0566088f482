-- A limit as a number of the file (document 01, "The sheet file").
-- `pos a` is a, and `negsuc a` is -a - 1.
use Rattle.std.specs.Prelude.{ℕ, ◌+◌, ◌*◌, ◌/◌, ◌%◌, Bool, true, false, eqb, ℤ, pos, negsuc}

-- "Value v is written as 2v when v is not negative, else as -2v - 1." For v = -a - 1 that is 2a + 1.
abbrev pub encoded : ℤ → ℕ
encoded (pos a) = a * 2
encoded (negsuc a) = a * 2 + 1

-- a, or -a - 1 where the number is below 0
abbrev pub signed : Bool → ℕ → ℤ
signed true a = negsuc a
signed false a = pos a

-- the value that is written as u
abbrev pub decoded : ℕ → ℤ
decoded u = signed (eqb (u % 2) 1) (u / 2)
