-- A number of the sheet file (document 01, "The sheet file"):
-- "All numbers are in groups of seven bits, lowest group first, top bit of a byte set when another follows; at most four groups;
-- the last is not zero unless it is the only one."
-- Document 02, E1: "The reading of a single number shall answer, beside its value or refusal, the byte place, from 0, at which that number began or is
-- missing".
use Rattle.std.specs.Prelude.{ℕ, zero, suc, ◌+◌, ◌*◌, ◌/◌, ◌%◌, ◌<◌, ◌≡◌, cond, List, [], ◌∷◌, ◌++◌, ltb, eqb, length, get_or, drop}

-- why a file is refused, and the place of it
pub record Refusal : Type 0 where
  pub number : ℕ
  pub at : ℕ

-- what reading one number finds: the number, the place "at which that number began" and the place after it; or a refusal
pub data Number : Type 0 where
  Value : ℕ → ℕ → ℕ → Number
  Refused : Refusal → Number

-- the refusal of this number, at "the byte place, from 0"
abbrev pub bad : ℕ → ℕ → Refusal
bad k at = record { number = k; at = at }

-- "top bit of a byte set when another follows": the group at a place, with the number `rest` after it. The number "began" at its first group.
-- A rest of 0 is a last group of zero: 2, "number not shortest".
unfoldable pub followed : ℕ → ℕ → Number → Number
followed at low (Value v began next) = cond (eqb v 0) (Refused (bad 2 at)) (Value (low + v * 128) at next)
followed at low (Refused r) = Refused (bad r.number at)

-- the number at a place, where `rest` is the number at the next place: 1, "file stops before the sheet is complete", and there the number "is missing"
unfoldable pub group : List ℕ → ℕ → Number → Number
group file at rest =
    cond (ltb at (length file))
    (cond (ltb (get_or file at 0) 128) (Value (get_or file at 0) at (at + 1)) (followed at (get_or file at 0 % 128) rest))
    (Refused (bad 1 at))

-- the number at a place, in at most so many groups: 2, "a fourth group marked as followed"
unfoldable pub number_in : ℕ → List ℕ → ℕ → Number
number_in zero file at = Refused (bad 2 at)
number_in (suc left) file at = group file at (number_in left file (at + 1))

-- "at most four groups"
abbrev pub number_at : List ℕ → ℕ → Number
number_at file at = number_in 4 file at

-- the groups of a number, at most so many
unfoldable pub grouped : ℕ → ℕ → List ℕ
grouped zero v = []
grouped (suc left) v = cond (ltb v 128) (v ∷ []) ((v % 128 + 128) ∷ grouped left (v / 128))

-- the bytes of a number
abbrev pub groups : ℕ → List ℕ
groups v = grouped 4 v

-- a file is a list of bytes
abbrev pub Bytes : List ℕ → Type 0
Bytes file = (i : ℕ) → get_or file i 0 < 256

-- these bytes stand in the file from a place up to the next
pub record Spans (file : List ℕ) (at : ℕ) (bytes : List ℕ) (next : ℕ) : Type 0 where
  pub here : drop at file ≡ bytes ++ drop next file
  pub ends : next ≡ at + length bytes
