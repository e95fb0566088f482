-- What the steps that read records promise each other and the reader.
use Rattle.std.specs.Prelude.{ℕ, ◌≡◌, ⊤, Bool, ◌&&◌, List, leb, Option, None, Some, Result, Ok, Err}
use Rattle.numbers.specs.Groups.{Refusal, bad, Number, Value, Refused}
use Rattle.numbers.specs.Signs.{decoded}
use Rattle.numbers.specs.Refusals.{said}
use Rattle.numbers.specs.declared.refusals.Refusal as code
use Rattle.sheet.specs.File.{Part, got, refused, Placed, placed}
use Rattle.records.specs.declared.Found.{Found}

-- the number lies between two others
abbrev pub between : ℕ → ℕ → ℕ → Bool
between least most v = leb least v && leb v most

-- a number that was taken from the file between two places, as the number that it is
abbrev pub taken : Result ℕ code.Refusal → ℕ → ℕ → Number
taken (Ok v) began next = Value v began next
taken (Err r) began next = Refused (said r)

-- a number that was tried at a place: taken, or none, which is refused by the number k, whatever that is, or not read
abbrev pub tried : ℕ → Result (Option ℕ) code.Refusal → ℕ → ℕ → Number
tried k (Ok (Some v)) began next = Value v began next
tried k (Ok None) began next = Refused (bad k began)
tried k (Err r) began next = Refused (said r)

-- the place stays where a step is refused
abbrev pub Stays : {A : Type 0} → Result A code.Refusal → ℕ → ℕ → Type 0
Stays (Ok a) began next = ⊤
Stays (Err r) began next = next ≡ began

-- the place stays but where a number is taken
abbrev pub StaysBut : Result (Option ℕ) code.Refusal → ℕ → ℕ → Type 0
StaysBut (Ok (Some v)) began next = ⊤
StaysBut (Ok None) began next = next ≡ began
StaysBut (Err r) began next = next ≡ began

-- a record that was found, with the place after it, as the part that it is
abbrev pub found_part : Result Found code.Refusal → ℕ → Part Placed
found_part (Ok w) next = got (placed w.place (decoded w.code)) next
found_part (Err r) next = refused (said r)

-- the place that a step leaves, where it is not refused
abbrev pub left : {A : Type 0} → Result A code.Refusal → ℕ → Result ℕ code.Refusal
left (Ok a) next = Ok next
left (Err r) next = Err r

-- refused, and that is why
abbrev pub Refuses : {A : Type 0} → Refusal → Result A code.Refusal → Type 0
Refuses why (Ok a) = ⊥
Refuses why (Err r) = said r ≡ why

-- a part was read to its end and what it holds was put into a list, or it was refused
unfoldable pub Walks : {A B : Type 0} → (List B → A → List B) → Part A → List B → Result ℕ code.Refusal → List B → Type 0
Walks store (got a next) was r now = (r ≡ Ok next) × (now ≡ store was a)
Walks store (refused why) was r now = Refuses why r
