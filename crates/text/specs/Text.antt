-- Numbers and words as bytes of text (document 01, "The report"): "Words and numbers are parted by one space", "Each line ends in one line feed".
use Rattle.std.specs.Prelude.{◌≡◌, cond, List, [], ◌∷◌, ◌++◌, ℕ, zero, suc, ◌+◌, ◌-◌, ◌*◌, ◌/◌, ◌%◌, ltb, length}
use Rattle.std.proofs.lemmas.List.Edits.{sets}
use Rattle.text.specs.declared.Text.{Text}

-- a number in decimal digits, in at most so many of them, the last first to be known
unfoldable pub spelled : ℕ → ℕ → List ℕ
spelled zero v = []
spelled (suc left) v = cond (ltb v 10) ((48 + v) ∷ []) (spelled left (v / 10) ++ (48 + v % 10) ∷ [])

-- a number of 64 bits has at most twenty digits
abbrev pub decimal : ℕ → List ℕ
decimal v = spelled 20 v

-- "one space"
abbrev pub space : ℕ
space = 32

-- "one line feed"
abbrev pub feed : ℕ
feed = 10

-- the value of a row of digits, after the value before it
unfoldable pub valued : ℕ → List ℕ → ℕ
valued v [] = v
valued v (d ∷ ds) = valued (v * 10 + (d - 48)) ds

-- the text stands from `at` on, as far as the buffer reaches, and `next` is the place after it
pub record Puts (out₀ : List ℕ) (at : ℕ) (text : List ℕ) (next : ℕ) (out : List ℕ) : Type 0 where
  pub next_is : next ≡ at + length text
  pub out_is : out ≡ sets out₀ at text

-- the text stands after what stood before, in the same buffer
pub record Adds (before : Text) (text : List ℕ) (after : Text) : Type 0 where
  pub same_buffer : after.out.ghost_name ≡ before.out.ghost_name
  pub puts : Puts before.out.now before.at text after.at after.out.now
