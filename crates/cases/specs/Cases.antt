-- "Sheets tried by hand": the rows of document 01's table that are marked with a star, in its order, some without one, and what each of them says.
use Rattle.std.specs.Prelude.{◌≡◌, List, [], ◌∷◌, ◌++◌, map, ℕ, ◌+◌, ◌-◌, ◌*◌, length, set, replicate, ℤ, pos}
use Rattle.theory.specs.Circuits.{total, ups, downs, forths, backs}
use Rattle.theory.specs.Arcs.{rise, fall}
use Rattle.theory.specs.Ends.{High, open_end, up_to}
use Rattle.tables.specs.Sheets.{Sheet, sheet, no_window, place, places}
use Rattle.tables.specs.Answers.{Answer, answer}
use Rattle.windows.specs.Windows.{Kind, A0, B0, A1, B1, number}
use Rattle.windows.specs.Arcs.{nodes}
use Rattle.windows.specs.Circuits.{Step, numbers, step_arc}
use Rattle.calls.specs.Ask as ask
use Rattle.calls.specs.Ends as ends

-- ---- sheets, as the table writes them

-- "kind:to,from=w", of mode t
pub record Row : Type 0 where
  pub mode : ℕ
  pub kind : Kind
  pub to : ℕ
  pub from : ℕ
  pub w : ℤ

-- the same in one line
abbrev pub row : ℕ → Kind → ℕ → ℕ → ℤ → Row
row t k i j w = record { mode = t; kind = k; to = i; from = j; w = w }

-- the tables with these windows and no other
abbrev pub tables_with : ℕ → ℕ → List Row → List ℤ
tables_with n m [] = replicate (places n m) no_window
tables_with n m (r ∷ rest) = set (tables_with n m rest) (place n r.mode (number r.kind) r.to r.from) r.w

-- one mode in one position
abbrev pub one : ℕ → List Row → Sheet
one n rows = sheet n 1 1 (tables_with n 1 rows) (0 ∷ [])

-- n=1, 2:1,1=5, 3:1,1=8
abbrev pub five_eight : Sheet
five_eight = one 1 (row 0 A1 1 1 (pos 5) ∷ row 0 B1 1 1 (pos 8) ∷ [])

-- n=2, 0:2,1=3, 1:2,1=4, 2:1,2=2
abbrev pub sample : Sheet
sample = one 2 (row 0 A0 2 1 (pos 3) ∷ row 0 B0 2 1 (pos 4) ∷ row 0 A1 1 2 (pos 2) ∷ [])

-- n=2, 2:1,2=2, 2:2,1=3
abbrev pub halves : Sheet
halves = one 2 (row 0 A1 1 2 (pos 2) ∷ row 0 A1 2 1 (pos 3) ∷ [])

-- n=2, 0:2,1=6, 1:2,1=5
abbrev pub crossed : Sheet
crossed = one 2 (row 0 A0 2 1 (pos 6) ∷ row 0 B0 2 1 (pos 5) ∷ [])

-- n=1, 2:1,1=9, 3:1,1=8
abbrev pub nine_eight : Sheet
nine_eight = one 1 (row 0 A1 1 1 (pos 9) ∷ row 0 B1 1 1 (pos 8) ∷ [])

-- n=1, no windows
abbrev pub bare : Sheet
bare = one 1 []

-- n=1, 3:1,1=0
abbrev pub stopped : Sheet
stopped = one 1 (row 0 B1 1 1 (pos 0) ∷ [])

-- V=2, n=1, mode a 2:1,1=3, mode b 2:1,1=4 and 3:1,1=6, order a b
abbrev pub order_ab : Sheet
order_ab = sheet 1 2 2 (tables_with 1 2 (row 0 A1 1 1 (pos 3) ∷ row 1 A1 1 1 (pos 4) ∷ row 1 B1 1 1 (pos 6) ∷ [])) (0 ∷ 1 ∷ [])

-- ---- questions and outcomes

-- an arc by its four numbers
abbrev pub step : Kind → ℕ → ℕ → ℕ → Step
step k h i j = record { kind = k; position = h; to = i; from = j }

-- A row of the table: the sheet, the question and the outcome.
pub data Case : Type 0 where
  -- Ask p/q: the plan and its rounds
  accepts : Sheet → ℕ → ℕ → List ℕ → ℕ → Case
  -- Ask p/q: the circuit and its total
  refutes : Sheet → ℕ → ℕ → List Step → ℕ → Case
  -- Ask p/q: the number of the refusal
  refuses : Sheet → ℕ → ℕ → ℕ → Case
  -- Ends: low and high, shown by these circuits
  finds : Sheet → ℕ → ℕ → High → List Step → List Step → Case
  -- Ends: none, with one circuit, its W and its c
  lacks_one : Sheet → List Step → ℕ → ℕ → Case
  -- Ends: none, with two circuits and their limits, low above high
  lacks_two : Sheet → List Step → List Step → ℕ → ℕ → Case

-- the starred rows
abbrev pub cases : List Case
cases =
    accepts five_eight 5 1 (0 ∷ []) 0
    ∷ refutes five_eight 4 1 (step A1 1 1 1 ∷ []) 1
    ∷ refutes five_eight 17 2 (step B1 1 1 1 ∷ []) 1
    ∷ finds five_eight 5 1 (up_to 8 1) (step A1 1 1 1 ∷ []) (step B1 1 1 1 ∷ [])
    ∷ refutes sample 4 1 (step A0 1 2 1 ∷ step A1 1 1 2 ∷ []) 1
    ∷ finds halves 5 2 open_end (step A1 1 2 1 ∷ step A1 1 1 2 ∷ []) []
    ∷ accepts halves 5 2 (0 ∷ 1 ∷ []) 1
    ∷ lacks_one crossed (step A0 1 2 1 ∷ step B0 1 2 1 ∷ []) 1 0
    ∷ lacks_two nine_eight (step A1 1 1 1 ∷ []) (step B1 1 1 1 ∷ []) 9 8
    ∷ finds bare 0 1 open_end [] []
    ∷ finds stopped 0 1 (up_to 0 1) [] (step B1 1 1 1 ∷ [])
    ∷ accepts order_ab 7 1 (0 ∷ 3 ∷ []) 1
    ∷ []

-- "Updating the table while a round still reads it: the plan comes out the same, but the rounds can come out fewer." On a chain of three events each round
-- hands the time on by one arc, so that two rounds are counted; a round that read its own table would hand it on to the end.
-- n=3, 0:2,1=1, 0:3,2=1
abbrev pub chain : Sheet
chain = one 3 (row 0 A0 2 1 (pos 1) ∷ row 0 A0 3 2 (pos 1) ∷ [])

-- rows without a star: "Ask 0/0 and 0/1001 are 10; 0/1000 on the sheet without windows is accepted", and the misreading that the starred ones leave open
abbrev pub unstarred : List Case
unstarred =
    refuses bare 0 0 10
    ∷ refuses bare 0 1001 10
    ∷ accepts bare 0 1000 (0 ∷ []) 0
    ∷ accepts chain 0 1 (0 ∷ 1 ∷ 2 ∷ []) 2
    ∷ []

-- ---- what a row says, of buffers of zeros that are just long enough

-- a buffer of zeros
abbrev pub zeros : ℕ → List ℕ
zeros k = replicate k 0

-- 4N zeros, the room of a circuit
abbrev pub four_n : Sheet → List ℕ
four_n s = zeros (4 * nodes s)

-- a circuit's places in it
abbrev pub in_room : Sheet → List Step → List ℕ
in_room s cs = numbers cs ++ zeros (4 * nodes s - 4 * length cs)

-- Ends' answer where it finds ends, in document 01's numbers
abbrev pub found_answer : ℕ → ℕ → High → ℕ → ℕ → Answer
found_answer a b open_end count₁ count₂ = answer 0 (a ∷ b ∷ count₁ ∷ count₂ ∷ [])
found_answer a b (up_to c d) count₁ count₂ = answer 0 (a ∷ b ∷ c ∷ d ∷ count₁ ∷ count₂ ∷ [])

-- what each row says of the call: the answer in document 01's numbers, and both buffers after it
abbrev pub RowSays : Case → Type 0
RowSays (accepts s p q plan rounds) = ask.Outcome s p q (zeros (nodes s)) (four_n s) (answer 0 (rounds ∷ [])) plan (four_n s)
RowSays (refutes s p q cs t) =
    ask.Outcome s p q (zeros (nodes s)) (four_n s) (answer 100 (length cs ∷ [])) (zeros (nodes s)) (in_room s cs) × (total (rise p q) (map (step_arc s) cs) ≡ total (fall p q) (map (step_arc s) cs) + t)
RowSays (refuses s p q k) = ask.Outcome s p q (zeros (nodes s)) (four_n s) (answer k []) (zeros (nodes s)) (four_n s)
RowSays (finds s a b high cs ds) = ends.Outcome s (four_n s) (four_n s) (found_answer a b high (length cs) (length ds)) (in_room s cs) (in_room s ds)
RowSays (lacks_one s cs w c) =
    ends.Outcome s (four_n s) (four_n s) (answer 101 (length cs ∷ 0 ∷ [])) (in_room s cs) (four_n s)
    × (ups (map (step_arc s) cs) ≡ downs (map (step_arc s) cs) + w) × (forths (map (step_arc s) cs) ≡ backs (map (step_arc s) cs) + c)
RowSays (lacks_two s cs ds low high) =
    ends.Outcome s (four_n s) (four_n s) (answer 101 (length cs ∷ length ds ∷ [])) (in_room s cs) (in_room s ds)
    × (ups (map (step_arc s) cs) ≡ downs (map (step_arc s) cs) + low * (backs (map (step_arc s) cs) - forths (map (step_arc s) cs)))
    × (downs (map (step_arc s) ds) ≡ ups (map (step_arc s) ds) + high * (forths (map (step_arc s) ds) - backs (map (step_arc s) ds)))

-- every row of a list of rows
abbrev pub AllSay : List Case → Type 0
AllSay [] = Unit {0}
AllSay (c ∷ rest) = RowSays c × AllSay rest
