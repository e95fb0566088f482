-- The definitions, run on document 01's own sheets and on a file for each refusal.
use mathlib.Core.Path.{◌≡◌, refl}
use mathlib.Core.List.{[], ◌∷◌, map}
use lib.IntN.{pos}
use Rattle.numbers.specs.Groups.{bad, number_in, group, followed, grouped}
use Rattle.numbers.specs.Groups.{Refusal}
use Rattle.tables.specs.Sheets.{Sheet, sheet, no_window}
use Rattle.sheet.specs.File.{Part, got, refused, tested, after, and_then, rising, value_at, record_at, records_at, mode_at, modes_at, put, laid, tables_of, ended, tables_at, schedule_at, counts_at, sheet_after, sheet_in}
use Rattle.sheet.specs.Written.{in_groups, cell, placed_of, records, mode_numbers, modes_numbers, sheet_numbers, written}

-- THEOREM: "The first sheet is `01 01 01 01 00 02 02 01 01 0A 03 01 01 10`": n=1, 2:1,1=5, 3:1,1=8
pub first : sheet_in (1 ∷ 1 ∷ 1 ∷ 1 ∷ 0 ∷ 2 ∷ 2 ∷ 1 ∷ 1 ∷ 10 ∷ 3 ∷ 1 ∷ 1 ∷ 16 ∷ []) ≡ got (sheet 1 1 1 (no_window ∷ no_window ∷ pos 5 ∷ pos 8 ∷ []) (0 ∷ [])) 14
unfolding sheet_in sheet_after counts_at schedule_at tables_at ended modes_at mode_at records_at record_at value_at rising tested after and_then put laid tables_of number_in group followed
first = refl

-- THEOREM: and it is written as these bytes
pub first_written : written (sheet 1 1 1 (no_window ∷ no_window ∷ pos 5 ∷ pos 8 ∷ []) (0 ∷ [])) ≡ 1 ∷ 1 ∷ 1 ∷ 1 ∷ 0 ∷ 2 ∷ 2 ∷ 1 ∷ 1 ∷ 10 ∷ 3 ∷ 1 ∷ 1 ∷ 16 ∷ []
unfolding written sheet_numbers modes_numbers mode_numbers records placed_of cell in_groups grouped
first_written = refl

-- THEOREM: the bytes of the report's sheet are n=2, 0:2,1=3, 1:2,1=4, 2:1,2=2
pub report : sheet_in (1 ∷ 2 ∷ 1 ∷ 1 ∷ 0 ∷ 3 ∷ 0 ∷ 2 ∷ 1 ∷ 6 ∷ 1 ∷ 2 ∷ 1 ∷ 8 ∷ 2 ∷ 1 ∷ 2 ∷ 4 ∷ [])
    ≡ got (sheet 2 1 1 (no_window ∷ no_window ∷ pos 3 ∷ no_window ∷ no_window ∷ no_window ∷ pos 4 ∷ no_window ∷ no_window ∷ pos 2 ∷ no_window ∷ no_window ∷ no_window ∷ no_window ∷ no_window ∷ no_window ∷ []) (0 ∷ [])) 18
unfolding sheet_in sheet_after counts_at schedule_at tables_at ended modes_at mode_at records_at record_at value_at rising tested after and_then put laid tables_of number_in group followed
report = refl

-- a file's refusal, and 0 for a sheet
abbrev refusal_of : Part Sheet → Refusal
refusal_of (got s next) = bad 0 0
refusal_of (refused r) = r

-- THEOREM: these files have these refusals, at these places: one for each refusal that lies in the file, and some for the order of them
pub refusals : map (λ file. refusal_of (sheet_in file)) (
    -- "An empty file is 1"; a file that stops in a number, in a record, and in a number of a record
    []
    ∷ (129 ∷ [])
    ∷ (1 ∷ 1 ∷ 1 ∷ 1 ∷ 0 ∷ 1 ∷ 2 ∷ 1 ∷ [])
    ∷ (1 ∷ 1 ∷ 1 ∷ 1 ∷ 0 ∷ 1 ∷ 2 ∷ 1 ∷ 1 ∷ 130 ∷ 137 ∷ [])
    -- not shortest; a fourth group marked as followed, whatever comes after it
    ∷ (129 ∷ 0 ∷ [])
    ∷ (129 ∷ 128 ∷ 128 ∷ 128 ∷ [])
    ∷ (129 ∷ 128 ∷ 128 ∷ 128 ∷ 1 ∷ [])
    -- another format
    ∷ (2 ∷ [])
    -- n, m and V past their limits
    ∷ (1 ∷ 0 ∷ [])
    ∷ (1 ∷ 13 ∷ [])
    ∷ (1 ∷ 12 ∷ 9 ∷ [])
    ∷ (1 ∷ 12 ∷ 8 ∷ 17 ∷ [])
    -- a mode that there is not
    ∷ (1 ∷ 1 ∷ 1 ∷ 1 ∷ 1 ∷ [])
    -- too many records, no such kind, no such event, a value past its limit either way
    ∷ (1 ∷ 1 ∷ 1 ∷ 1 ∷ 0 ∷ 5 ∷ [])
    ∷ (1 ∷ 1 ∷ 1 ∷ 1 ∷ 0 ∷ 1 ∷ 4 ∷ [])
    ∷ (1 ∷ 1 ∷ 1 ∷ 1 ∷ 0 ∷ 1 ∷ 0 ∷ 2 ∷ [])
    ∷ (1 ∷ 1 ∷ 1 ∷ 1 ∷ 0 ∷ 1 ∷ 0 ∷ 1 ∷ 0 ∷ [])
    ∷ (1 ∷ 1 ∷ 1 ∷ 1 ∷ 0 ∷ 1 ∷ 0 ∷ 1 ∷ 1 ∷ 130 ∷ 137 ∷ 122 ∷ [])
    ∷ (1 ∷ 1 ∷ 1 ∷ 1 ∷ 0 ∷ 1 ∷ 0 ∷ 1 ∷ 1 ∷ 129 ∷ 137 ∷ 122 ∷ [])
    -- a record that does not rise, and one that in its place has a value past its limit too: 6 comes first
    ∷ (1 ∷ 1 ∷ 1 ∷ 1 ∷ 0 ∷ 2 ∷ 0 ∷ 1 ∷ 1 ∷ 0 ∷ 0 ∷ 1 ∷ 1 ∷ 0 ∷ [])
    ∷ (1 ∷ 1 ∷ 1 ∷ 1 ∷ 0 ∷ 2 ∷ 0 ∷ 1 ∷ 1 ∷ 0 ∷ 0 ∷ 1 ∷ 1 ∷ 130 ∷ 137 ∷ 122 ∷ [])
    -- a byte after the sheet
    ∷ (1 ∷ 1 ∷ 1 ∷ 1 ∷ 0 ∷ 0 ∷ 0 ∷ [])
    -- 1,000,000 and -1,000,000 themselves
    ∷ (1 ∷ 1 ∷ 1 ∷ 1 ∷ 0 ∷ 1 ∷ 0 ∷ 1 ∷ 1 ∷ 128 ∷ 137 ∷ 122 ∷ [])
    ∷ (1 ∷ 1 ∷ 1 ∷ 1 ∷ 0 ∷ 1 ∷ 0 ∷ 1 ∷ 1 ∷ 255 ∷ 136 ∷ 122 ∷ [])
    ∷ []
    ) ≡ bad 1 0 ∷ bad 1 0 ∷ bad 1 8 ∷ bad 1 9
    ∷ bad 2 0 ∷ bad 2 0 ∷ bad 2 0
    ∷ bad 3 0
    ∷ bad 4 1 ∷ bad 4 1 ∷ bad 4 2 ∷ bad 4 3
    ∷ bad 5 4
    ∷ bad 6 5 ∷ bad 6 6 ∷ bad 6 7 ∷ bad 6 8 ∷ bad 6 9 ∷ bad 6 9
    ∷ bad 7 10 ∷ bad 6 13
    ∷ bad 8 6
    ∷ bad 0 0 ∷ bad 0 0 ∷ []
unfolding sheet_in sheet_after counts_at schedule_at tables_at ended modes_at mode_at records_at record_at value_at rising tested after and_then put laid tables_of number_in group followed
refusals = refl
