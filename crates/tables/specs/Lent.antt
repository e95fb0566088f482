-- A sheet as it is lent to a call: the sheet in memory that its five parts are.
use Rattle.tables.specs.declared.sheets.Sheet as code
use Rattle.tables.specs.Sheets.{Sheet, sheet}

-- the sheet that is lent
abbrev pub lent : code.Sheet → Sheet
lent s = sheet s.n s.m s.positions s.tables.now s.schedule.now
