-- The places of a record's words (docs/MANUAL.md, "Records and printed lines"): eleven runs of the row from `row_runs` on, eleven of the column from
-- `column_runs` on, and four corners, x before y, from `corners` on. The code's constants are proved to be these wherever a step reads or writes a
-- field. Definitions only. Assumes nothing.
use Rattle.std.specs.Prelude.{ℕ}

abbrev pub center_x : ℕ
center_x = 0

abbrev pub center_y : ℕ
center_y = 1

abbrev pub radius : ℕ
radius = 2

abbrev pub row_runs : ℕ
row_runs = 3

abbrev pub column_runs : ℕ
column_runs = 14

abbrev pub variance : ℕ
variance = 25

abbrev pub outcome : ℕ
outcome = 26

abbrev pub scale : ℕ
scale = 27

abbrev pub rotation : ℕ
rotation = 28

abbrev pub last_center_x : ℕ
last_center_x = 29

abbrev pub last_center_y : ℕ
last_center_y = 30

abbrev pub corners : ℕ
corners = 31

abbrev pub class : ℕ
class = 39
