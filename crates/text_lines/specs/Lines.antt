-- The lines of a report and of a record as text. Definitions only. Assumes nothing.
use Rattle.std.specs.Prelude.{ℕ, List, [], ◌∷◌, ◌++◌, map, get_or, take, drop}
use Rattle.std.specs.Float.{binary32}
use Rattle.std.specs.Float.Ieee.{of_bits, to_unsigned}
use Rattle.records.specs.Fields as field
use Rattle.text.specs.Text.{ascii, decimal_of, hex_of}

unfoldable pub report_line : (answer found kept marked : ℕ) → List ℕ
report_line answer found kept marked =
    ascii "answer " ++ decimal_of answer ++ ascii " found " ++ decimal_of found ++ ascii " kept " ++ decimal_of kept
    ++ ascii " marked " ++ decimal_of marked ++ ascii "\n"

-- the texts, each after a space
abbrev pub following : List (List ℕ) → List ℕ
following [] = []
following (t ∷ ts) = ascii " " ++ t ++ following ts

-- the texts, parted by single spaces
abbrev pub parted : List (List ℕ) → List ℕ
parted [] = []
parted (t ∷ ts) = t ++ following ts

-- an f32, by its bits, as a whole number: Rust's cast to u32
abbrev pub degrees_of : ℕ → ℕ
degrees_of bits = to_unsigned 32 (of_bits binary32 bits)

-- the four corners of a record, x then y
abbrev pub corner_fields : List ℕ → List ℕ
corner_fields fields = take 8 (drop field.corners fields)

-- what the line of a record has in decimal: x, y and radius, then outcome, scale, rotation and class
abbrev pub circle_fields : List ℕ → List ℕ
circle_fields fields = get_or fields field.center_x 0 ∷ get_or fields field.center_y 0 ∷ get_or fields field.radius 0 ∷ []

abbrev pub turn_fields : List ℕ → List ℕ
turn_fields fields =
    get_or fields field.outcome 0 ∷ get_or fields field.scale 0 ∷ degrees_of (get_or fields field.rotation 0) ∷ get_or fields field.class 0 ∷ []

abbrev pub decimal_fields : List ℕ → List ℕ
decimal_fields fields = circle_fields fields ++ turn_fields fields

-- and in hexadecimal: the variance and the corners
abbrev pub hex_fields : List ℕ → List ℕ
hex_fields fields = get_or fields field.variance 0 ∷ corner_fields fields

unfoldable pub record_line : List ℕ → List ℕ
record_line fields = parted (map decimal_of (decimal_fields fields) ++ map hex_of (hex_fields fields)) ++ ascii "\n"
