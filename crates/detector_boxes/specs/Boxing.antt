-- The box and turn of each kept record, one after another, as a reading program, with the option on or off. Definitions only. Assumes nothing.
use Rattle.std.specs.Prelude.{Bool, List, [], ◌∷◌, get_or}
use Rattle.reads.specs.Reads.{Reads, done, ◌>>=◌}
use Rattle.bit_matrix.specs.declared.Shape.{Shape}
use Rattle.records.specs.Fields as field
use Rattle.records.specs.Records.{Record}
use Rattle.detector_circle.specs.declared.Circle.{Circle}
use Rattle.detector_box.specs.Boxes.{symbol_at}
use Rattle.detector_symbol.specs.Symbols.{with_symbol}

-- a record's centre as found, and its radius
abbrev pub circle_of : Record → Circle
circle_of r = record { center = record { x = get_or r field.center_x 0; y = get_or r field.center_y 0 }; radius = get_or r field.radius 0 }

module _ (ellipse : Bool) (shape : Shape) where
  -- a kept record with its symbol's words
  unfoldable pub boxed : Record → Reads Record
  boxed r = do
    symbol ← symbol_at ellipse shape (circle_of r)
    done (with_symbol r symbol)

  -- each record with its symbol, one after another
  unfoldable pub boxed_all : List Record → Reads (List Record)
  boxed_all [] = done []
  boxed_all (r ∷ rs) = do
    b ← boxed r
    bs ← boxed_all rs
    done (b ∷ bs)
