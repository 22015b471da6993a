-- `crop_padding::file_padded` meets its contract. The invariant: the place is that of the row's last byte, and no row so far has a one in its padding.
use Rattle.std.specs.Prelude.{ℕ, List, ◌≡◌, false}
use Rattle.crop_padding.specs.Padding.{file_row}
use Rattle.crop_padding.specs.Below.{any_below}
use Rattle.crop_padding.proofs.Padding.{last_byte}
use Rattle.crop_padding.proofs.file_padded.Given as goal

-- none of the rows before y has a one in its padding, and the last byte of row y is at `last`
pub record Passed (file : List ℕ) (w y last : ℕ) : Type 0 where
  pub place : last ≡ last_byte w y
  pub clean : any_below (file_row file w) y ≡ false

abbrev pub invariant-loop-y : goal.invariant-loop-y
invariant-loop-y l = Passed l.file.bytes.now l.width l._y l.last
