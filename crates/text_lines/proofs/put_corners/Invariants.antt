-- `text_lines::put_corners` meets its contract. The invariant is `Corners`: the words of the corners so far are put.
use Rattle.text_lines.proofs.Corners.{Corners}
use Rattle.text_lines.proofs.put_corners.Given as goal

abbrev pub invariant-loop-corner : goal.invariant-loop-corner
invariant-loop-corner l = Corners l.fields l.fn.text l.corner-index l.text
