-- `text_lines::put_corners` meets its contract.
use Rattle.std.proofs.Common.{arith}
use Rattle.text_lines.proofs.Corners.{corners_room, corners_long, corners_more, corners_end, corners_grown}
use Rattle.text_lines.proofs.put_corners.Goals as goal

pub put_next_hex-requires : goal.put_next_hex-requires
put_next_hex-requires c = corners_room (omega (arith, c.loop-corner-test.true, corners_long c.args.fields.now c.told-fields)) c.requires c.loop-corner.invariant

pub loop-corner-preserved : goal.loop-corner-preserved
loop-corner-preserved c =
    corners_more (corners_long c.args.fields.now c.told-fields) (omega (arith, c.loop-corner-test.true, corners_long c.args.fields.now c.told-fields))
    c.put_next_hex.ensures.text c.loop-corner.invariant

pub returns : goal.returns
returns c =
    let wrote = corners_end c.loop-corner-test.false c.loop-corner.invariant in
    record { text = wrote; len = corners_grown c.args.fields.now wrote }
