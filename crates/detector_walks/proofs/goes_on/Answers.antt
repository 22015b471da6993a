-- `detector_walks::goes_on` meets its contract: the pixel's run, at the turned point's pixel (`Looks.antt`).
use Rattle.detector_walks.proofs.Looks.{column_below, row_below, looked}
use Rattle.detector_walks.proofs.goes_on.Goals as goal

pub abs_below_f32_to_u32-column-requires : goal.abs_below_f32_to_u32-column-requires
abs_below_f32_to_u32-column-requires c = search column_below

pub abs_below_f32_to_u32-row-requires : goal.abs_below_f32_to_u32-row-requires
abs_below_f32_to_u32-row-requires c = search row_below

pub returns : goal.returns
returns c = search looked
