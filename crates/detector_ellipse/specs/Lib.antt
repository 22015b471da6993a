-- `Ellipse` has the definitions, `EllipseLaws` what holds of them: that from a found centre the lengths are short, when the halves are equal, and the
-- source's test of the good points.
pub mod Ellipse
pub mod EllipseLaws
