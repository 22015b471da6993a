-- `Detector` has the definitions, `DetectorLaws` what they give by parts, `Demand3` what two runs of images that agree at the marked bits have in common,
-- `ClassesLaws` what a bill takes from a run's records.
pub mod Detector
pub mod DetectorLaws
pub mod Demand3
pub mod ClassesLaws
