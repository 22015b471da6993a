-- `Orientation` has the definitions, `OrientationClauses` what the clauses of functions name. `SourcePoints` has the points as the source makes them, and
-- `PointsLaws` what holds of all of them.
pub mod Orientation
pub mod OrientationClauses
pub mod SourcePoints
pub mod PointsLaws
