-- `Window` has the definitions, `Ring` how the code keeps the runs, `RingLaws` what holds of them.
pub mod Window
pub mod Ring
pub mod RingLaws
