-- `Degrees` says what is known at a degree, `Level` what a walk's point is made of, without the terms that are zero, `Looks` what a step looks at, `Joins`
-- how so many steps are joined to a walk to each side, and `Walking` the same of both.
pub mod Degrees
pub mod Level
pub mod Looks
pub mod Joins
pub mod Walking
