-- `Places` has what it is for records to move to places.
pub mod Places
