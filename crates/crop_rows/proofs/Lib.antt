-- Lemmas that belong to no one function.
mod Loads
mod Swaps
