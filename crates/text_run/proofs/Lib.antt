mod Listed
mod Fitting
