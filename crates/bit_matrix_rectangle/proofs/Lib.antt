mod Extremes
mod Words
