mod Parted
mod Corners
