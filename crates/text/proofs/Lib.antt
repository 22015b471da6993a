mod Numbers
mod Copied
