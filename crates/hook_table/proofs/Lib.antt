mod Bits
mod Ranges
mod Numbers
