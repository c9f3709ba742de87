mod Naturals
mod Values
