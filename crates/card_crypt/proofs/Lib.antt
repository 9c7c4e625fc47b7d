mod Crypts
mod Past
