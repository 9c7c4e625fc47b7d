pub mod Crypted
