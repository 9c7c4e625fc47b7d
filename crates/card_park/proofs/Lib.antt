mod Images
mod Rows
