mod Cells
mod Blocks
