mod Floats
mod Grids
mod InCells
mod Latest
mod Lists
mod Playing
mod Ranges
