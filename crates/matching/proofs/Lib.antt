mod Nexts
mod Seeks
mod Matches
