mod Notes
mod Tied
