mod Fields
mod Parts
mod Follows
mod RuleParts
mod Sounds
mod Accepted
mod Chosens
