mod Errors
mod Items
mod Numbered
mod Places
mod Put
mod StripLast
mod Words
