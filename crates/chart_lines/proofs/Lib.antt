mod Trims
mod RunSigns
