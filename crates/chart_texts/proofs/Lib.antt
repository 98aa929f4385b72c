mod Units
mod Bars
mod Widths
