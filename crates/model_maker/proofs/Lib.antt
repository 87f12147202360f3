mod Examples
mod Sizes
mod Years
