mod Lists
mod Steps
mod Sums
mod Known
mod Marks
