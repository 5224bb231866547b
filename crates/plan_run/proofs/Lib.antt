mod Few
mod Importing
