mod Few
mod Exporting
