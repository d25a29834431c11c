-- Nodes from rows, and rows from nodes.
mod Recursion
