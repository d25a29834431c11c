-- Lists of calls on a built store: the leaf book, what the calls leave and answer, and demand 3.
pub mod LeafBook
pub mod History
pub mod Demand3
pub mod Latest
pub mod Uses
