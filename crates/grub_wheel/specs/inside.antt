-- What the code of the wheel stands on, and no public contract cites.
pub mod Firsts
pub mod Nodes
pub mod Order
pub mod Used
