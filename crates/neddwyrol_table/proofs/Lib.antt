pub mod AsBox
pub mod Calling
pub mod Empty
pub mod Gathering
pub mod Machines
pub mod Parted
