pub mod Faults
pub mod Shown
pub mod ViewFaults
pub mod Written
pub mod inside
