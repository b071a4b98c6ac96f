pub mod Charges
