pub mod Admission
pub mod Together
pub mod Texts
pub mod Told
