pub mod Paths
pub mod Served
pub mod CommandLemmas
pub mod RoundsLemmas
