pub mod OpeningFits
