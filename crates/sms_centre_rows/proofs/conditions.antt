pub mod Passing
pub mod PlacesNoted
pub mod AddressTested
