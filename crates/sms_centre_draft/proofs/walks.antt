pub mod Acting
pub mod LinksStay
pub mod OffersFound
pub mod FiresFound
pub mod RaisesFound
pub mod NumbersWalked
pub mod EndsFound
pub mod DropsFound
