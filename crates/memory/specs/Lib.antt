pub mod Catalogues
pub mod Effects
pub mod Faults
pub mod Flats
pub mod Laws
pub mod Views
