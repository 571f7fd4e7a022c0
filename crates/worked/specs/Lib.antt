-- What the contracts of the worked examples cite. Assumes nothing.
pub mod Calls
pub mod Table
pub mod Wander
pub mod Zones
