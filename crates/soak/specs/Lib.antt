-- What the contracts of the program cite. Assumes nothing.
pub mod Jobs
pub mod Words
