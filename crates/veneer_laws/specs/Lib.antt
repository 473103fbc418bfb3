pub mod Veneers
