pub mod Both
pub mod LaterLaws
