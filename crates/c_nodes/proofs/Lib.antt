pub mod LevelLaws
pub mod Chains
