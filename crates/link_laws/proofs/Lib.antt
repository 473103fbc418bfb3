pub mod Choices
pub mod SiteLaws
pub mod PartLaws
pub mod TextLaws
pub mod NameLaws
pub mod CodeLaws
pub mod GateLaws
pub mod RomLaws
