pub mod AssignLaws
