pub mod HolesLaws
pub mod Moves
