pub mod Columns
pub mod Scheme
pub mod SchemeLaws
