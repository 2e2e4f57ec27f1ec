pub mod Layouts
pub mod Long
