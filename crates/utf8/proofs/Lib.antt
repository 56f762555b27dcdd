pub mod Chars
pub mod Laws
pub mod Leads
pub mod Passing
pub mod Shapes
pub mod Table
pub mod Words
