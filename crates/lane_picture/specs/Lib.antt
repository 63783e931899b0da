pub mod Marks
pub mod Grids
pub mod Pieces
pub mod Words
pub mod Shapes
pub mod Drawing
pub mod Growing
pub mod svg
