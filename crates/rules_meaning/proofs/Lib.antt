pub mod MeaningRows
pub mod Values
