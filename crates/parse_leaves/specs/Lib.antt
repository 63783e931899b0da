pub mod Readers
pub mod Reads
pub mod Tables
pub mod case_arms
