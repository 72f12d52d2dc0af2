-- Document 01's "Saved record", and the refusals of its reader and writer.
pub mod Layout
pub mod Reading
pub mod Saving
pub mod Inner
pub mod Properties
pub mod WrongReaders
