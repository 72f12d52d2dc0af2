-- Laws that other crates cite: `ReadWritten` (what was written is read), `WrittenRead` (what is read was
-- written), `Chain` (the same for several numbers in a row), `Sequence` (how a reading of several goes),
-- `Layouts` (records of numbers), `Extent` (what is known of any number that is read), `Sizes` (how many
-- bytes), `Buffer` (what a writer leaves) and `Mapping` (signed numbers). `Lists` and `Steps` serve these;
-- `Examples` has the definitions at worked examples, and `ShutOut` the readers that the statements of
-- specs/Properties.antt and Stopping.antt shut out.
pub mod Lists
pub mod Sizes
pub mod Steps
pub mod Extent
pub mod ReadWritten
pub mod WrittenRead
pub mod Chain
pub mod Sequence
pub mod Layouts
pub mod Buffer
pub mod Mapping
pub mod Examples
pub mod ShutOut
