-- The theorems that specs/Properties.antt states are in `RoundTrip`, `Versions`, `Refusals`, `Lengths` and
-- `Examples`, and what they shut out in `ShutOut`: they follow from the laws that hold of every layout
-- (number's `Layouts`) by `Saying` and `FieldSizes`. The others serve the proofs of the functions.
pub mod Ranges
pub mod FieldLaws
pub mod SavingLaws
pub mod FieldSizes
pub mod Saying
pub mod Refusals
pub mod RoundTrip
pub mod Versions
pub mod Examples
pub mod Lengths
pub mod ShutOut
