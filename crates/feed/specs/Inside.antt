-- What only serves the shape of the code: contracts of private functions cite it. No reader has to open it: what a public function does is
-- said without it, and the proofs tie the two. Assumes nothing.
pub mod Finding
pub mod Turn
pub mod LowFirst
pub mod Calm
-- what a report shows of a hall, as values; the laws say that its report is the hall's
pub mod Showing
-- a call as 'find the next record' and 'step'; the laws say that it is the call
pub mod Handing
-- masks that are words
pub mod MapWords
