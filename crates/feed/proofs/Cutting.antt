-- Cutting: a feed comes to the same however it is cut and whatever old records are put in. Assumes nothing.
pub mod AtOnce
pub mod CallsAtOnce
pub mod FeedEnds
pub mod CutAnywhere
pub mod Finishing
pub mod Pieces
