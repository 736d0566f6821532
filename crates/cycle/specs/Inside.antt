-- Definitions that only serve the shape of the code and of the proofs. No reader has to open them: no public contract and no promise names
-- one, and the laws in proofs/ tie each to the rules. Were one wrong, a law would fail. Assumes nothing.

-- the quick way through steps 1 to 4; proofs/Quiet shows that it is what the rules say
pub mod Quiet
-- steps 1 to 4 in two parts; proofs/Halves shows that together they are what the rules say
pub mod Halves
-- runs of the hall over values; what demands 2 and 3 say of reports is said of bytes
pub mod Runs
-- drops and thirds as one jet and one manifold have them; demand 3 says them by bytes
pub mod Drops
