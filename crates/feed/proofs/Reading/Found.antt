-- The rest of a piece, as a part of it. Assumes nothing.
use Rattle.std.proofs.Common.{◌≡◌, ℕ, ◌-◌, List, length, take, drop, arith, length-drop, take_all}

-- all of the piece from `at` on
pub rest-whole : (at : ℕ) (piece : List ℕ) → take (length piece - at) (drop at piece) ≡ drop at piece
rest-whole at piece = take_all (length piece - at) (drop at piece) (omega (arith, length-drop at piece))
