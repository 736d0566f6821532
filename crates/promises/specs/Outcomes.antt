-- 01, "What each claim has to tie down": what it is for a claim to leave no choice, said once for every signature. Assumes nothing.
use Rattle.std.specs.Prelude.{◌≡◌}
use contract.Lifetimes.{Lfts}
use denote.Triple.Entry.{Args, Res}
use denote.Triple.Clauses.{Ended, Lasts, AtExit, at_exit}

-- what an `ensures` states of a function with the signature of T: of its arguments, its result, and its parameters at exit
abbrev pub Claim : Ended → Type 1
Claim T = (κs : Lfts T.signature.lifetimes) → Args T.signature κs → Res T.signature κs → AtExit T κs → Type 0

-- Any two outcomes that the claim allows for the same arguments are equal. An outcome is the result x and, in w, the last value of each
-- `&mut` that ends with the call, a slice's whole list of elements; parameters passed by value or shared have `tt` there.
abbrev pub OneOutcome : (T : Ended) → Claim T → Type 0
OneOutcome T claim =
    (κs : Lfts T.signature.lifetimes) (a : Args T.signature κs) (x x' : Res T.signature κs) (w w' : Lasts T κs a) →
    claim κs a x (at_exit T κs a w) → claim κs a x' (at_exit T κs a w') → (x ≡ x') × (w ≡ w')

-- whatever the claim allows is what `means` says of the arguments, the result and the last values
abbrev pub Says : (T : Ended) → Claim T → ((κs : Lfts T.signature.lifetimes) (a : Args T.signature κs) → Res T.signature κs
    → Lasts T κs a → Type 0) → Type 0
Says T claim means =
    (κs : Lfts T.signature.lifetimes) (a : Args T.signature κs) (x : Res T.signature κs) (w : Lasts T κs a) →
    claim κs a x (at_exit T κs a w) → means κs a x w

-- "No entry relies on its caller having looked first": what a function's `requires` ask holds for all arguments
abbrev pub AsksNothing : (T : Ended) → ((κs : Lfts T.signature.lifetimes) → Args T.signature κs → Type 0) → Type 0
AsksNothing T asks = (κs : Lfts T.signature.lifetimes) (a : Args T.signature κs) → asks κs a
