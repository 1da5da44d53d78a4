-- What holds of an answer holds still where it is said in other words.
use Rattle.std.proofs.Common.{Result, Ok, Err, IfOk}

pub if_ok_weaker : {T E : Type 0} (r : Result T E) (P Q : T → Type 0) → ((x : T) → P x → Q x) → IfOk r P → IfOk r Q
if_ok_weaker (Ok x) P Q f h = f x h
if_ok_weaker (Err e) P Q f h = tt
