-- What a call that is refused needn't say.
use Rattle.std.proofs.Common.{Err, IfErr, IfOk, IsErrAnd, Ok, Result}

pub refused : {T E : Type 0} (r : Result T E) (P : T → Type 0) (Q : E → Type 0) → IsErrAnd r Q → IfOk r P
refused (Ok x) P Q h = absurd h
refused (Err e) P Q h = tt

-- what it says of the refusal
pub refused_by : {T E : Type 0} (r : Result T E) (P Q : E → Type 0) → ((e : E) → Q e → P e) → IsErrAnd r Q → IfErr r P
refused_by (Ok x) P Q f h = tt
refused_by (Err e) P Q f h = f e h
