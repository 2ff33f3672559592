-- Clauses on results that follow from other clauses.
use Rattle.std.specs.Prelude.{Result, Ok, Err, IfOk}

pub if_ok : {T E : Type 0} {P Q : T → Type 0} (r : Result T E) → ((x : T) → P x → Q x) → IfOk r P
    → IfOk r Q
if_ok (Ok x) f h = f x h
if_ok (Err e) f h = tt

pub if_ok_two : {T E : Type 0} {P Q R : T → Type 0} (r : Result T E) → ((x : T) → P x → Q x → R x)
    → IfOk r P → IfOk r Q → IfOk r R
if_ok_two (Ok x) f h k = f x h k
if_ok_two (Err e) f h k = tt
