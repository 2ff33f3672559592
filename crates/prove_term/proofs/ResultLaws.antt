-- Clauses on results that follow from other clauses.
use Rattle.std.specs.Prelude.{Result, Ok, Err, IfOk, OnOk}

pub if_ok : {T E : Type 0} {P Q : T → Type 0} (r : Result T E) → ((x : T) → P x → Q x) → IfOk r P
    → IfOk r Q
if_ok (Ok x) f h = f x h
if_ok (Err e) f h = tt

pub if_ok_two : {T E : Type 0} {P Q R : T → Type 0} (r : Result T E) → ((x : T) → P x → Q x → R x)
    → IfOk r P → IfOk r Q → IfOk r R
if_ok_two (Ok x) f h k = f x h k
if_ok_two (Err e) f h k = tt

pub if_ok_three : {T E : Type 0} {P Q R S : T → Type 0} (r : Result T E)
    → ((x : T) → P x → Q x → R x → S x) → IfOk r P → IfOk r Q → IfOk r R → IfOk r S
if_ok_three (Ok x) f h k l = f x h k l
if_ok_three (Err e) f h k l = tt

pub on_both : {T E Q : Type 0} {P R : T → Type 0} (r : Result T E) → ((x : T) → P x → Q → R x)
    → IfOk r P → OnOk r Q → IfOk r R
on_both (Ok x) f h k = f x h k
on_both (Err e) f h k = tt
