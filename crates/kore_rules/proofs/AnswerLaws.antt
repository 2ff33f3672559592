-- What is known of one result, from what is known of another.
use Rattle.std.specs.Prelude.{Result, Ok, Err, IfOk, IfErr}

pub ok_into : {X E : Type 0} (P Q : X → Type 0) (r : Result X E) → ((x : X) → P x → Q x) → IfOk r P
    → IfOk r Q
ok_into P Q (Ok x) into h = into x h
ok_into P Q (Err e) into h = tt

pub ok_both : {X E : Type 0} (P Q : X → Type 0) (r : Result X E) → IfOk r P → IfOk r Q
    → IfOk r (λ x. P x × Q x)
ok_both P Q (Ok x) p q = (p, q)
ok_both P Q (Err e) p q = tt

pub err_into : {X E : Type 0} (P Q : E → Type 0) (r : Result X E) → ((e : E) → P e → Q e)
    → IfErr r P → IfErr r Q
err_into P Q (Ok x) into h = tt
err_into P Q (Err e) into h = into e h
