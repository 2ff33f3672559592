-- The head of a block as it is written, one statement after another.
use Rattle.std.proofs.Common.{◌≡◌, ℕ, ◌+◌, List, [], ◌∷◌, ◌++◌, length, refl, ap, ◌∙◌, sym, arith}
use Rattle.std.proofs.Common.{append_assoc}
use Rattle.std.specs.Prelude.{map, filter, flat_map, not}
use Rattle.std.proofs.lemmas.Grind.{flat_map-append}
use Rattle.mm_text.specs.Bytes.{Token}
use Rattle.ml_pat.specs.Patterns.{Pattern}
use Rattle.mm_render.specs.declared.variables.Variable as code
use Rattle.mm_claims.specs.Variables.{Variable, object_variable, pattern_variable, is_object}
use Rattle.mm_claims.specs.Variables.{variable_token, variable_tokens, object_tokens, are_several}
use Rattle.mm_claims.specs.Blocks.{variable_statements, separations, separation_statements}
use Rattle.mm_claims.specs.Blocks.{premise_statements}
use Rattle.mm_render.specs.VariablesView.{plain_variables, variable_of}
use Rattle.mm_render.specs.HeadText.{separation, pattern_separations}
use Rattle.mm_text.specs.Written.{written}
use Rattle.mm_database.specs.StatementTexts.{written_statements}

pub more_written : (start text text' : List ℕ) (old new all : List (List Token))
    → text ≡ start ++ written_statements old → text' ≡ text ++ written_statements new
    → all ≡ old ++ new → text' ≡ start ++ written_statements all
more_written start text text' old new all before added is =
    added ∙ ap (λ (t : List ℕ). t ++ written_statements new) before
    ∙ append_assoc start (written_statements old) (written_statements new)
    ∙ ap (λ (t : List ℕ). start ++ t)
    (sym (flat_map-append written old new) ∙ ap written_statements (sym is))

pub more_tokens : (words words' old new all : List Token) → words ≡ old → words' ≡ words ++ new
    → all ≡ old ++ new → words' ≡ all
more_tokens words words' old new all before added is =
    added ∙ ap (λ (ts : List Token). ts ++ new) before ∙ sym is

pub plain_variables-push : (vs : List code.Variable) (v : code.Variable)
    → plain_variables (vs ++ v ∷ []) ≡ plain_variables vs ++ variable_of v ∷ []
plain_variables-push [] v = refl
plain_variables-push (u ∷ vs) v =
    ap (λ (us : List Variable). variable_of u ∷ us) (plain_variables-push vs v)

pub variable_statements-push : (k : ℕ) (vs : List Variable) (v : Variable)
    → variable_statements k (vs ++ v ∷ [])
    ≡ variable_statements k vs ++ variable_statements k (v ∷ [])
variable_statements-push k [] v = refl
variable_statements-push k (u ∷ vs) v = rw (variable_statements-push k vs v) refl

pub premise_statements-push : (declared : List Token) (k j : ℕ) (ps : List Pattern) (p : Pattern)
    → premise_statements declared k j (ps ++ p ∷ [])
    ≡ premise_statements declared k j ps
    ++ premise_statements declared k (j + length ps) (p ∷ [])
premise_statements-push declared k j [] p =
    ap (λ (i : ℕ). premise_statements declared k i (p ∷ [])) (let e : j ≡ j + 0 = omega arith in e)
premise_statements-push declared k j (q ∷ ps) p =
    let e : (j + 1) + length ps ≡ j + length (q ∷ ps) = omega arith in
    ap (λ (sts : List (List Token)). premise_statements declared k j (q ∷ []) ++ sts)
    (premise_statements-push declared k (j + 1) ps p
    ∙ ap (λ (i : ℕ). premise_statements declared k (j + 1) ps
    ++ premise_statements declared k i (p ∷ [])) e)

pub object_tokens-push : (vs : List Variable) (v : Variable)
    → object_tokens (vs ++ v ∷ []) ≡ object_tokens vs ++ object_tokens (v ∷ [])
object_tokens-push [] v = refl
object_tokens-push (object_variable x ∷ vs) v =
    ap (λ (ts : List Token). variable_token (object_variable x) ∷ ts) (object_tokens-push vs v)
object_tokens-push (pattern_variable i ∷ vs) v = object_tokens-push vs v

-- the `$d`s of the object variables, and then of each pattern variable

one_separated : (us : List Variable) (rest : List (List Variable))
    → separation_statements (map variable_tokens (filter are_several (us ∷ rest)))
    ≡ separation (variable_tokens us)
    ++ separation_statements (map variable_tokens (filter are_several rest))
one_separated [] rest = refl
one_separated (u ∷ []) rest = refl
one_separated (u ∷ (v ∷ us)) rest = refl

tokens-push : (us : List Variable) (v : Variable)
    → variable_tokens (us ++ v ∷ []) ≡ variable_tokens us ++ variable_token v ∷ []
tokens-push [] v = refl
tokens-push (u ∷ us) v = ap (λ (ts : List Token). variable_token u ∷ ts) (tokens-push us v)

each_separated : (objects vs : List Variable)
    → separation_statements
    (map variable_tokens (filter are_several (map (λ v. objects ++ v ∷ []) vs)))
    ≡ flat_map (λ v. separation (variable_tokens objects ++ variable_token v ∷ [])) vs
each_separated objects [] = refl
each_separated objects (v ∷ vs) =
    one_separated (objects ++ v ∷ []) (map (λ w. objects ++ w ∷ []) vs)
    ∙ ap (λ (ts : List Token). separation ts
    ++ separation_statements
    (map variable_tokens (filter are_several (map (λ w. objects ++ w ∷ []) vs))))
    (tokens-push objects v)
    ∙ ap (λ (sts : List (List Token)).
    separation (variable_tokens objects ++ variable_token v ∷ []) ++ sts)
    (each_separated objects vs)

pub separations-split : (vs : List Variable)
    → separation_statements (separations vs)
    ≡ separation (object_tokens vs) ++ pattern_separations (object_tokens vs) vs
separations-split vs =
    one_separated (filter is_object vs)
    (map (λ v. filter is_object vs ++ v ∷ []) (filter (λ v. not (is_object v)) vs))
    ∙ ap (λ (sts : List (List Token)). separation (object_tokens vs) ++ sts)
    (each_separated (filter is_object vs) (filter (λ v. not (is_object v)) vs))

-- three lists of statements
pub three_written : (start a b c : List ℕ) (xs ys zs : List (List Token))
    → a ≡ start ++ written_statements xs → b ≡ a ++ written_statements ys
    → c ≡ b ++ written_statements zs → c ≡ start ++ written_statements (xs ++ (ys ++ zs))
three_written start a b c xs ys zs first second third =
    more_written start b c (xs ++ ys) zs (xs ++ (ys ++ zs))
    (more_written start a b xs ys (xs ++ ys) first second refl) third
    (sym (append_assoc xs ys zs))

-- the `$d`s are written in two steps
pub separations_written : (start a b : List ℕ) (vs : List Variable) (ts : List Token)
    → ts ≡ object_tokens vs → a ≡ start ++ written_statements (separation ts)
    → b ≡ a ++ written_statements (pattern_separations ts vs)
    → b ≡ start ++ written_statements (separation_statements (separations vs))
separations_written start a b vs ts are first second =
    more_written start a b (separation ts) (pattern_separations ts vs)
    (separation_statements (separations vs)) first second
    (separations-split vs
    ∙ ap (λ (us : List Token). separation us ++ pattern_separations us vs) (sym are))
