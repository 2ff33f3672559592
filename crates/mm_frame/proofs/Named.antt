-- A step over numbers gives what the step over their tokens gives.
use Rattle.std.proofs.Common.{subst, ◌≡◌, ℕ, Bool, true, false, List, [], ◌∷◌, ◌++◌, refl, ap, ◌∙◌}
use Rattle.std.proofs.Common.{sym}
use Rattle.std.proofs.lemmas.List.{map-append}
use Rattle.std.proofs.Math.Bool.{and-true}
use Rattle.std.specs.Cmp.{nat_eq_equiv}
use Rattle.std.specs.Prelude.{not, ◌&&◌, ◌||◌, nat_eq, if◌then◌else◌, map, Some, None, option_map}
use Rattle.std.specs.Prelude.{bytes_eq}
use Rattle.std.specs.List.{list_any, list_all}
use Rattle.std.specs.Cmp.Lexicographic.{pointwise}
use Rattle.mm_text.specs.Bytes.{Token}
use Rattle.mm_database.specs.Frames.{Hypothesis, Frame, types, floating, essential}
use Rattle.mm_database.specs.Database.{Context}
use Rattle.mm_database.specs.Proofs.{Expression, substituted, instance_of, typed_variables}
use Rattle.mm_database.specs.Proofs.{symbols_apart, texts_apart, pair_apart, keeps_apart}
use Rattle.mm_database.specs.Stack.{applied, same_expression, same_expressions, behind_first}
use Rattle.mm_database.specs.Stack.{bindings_of, text_of, Binding, text_in}
use Rattle.mm_database.specs.Orderly.{TypeOnce}
use Rattle.mm_frame.specs.Numbered.{NumberedHypothesis, NumberedFrame, IsNaming, named}
use Rattle.mm_frame.specs.Numbered.{named_hypothesis, IsNamedFrame}
use Rattle.mm_frame.specs.NumberedSteps.{numbered_applied, NumberedPlace, IsNamedPlace}
use Rattle.mm_frame.specs.NumberedSteps.{same_numbers, begins_with, all_agree, numbers_apart}

-- the substitution gives each variable the text after the first symbol of its entry
abbrev Binds : (ℕ → List ℕ) → List NumberedHypothesis → List (List ℕ) → Type 0
Binds sigma [] entries = Unit {0}
Binds sigma (h ∷ hypotheses) [] = Unit {0}
Binds sigma (floating label typecode variable ∷ hypotheses) (entry ∷ entries) =
    (sigma variable ≡ behind_first entry) × Binds sigma hypotheses entries
Binds sigma (essential label statement ∷ hypotheses) (entry ∷ entries) =
    Binds sigma hypotheses entries

abbrev types_number : ℕ → NumberedHypothesis → Bool
types_number symbol (floating label typecode variable) = nat_eq variable symbol
types_number symbol (essential label statement) = false

-- no two hypotheses over numbers type the same variable
abbrev NumbersTypeOnce : List NumberedHypothesis → Type 0
NumbersTypeOnce [] = Unit {0}
NumbersTypeOnce (floating label typecode variable ∷ hypotheses) =
    (list_any (types_number variable) hypotheses ≡ false) × NumbersTypeOnce hypotheses
NumbersTypeOnce (essential label statement ∷ hypotheses) = NumbersTypeOnce hypotheses

types-named : (name : ℕ → Token) → IsNaming name → (v : ℕ) (hypotheses : List NumberedHypothesis)
    → list_any (types (name v)) (map (named_hypothesis name) hypotheses)
    ≡ list_any (types_number v) hypotheses
types-named name naming v [] = refl
types-named name naming v (floating label typecode variable ∷ hypotheses) =
    ap (λ b. b || list_any (types (name v)) (map (named_hypothesis name) hypotheses))
    (naming variable v)
    ∙ ap (λ b. nat_eq variable v || b) (types-named name naming v hypotheses)
types-named name naming v (essential label statement ∷ hypotheses) =
    types-named name naming v hypotheses

TypeOnce-named : (name : ℕ → Token) → IsNaming name → (hypotheses : List NumberedHypothesis)
    → TypeOnce (map (named_hypothesis name) hypotheses) → NumbersTypeOnce hypotheses
TypeOnce-named name naming [] once = tt
TypeOnce-named name naming (floating label typecode variable ∷ hypotheses) once = (
  sym (types-named name naming variable hypotheses)
      ∙ once.0,
  TypeOnce-named name naming hypotheses once.1,
)
TypeOnce-named name naming (essential label statement ∷ hypotheses) once =
    TypeOnce-named name naming hypotheses once

neither : (a b : Bool) → (a || b) ≡ false → (a ≡ false) × (b ≡ false)
neither true b h = absurd (cc)
neither false b h = (refl, h)

Binds-more : (b : Binding ℕ) (bindings : List (Binding ℕ)) (hypotheses : List NumberedHypothesis)
    (entries : List (List ℕ)) → list_any (types_number b.variable) hypotheses ≡ false
    → Binds (text_in nat_eq bindings) hypotheses entries
    → Binds (text_in nat_eq (b ∷ bindings)) hypotheses entries
Binds-more b bindings [] entries other binds = tt
Binds-more b bindings (h ∷ hypotheses) [] other binds = tt
Binds-more b bindings (floating label typecode variable ∷ hypotheses) (entry ∷ entries) other
    binds =
    let parts : (nat_eq variable b.variable ≡ false) ×
    (list_any (types_number b.variable) hypotheses ≡ false) =
    neither (nat_eq variable b.variable) (list_any (types_number b.variable) hypotheses)
    other in
    let differs : nat_eq b.variable variable ≡ false =
    nat_eq_equiv.symm b.variable variable ∙ parts.0 in
    (rw differs binds.0, Binds-more b bindings hypotheses entries parts.1 binds.1)
Binds-more b bindings (essential label statement ∷ hypotheses) (entry ∷ entries) other binds =
    Binds-more b bindings hypotheses entries other binds

Binds-bindings : (hypotheses : List NumberedHypothesis) (entries : List (List ℕ))
    → NumbersTypeOnce hypotheses
    → Binds (text_in nat_eq (bindings_of hypotheses entries)) hypotheses entries
Binds-bindings [] entries once = tt
Binds-bindings (h ∷ hypotheses) [] once = tt
Binds-bindings (floating label typecode variable ∷ hypotheses) (entry ∷ entries) once = (
  rw (nat_eq_equiv.refl variable) refl,
  Binds-more (record { variable = variable; text = behind_first entry })
      (bindings_of hypotheses entries) hypotheses entries once.0
      (Binds-bindings hypotheses entries once.1),
)
Binds-bindings (essential label statement ∷ hypotheses) (entry ∷ entries) once =
    Binds-bindings hypotheses entries once

same_numbers-same : (xs : List ℕ) → same_numbers xs xs ≡ true
same_numbers-same [] = refl
same_numbers-same (x ∷ xs) = rw (nat_eq_equiv.refl x) (same_numbers-same xs)

-- an entry that begins with the typecode is the typecode and what follows it
begins_with-same : (typecode : ℕ) (entry : List ℕ)
    → begins_with typecode entry ≡ same_numbers entry (typecode ∷ behind_first entry)
begins_with-same typecode [] = refl
begins_with-same typecode (symbol ∷ symbols) =
    sym (ap (λ b. nat_eq symbol typecode
    && b) (same_numbers-same symbols) ∙ and-true (nat_eq symbol typecode))

all_agree-instances : (sigma : ℕ → List ℕ) (hypotheses : List NumberedHypothesis)
    (entries : List (List ℕ)) → Binds sigma hypotheses entries
    → all_agree sigma hypotheses entries
    ≡ pointwise same_numbers entries (map (instance_of sigma) hypotheses)
all_agree-instances sigma [] [] binds = refl
all_agree-instances sigma [] (entry ∷ entries) binds = refl
all_agree-instances sigma (h ∷ hypotheses) [] binds = refl
all_agree-instances sigma (floating label typecode variable ∷ hypotheses) (entry ∷ entries) binds =
    ap (λ b. b && all_agree sigma hypotheses entries) (begins_with-same typecode entry
    ∙ ap (λ (t : List ℕ). same_numbers entry (typecode ∷ t)) (sym binds.0))
    ∙ ap (λ b. same_numbers entry (typecode ∷ sigma variable) && b)
    (all_agree-instances sigma hypotheses entries binds.1)
all_agree-instances sigma (essential label statement ∷ hypotheses) (entry ∷ entries) binds =
    ap (λ b. same_numbers entry (substituted sigma statement) && b)
    (all_agree-instances sigma hypotheses entries binds)

-- naming

behind_first-named : (name : ℕ → Token) (entry : List ℕ)
    → behind_first (named name entry) ≡ named name (behind_first entry)
behind_first-named name [] = refl
behind_first-named name (symbol ∷ symbols) = refl

text_of-named : (name : ℕ → Token) → IsNaming name
    → (hypotheses : List NumberedHypothesis) (entries : List (List ℕ)) (v : ℕ)
    → text_of (bindings_of (map (named_hypothesis name) hypotheses) (map (named name) entries))
    (name v) ≡ named name (text_in nat_eq (bindings_of hypotheses entries) v)
text_of-named name naming [] entries v = refl
text_of-named name naming (h ∷ hypotheses) [] v = refl
text_of-named name naming (floating label typecode variable ∷ hypotheses) (entry ∷ entries) v =
    rw (naming variable v) (go (nat_eq variable v) (text_of-named name naming hypotheses entries v))
  where
    go : (test : Bool)
        → text_of (bindings_of (map (named_hypothesis name) hypotheses) (map (named name) entries))
        (name v) ≡ named name (text_in nat_eq (bindings_of hypotheses entries) v)
        → (if test then behind_first (named name entry)
        else text_of (bindings_of (map (named_hypothesis name) hypotheses)
        (map (named name) entries)) (name v))
        ≡ named name (if test then behind_first entry
        else text_in nat_eq (bindings_of hypotheses entries) v)
    go true behind = behind_first-named name entry
    go false behind = behind
text_of-named name naming (essential label statement ∷ hypotheses) (entry ∷ entries) v =
    text_of-named name naming hypotheses entries v

substituted-named : (name : ℕ → Token) (sigma : Token → Expression) (tau : ℕ → List ℕ)
    → ((v : ℕ) → sigma (name v) ≡ named name (tau v)) → (xs : List ℕ)
    → substituted sigma (named name xs) ≡ named name (substituted tau xs)
substituted-named name sigma tau same [] = refl
substituted-named name sigma tau same (x ∷ xs) =
    ap (λ (a : Expression). a ++ substituted sigma (named name xs)) (same x)
    ∙ ap (λ (b : Expression). named name (tau x) ++ b) (substituted-named name sigma tau same xs)
    ∙ sym (map-append name (tau x) (substituted tau xs))

instance_of-named : (name : ℕ → Token) (sigma : Token → Expression) (tau : ℕ → List ℕ)
    → ((v : ℕ) → sigma (name v) ≡ named name (tau v)) → (h : NumberedHypothesis)
    → instance_of sigma (named_hypothesis name h) ≡ named name (instance_of tau h)
instance_of-named name sigma tau same (floating label typecode variable) =
    ap (λ (a : Expression). name typecode ∷ a) (same variable)
instance_of-named name sigma tau same (essential label statement) =
    substituted-named name sigma tau same statement

instances-named : (name : ℕ → Token) (sigma : Token → Expression) (tau : ℕ → List ℕ)
    → ((v : ℕ) → sigma (name v) ≡ named name (tau v)) → (hypotheses : List NumberedHypothesis)
    → map (instance_of sigma) (map (named_hypothesis name) hypotheses)
    ≡ map (named name) (map (instance_of tau) hypotheses)
instances-named name sigma tau same [] = refl
instances-named name sigma tau same (h ∷ hypotheses) =
    ap (λ (a : Expression). a ∷ map (instance_of sigma) (map (named_hypothesis name) hypotheses))
    (instance_of-named name sigma tau same h)
    ∙ ap (λ (b : List Expression). named name (instance_of tau h) ∷ b)
    (instances-named name sigma tau same hypotheses)

same_expression-named : (name : ℕ → Token) → IsNaming name → (xs ys : List ℕ)
    → same_expression (named name xs) (named name ys) ≡ same_numbers xs ys
same_expression-named name naming [] [] = refl
same_expression-named name naming [] (y ∷ ys) = refl
same_expression-named name naming (x ∷ xs) [] = refl
same_expression-named name naming (x ∷ xs) (y ∷ ys) =
    ap (λ b. b && same_expression (named name xs) (named name ys)) (naming x y)
    ∙ ap (λ b. nat_eq x y && b) (same_expression-named name naming xs ys)

pub same_expressions-named : (name : ℕ → Token) → IsNaming name → (xs ys : List (List ℕ))
    → same_expressions (map (named name) xs) (map (named name) ys) ≡ pointwise same_numbers xs ys
same_expressions-named name naming [] [] = refl
same_expressions-named name naming [] (y ∷ ys) = refl
same_expressions-named name naming (x ∷ xs) [] = refl
same_expressions-named name naming (x ∷ xs) (y ∷ ys) =
    ap (λ b. b && same_expressions (map (named name) xs) (map (named name) ys))
    (same_expression-named name naming x y)
    ∙ ap (λ b. same_numbers x y && b) (same_expressions-named name naming xs ys)

typed_variables-named : (name : ℕ → Token) (hypotheses : List NumberedHypothesis)
    → typed_variables (map (named_hypothesis name) hypotheses)
    ≡ named name (typed_variables hypotheses)
typed_variables-named name [] = refl
typed_variables-named name (floating label typecode variable ∷ hypotheses) =
    ap (λ (ts : List Token). name variable ∷ ts) (typed_variables-named name hypotheses)
typed_variables-named name (essential label statement ∷ hypotheses) =
    typed_variables-named name hypotheses

list_all-named : (name : ℕ → Token) (f : Token → Bool) (g : ℕ → Bool) → ((v : ℕ) → f (name v) ≡ g v)
    → (xs : List ℕ) → list_all f (named name xs) ≡ list_all g xs
list_all-named name f g same [] = refl
list_all-named name f g same (x ∷ xs) =
    ap (λ b. b && list_all f (named name xs)) (same x)
    ∙ ap (λ b. g x && b) (list_all-named name f g same xs)

symbols_apart-named : (name : ℕ → Token) → IsNaming name → (p : NumberedPlace) (c : Context)
    → IsNamedPlace name p c → (x y : ℕ) → symbols_apart c (name x) (name y) ≡ numbers_apart p x y
symbols_apart-named name naming p c place x y =
    let first : c.variables (name x) ≡ p.is_variable x = place.variables x in
    let second : c.variables (name y) ≡ p.is_variable y = place.variables y in
    let pair : c.scope.apart (name x) (name y) ≡ p.apart x y = place.apart x y in
    let same : bytes_eq (name x) (name y) ≡ nat_eq x y = naming x y in
    rw (first, second, same, pair) refl

texts_apart-named : (name : ℕ → Token) → IsNaming name → (p : NumberedPlace) (c : Context)
    → IsNamedPlace name p c → (xs ys : List ℕ)
    → texts_apart (symbols_apart c) (named name xs) (named name ys)
    ≡ texts_apart (numbers_apart p) xs ys
texts_apart-named name naming p c place xs ys =
    list_all-named name (λ x. list_all (symbols_apart c x) (named name ys))
    (λ x. list_all (numbers_apart p x) ys) (λ x. list_all-named name (symbols_apart c (name x))
    (numbers_apart p x) (symbols_apart-named name naming p c place x) ys) xs

pair_apart-named : (name : ℕ → Token) → IsNaming name → (p : NumberedPlace) (c : Context)
    → IsNamedPlace name p c → (n : NumberedFrame) (f : Frame)
    → ((a b : ℕ) → f.apart (name a) (name b) ≡ n.apart a b)
    → (sigma : Token → Expression) (tau : ℕ → List ℕ)
    → ((v : ℕ) → sigma (name v) ≡ named name (tau v)) → (a b : ℕ)
    → pair_apart (symbols_apart c) f sigma (name a) (name b)
    ≡ pair_apart (numbers_apart p) n tau a b
pair_apart-named name naming p c place n f pairs sigma tau same a b =
    ap (λ t. not t || texts_apart (symbols_apart c) (sigma (name a)) (sigma (name b))) (pairs a b)
    ∙ ap (λ (x : Expression). not (n.apart a b) || texts_apart (symbols_apart c) x (sigma (name b)))
    (same a)
    ∙ ap (λ (y : Expression).
    not (n.apart a b) || texts_apart (symbols_apart c) (named name (tau a)) y) (same b)
    ∙ ap (λ t. not (n.apart a b) || t) (texts_apart-named name naming p c place (tau a) (tau b))

keeps_apart-named : (name : ℕ → Token) → IsNaming name → (p : NumberedPlace) (c : Context)
    → IsNamedPlace name p c → (n : NumberedFrame) (f : Frame) → IsNamedFrame name n f
    → (sigma : Token → Expression) (tau : ℕ → List ℕ)
    → ((v : ℕ) → sigma (name v) ≡ named name (tau v))
    → keeps_apart (symbols_apart c) f sigma ≡ keeps_apart (numbers_apart p) n tau
keeps_apart-named name naming p c place n f frame sigma tau same =
    let variables : typed_variables f.hypotheses ≡ named name (typed_variables n.hypotheses) =
    ap typed_variables frame.hypotheses ∙ typed_variables-named name n.hypotheses in
    ap (λ (vs : List Token).
    list_all (λ a. list_all (pair_apart (symbols_apart c) f sigma a) vs) vs) variables
    ∙ list_all-named name (λ a. list_all (pair_apart (symbols_apart c) f sigma a)
    (named name (typed_variables n.hypotheses)))
    (λ a. list_all (pair_apart (numbers_apart p) n tau a) (typed_variables n.hypotheses))
    (λ a. list_all-named name (pair_apart (symbols_apart c) f sigma (name a))
    (pair_apart (numbers_apart p) n tau a)
    (pair_apart-named name naming p c place n f frame.apart sigma tau same a)
    (typed_variables n.hypotheses)) (typed_variables n.hypotheses)

option_map-if : (name : ℕ → Token) (test : Bool) (xs : List ℕ)
    → (if test then Some (named name xs) else None)
    ≡ option_map (named name) (if test then Some xs else None)
option_map-if name true xs = refl
option_map-if name false xs = refl

pub applied_is_named : (name : ℕ → Token) (p : NumberedPlace) (n : NumberedFrame) (c : Context)
    (f : Frame) (entries : List (List ℕ)) → IsNaming name → IsNamedPlace name p c
    → IsNamedFrame name n f → TypeOnce f.hypotheses
    → applied c f (map (named name) entries)
    ≡ option_map (named name) (numbered_applied p n entries)
applied_is_named name p n c f entries naming place frame types_once =
    let once : NumbersTypeOnce n.hypotheses =
    TypeOnce-named name naming n.hypotheses
    (subst (λ (hs : List Hypothesis). TypeOnce hs) frame.hypotheses types_once) in
    let sigma : Token → Expression =
    text_of (bindings_of f.hypotheses (map (named name) entries)) in
    let tau : ℕ → List ℕ = text_in nat_eq (bindings_of n.hypotheses entries) in
    let same : (v : ℕ) → sigma (name v) ≡ named name (tau v) =
    λ v. ap (λ (hs : List Hypothesis).
    text_of (bindings_of hs (map (named name) entries)) (name v)) frame.hypotheses
    ∙ text_of-named name naming n.hypotheses entries v in
    let agree : same_expressions (map (named name) entries) (map (instance_of sigma) f.hypotheses) ≡
    all_agree tau n.hypotheses entries =
    ap (λ (hs : List Hypothesis).
    same_expressions (map (named name) entries) (map (instance_of sigma) hs))
    frame.hypotheses
    ∙ ap (same_expressions (map (named name) entries))
    (instances-named name sigma tau same n.hypotheses)
    ∙ same_expressions-named name naming entries (map (instance_of tau) n.hypotheses)
    ∙
    sym (all_agree-instances tau n.hypotheses entries (Binds-bindings n.hypotheses entries
    once)) in
    let apart : keeps_apart (symbols_apart c) f sigma ≡ keeps_apart (numbers_apart p) n tau =
    keeps_apart-named name naming p c place n f frame sigma tau same in
    let result : substituted sigma f.statement ≡ named name (substituted tau n.statement) =
    ap (substituted sigma) frame.statement
    ∙ substituted-named name sigma tau same n.statement in
    ap (λ b. if b && keeps_apart (symbols_apart c) f sigma then Some (substituted sigma f.statement)
    else None) agree
    ∙ ap (λ b. if all_agree tau n.hypotheses entries && b then Some (substituted sigma f.statement)
    else None) apart
    ∙ ap (λ (e : Expression). if all_agree tau n.hypotheses entries && keeps_apart (numbers_apart p)
    n tau then Some e else None) result
    ∙ option_map-if name (all_agree tau n.hypotheses entries && keeps_apart (numbers_apart p) n tau)
    (substituted tau n.statement)
