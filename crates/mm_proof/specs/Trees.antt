-- The proofs that a pattern is one, and of the judgements on patterns, by the rows of the header.
use Rattle.std.specs.Prelude.{ℕ, ◌==◌, if◌then◌else◌, List, [], ◌∷◌, ◌++◌, map, slice_index_or}
use Rattle.std.specs.Prelude.{codes}
use Rattle.mm_text.specs.Bytes.{Token}
use Rattle.mm_database.specs.Proofs.{ProofTree, proof_node}
use Rattle.proof_nodes.specs.Tables.{forest_of}
use Rattle.ml_pat.specs.Patterns.{Pattern, nullary, unary, binary, sorted, quantified, bot, imp}
use Rattle.ml_pat.specs.Patterns.{not, and, or, equal, member, fun, var, meta, constant}
use Rattle.ml_pat.specs.Judgements.{absent, fresh}
use Rattle.ml_kernel.specs.Rules.{Instance, pattern, variable, sort, label}
use Rattle.ml_kernel.specs.declared.rules.Rule.{Rule}
use Rattle.ml_kernel.specs.declared.rules.Rule.TheVariants as rule
use Rattle.mm_proof.specs.Tokens.{Naming, nullary_name, unary_name, binary_name, sorted_name}
use Rattle.mm_proof.specs.Tokens.{quantifier_name}

-- a label over trees
abbrev pub cite : Token → List ProofTree → ProofTree
cite label trees = proof_node label (forest_of trees)

-- The proof that a pattern is one. A naming gives the labels of the declarations of sorts and
-- constants, and of the `$f`s of variables. The trees below a label are in the order of the
-- header's variables: `p q r t u x y s v`.
abbrev pub syntax_tree : Naming → Pattern → ProofTree
syntax_tree l (nullary c) = cite (codes "w." ++ nullary_name c) []
syntax_tree l (binary c p q) =
    cite (codes "w." ++ binary_name c) (syntax_tree l p ∷ syntax_tree l q ∷ [])
syntax_tree l (unary c p) = cite (codes "w." ++ unary_name c) (syntax_tree l p ∷ [])
syntax_tree l (sorted c p s) =
    cite (codes "w." ++ sorted_name c) (syntax_tree l p ∷ cite (l.sort s) [] ∷ [])
syntax_tree l (quantified c x s p) =
    cite (codes "w." ++ quantifier_name c)
    (syntax_tree l p ∷ cite (l.object x) [] ∷ cite (l.sort s) [] ∷ [])
syntax_tree l (var x) = cite (codes "w.var") (cite (l.object x) [] ∷ [])
syntax_tree l (meta i) = cite (l.meta i) []
syntax_tree l (constant c) = cite (l.constant c) []

-- the proof that x is not free in a pattern in which it does not occur
abbrev pub absent_tree : Naming → ℕ → Pattern → ProofTree
absent_tree l x p = cite (codes "fr.d") (syntax_tree l p ∷ cite (l.object x) [] ∷ [])

-- one row for a whole pattern in which x does not occur, and otherwise the other proof
abbrev pub absent_or : Naming → ℕ → Pattern → ProofTree → ProofTree
absent_or l x p other = if absent x p then absent_tree l x p else other

-- the proof that x is not free in a pattern, by its form
abbrev pub fresh_by_form : Naming → ℕ → Pattern → ProofTree
fresh_by_form l x (binary c p q) =
    cite (codes "fr." ++ binary_name c)
    (syntax_tree l p ∷ syntax_tree l q ∷ cite (l.object x) [] ∷
    absent_or l x p (fresh_by_form l x p) ∷ absent_or l x q (fresh_by_form l x q) ∷ [])
fresh_by_form l x (unary c p) =
    cite (codes "fr." ++ unary_name c)
    (syntax_tree l p ∷ cite (l.object x) [] ∷ absent_or l x p (fresh_by_form l x p) ∷ [])
fresh_by_form l x (sorted c p s) =
    cite (codes "fr." ++ sorted_name c)
    (syntax_tree l p ∷ cite (l.object x) [] ∷ cite (l.sort s) []
    ∷ absent_or l x p (fresh_by_form l x p) ∷ [])
fresh_by_form l x (quantified c y s p) =
    if x == y
    then cite (codes "fr." ++ (quantifier_name c ++ codes "b"))
    (syntax_tree l p ∷ cite (l.object x) [] ∷ cite (l.sort s) [] ∷ [])
    else cite (codes "fr." ++ quantifier_name c)
    (syntax_tree l p ∷ cite (l.object x) [] ∷ cite (l.object y) [] ∷ cite (l.sort s) [] ∷
    absent_or l x p (fresh_by_form l x p) ∷ [])
fresh_by_form l x p = absent_tree l x p

-- the proof that x is not free in a pattern, if it is not free in it
abbrev pub fresh_tree : Naming → ℕ → Pattern → ProofTree
fresh_tree l x p = absent_or l x p (fresh_by_form l x p)

-- the first part and the second part of a pattern
abbrev pub first_part : Pattern → Pattern
first_part (binary c p q) = p
first_part (unary c p) = p
first_part (sorted c p s) = p
first_part (quantified c x s p) = p
first_part p = p

abbrev pub second_part : Pattern → Pattern
second_part (binary c p q) = q
second_part p = p

-- the proof that a pattern in which x is not free stays the same with u substituted for x
abbrev pub unchanged_tree : Naming → ℕ → Pattern → Pattern → ProofTree
unchanged_tree l x u p =
    cite (codes "su.f")
    (syntax_tree l p ∷ syntax_tree l u ∷ cite (l.object x) [] ∷ fresh_tree l x p ∷ [])

-- one row for a whole pattern in which x is not free, and otherwise the other proof
abbrev pub unchanged_or : Naming → ℕ → Pattern → Pattern → ProofTree → ProofTree
unchanged_or l x u p other = if fresh x p then unchanged_tree l x u p else other

-- The proof, by the form of a pattern in which x is free, that the pattern with u substituted for x
-- is the other one. If the pattern is a quantifier of y, then x is free in its body. And y is not
-- free in u, because otherwise it would be captured.
abbrev pub substitution_by_form : Naming → ℕ → Pattern → Pattern → Pattern → ProofTree
substitution_by_form l x u (var y) r =
    cite (codes "su.v") (syntax_tree l u ∷ cite (l.object x) [] ∷ [])
substitution_by_form l x u (binary c p q) r =
    cite (codes "su." ++ binary_name c)
    (syntax_tree l p ∷ syntax_tree l q ∷ syntax_tree l (second_part r)
    ∷ syntax_tree l (first_part r) ∷
    syntax_tree l u ∷ cite (l.object x) [] ∷
    unchanged_or l x u p (substitution_by_form l x u p (first_part r)) ∷
    unchanged_or l x u q (substitution_by_form l x u q (second_part r)) ∷ [])
substitution_by_form l x u (unary c p) r =
    cite (codes "su." ++ unary_name c)
    (syntax_tree l p ∷ syntax_tree l (first_part r) ∷ syntax_tree l u ∷ cite (l.object x) [] ∷
    unchanged_or l x u p (substitution_by_form l x u p (first_part r)) ∷ [])
substitution_by_form l x u (sorted c p s) r =
    cite (codes "su." ++ sorted_name c)
    (syntax_tree l p ∷ syntax_tree l (first_part r) ∷ syntax_tree l u ∷ cite (l.object x) []
    ∷ cite (l.sort s) [] ∷
    unchanged_or l x u p (substitution_by_form l x u p (first_part r)) ∷ [])
substitution_by_form l x u (quantified c y s p) r =
    cite (codes "su." ++ quantifier_name c)
    (syntax_tree l p ∷ syntax_tree l (first_part r) ∷ syntax_tree l u ∷ cite (l.object x) []
    ∷ cite (l.object y) [] ∷
    cite (l.sort s) [] ∷ fresh_tree l y u ∷
    unchanged_or l x u p (substitution_by_form l x u p (first_part r)) ∷ [])
substitution_by_form l x u p r = unchanged_tree l x u p

-- the proof that a pattern with u substituted for x is the other one, if it is
abbrev pub substitution_tree : Naming → ℕ → Pattern → Pattern → Pattern → ProofTree
substitution_tree l x u p r = unchanged_or l x u p (substitution_by_form l x u p r)

-- the proof that a pattern is everything or nothing, if its form shows this
abbrev pub predicate_tree : Naming → Pattern → ProofTree
predicate_tree l (nullary c) = cite (codes "pr." ++ nullary_name c) []
predicate_tree l (imp p q) =
    cite (codes "pr.imp")
    (syntax_tree l p ∷ syntax_tree l q ∷ predicate_tree l p ∷ predicate_tree l q ∷ [])
predicate_tree l (and p q) =
    cite (codes "pr.and")
    (syntax_tree l p ∷ syntax_tree l q ∷ predicate_tree l p ∷ predicate_tree l q ∷ [])
predicate_tree l (or p q) =
    cite (codes "pr.or")
    (syntax_tree l p ∷ syntax_tree l q ∷ predicate_tree l p ∷ predicate_tree l q ∷ [])
predicate_tree l (equal p q) = cite (codes "pr.eq") (syntax_tree l p ∷ syntax_tree l q ∷ [])
predicate_tree l (member p q) = cite (codes "pr.mem") (syntax_tree l p ∷ syntax_tree l q ∷ [])
predicate_tree l (not p) = cite (codes "pr.not") (syntax_tree l p ∷ predicate_tree l p ∷ [])
predicate_tree l (fun p s) = cite (codes "pr.fun") (syntax_tree l p ∷ cite (l.sort s) [] ∷ [])
predicate_tree l (quantified c x s p) =
    cite (codes "pr." ++ quantifier_name c)
    (syntax_tree l p ∷ cite (l.object x) [] ∷ cite (l.sort s) [] ∷ predicate_tree l p ∷ [])
predicate_tree l p = syntax_tree l p

-- the proof that what is substituted for a variable of a rule has its type
abbrev pub instance_tree : Naming → Instance → ProofTree
instance_tree l (pattern p) = syntax_tree l p
instance_tree l (variable x) = cite (l.object x) []
instance_tree l (sort s) = cite (l.sort s) []

-- what is substituted for the variable of a rule at a place
abbrev pub pattern_of_instance : Instance → Pattern
pattern_of_instance (pattern p) = p
pattern_of_instance (variable x) = bot
pattern_of_instance (sort s) = bot

abbrev pub variable_of_instance : Instance → ℕ
variable_of_instance (pattern p) = 0
variable_of_instance (variable x) = x
variable_of_instance (sort s) = 0

abbrev pub pattern_at : List Instance → ℕ → Pattern
pattern_at is i = pattern_of_instance (slice_index_or is i (sort 0))

abbrev pub variable_at : List Instance → ℕ → ℕ
variable_at is i = variable_of_instance (slice_index_or is i (sort 0))

-- The judgements of a rule, before and after the proofs of its premises.
abbrev pub trees_before : Naming → Rule → List Instance → List ProofTree
trees_before l rule.Inst is =
    substitution_tree l (variable_at is 3) (pattern_at is 1) (pattern_at is 0) (pattern_at is 2)
    ∷ []
trees_before l rule.EqEl is =
    substitution_tree l (variable_at is 5) (pattern_at is 0) (pattern_at is 2) (pattern_at is 3) ∷
    substitution_tree l (variable_at is 5) (pattern_at is 1) (pattern_at is 2) (pattern_at is 4)
    ∷ []
trees_before l rule.MemNo is = predicate_tree l (pattern_at is 2) ∷ []
trees_before l rule.AppL is = predicate_tree l (pattern_at is 2) ∷ []
trees_before l rule.AppR is = predicate_tree l (pattern_at is 2) ∷ []
trees_before l r is = []

abbrev pub trees_after : Naming → Rule → List Instance → List ProofTree
trees_after l rule.ExEl is = fresh_tree l (variable_at is 2) (pattern_at is 1) ∷ []
trees_after l r is = []

-- the proof by a rule, at these instances, over proofs of its premises
abbrev pub rule_tree : Naming → Rule → List Instance → List ProofTree → ProofTree
rule_tree l r is trees =
    cite (label r)
    (map (instance_tree l) is ++ (trees_before l r is ++ (trees ++ trees_after l r is)))
