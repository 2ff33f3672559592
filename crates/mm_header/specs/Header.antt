-- The rows of the header, as data: the syntax of matching logic over one carrier, side conditions
-- on variables, and a Hilbert-style system (Rosu 2017; Chen and Rosu 2019). A pattern denotes a set
-- of elements. `( \app p q )` is the application of p to q. A symbol is a constant that is applied
-- to its arguments one by one. A quantifier names the sort of its variable. `( \fun p s )` says
-- that p is one element, of sort s. `( \mem p q )` says that the element p is in q. `( \next p )`
-- is the set of configurations with a successor in p. `( \ev p )` is the set of configurations from
-- which p is reached: the least pattern with p and its own predecessors.
use Rattle.std.specs.Prelude.{ℕ, List, [], ◌∷◌, ◌++◌, map, codes}

-- A row: its label, the pairs of variables that have to stay apart, its hypotheses and its
-- statement. Words are separated by one space. A text that does not begin with `#` says that a
-- pattern holds.
pub record Row : Type 0 where
  pub label : List ℕ
  pub apart : List (List ℕ × List ℕ)
  pub hypotheses : List (List ℕ)
  pub statement : List ℕ

-- a row without hypotheses
abbrev pub schema : List ℕ → List ℕ → Row
schema name what = record { label = name; apart = []; hypotheses = []; statement = what }

-- a row with hypotheses
abbrev pub rule : List ℕ → List (List ℕ) → List ℕ → Row
rule name given what = record { label = name; apart = []; hypotheses = given; statement = what }

-- a row with two variables that have to stay apart
abbrev pub rule_apart : List ℕ → List ℕ → List ℕ → List (List ℕ) → List ℕ → Row
rule_apart x y name given what = record {
  label = name;
  apart = (x, y) ∷ [];
  hypotheses = given;
  statement = what;
}

-- the connectives on two patterns, on one pattern, and on a pattern and a sort; and the quantifiers
abbrev pub two_place : List (List ℕ)
two_place = codes "imp" ∷ codes "and" ∷ codes "or" ∷ codes "eq" ∷ codes "mem" ∷ codes "app" ∷ []

abbrev pub one_place : List (List ℕ)
one_place = codes "not" ∷ codes "next" ∷ codes "ev" ∷ []

abbrev pub sorted_names : List (List ℕ)
sorted_names = codes "at" ∷ codes "fun" ∷ []

abbrev pub quantifiers : List (List ℕ)
quantifiers = codes "ex" ∷ codes "all" ∷ []

-- `( \k arguments )`
abbrev pub of : List ℕ → List ℕ → List ℕ
of k arguments = codes "( \\" ++ k ++ codes " " ++ arguments ++ codes " )"

-- what a pattern is: object variables, constants, connectives
abbrev pub syntax_rows : List Row
syntax_rows =
    schema (codes "w.var") (codes "#Pattern x") ∷
    schema (codes "w.bot") (codes "#Pattern \\bot") ∷
    schema (codes "w.top") (codes "#Pattern \\top") ∷
    map (λ k. schema (codes "w." ++ k) (codes "#Pattern " ++ of k (codes "p q"))) two_place ++
    map (λ k. schema (codes "w." ++ k) (codes "#Pattern " ++ of k (codes "p"))) one_place ++
    map (λ k. schema (codes "w." ++ k) (codes "#Pattern " ++ of k (codes "p s"))) sorted_names ++
    map (λ k. schema (codes "w." ++ k) (codes "#Pattern " ++ of k (codes "x s p"))) quantifiers

-- `#Fresh x p`: x is not free in p
abbrev pub fresh_rows : List Row
fresh_rows =
    rule_apart (codes "x") (codes "p") (codes "fr.d") [] (codes "#Fresh x p") ∷
    map (λ k. rule (codes "fr." ++ k) (codes "#Fresh x p" ∷ codes "#Fresh x q" ∷ [])
    (codes "#Fresh x " ++ of k (codes "p q"))) two_place ++
    map (λ k. rule (codes "fr." ++ k) (codes "#Fresh x p" ∷ [])
    (codes "#Fresh x " ++ of k (codes "p"))) one_place ++
    map (λ k. rule (codes "fr." ++ k) (codes "#Fresh x p" ∷ [])
    (codes "#Fresh x " ++ of k (codes "p s"))) sorted_names ++
    map (λ k. rule (codes "fr." ++ k) (codes "#Fresh x p" ∷ [])
    (codes "#Fresh x " ++ of k (codes "y s p"))) quantifiers ++
    map (λ k. schema (codes "fr." ++ k ++ codes "b") (codes "#Fresh x " ++ of k (codes "x s p")))
    quantifiers

-- `#Sub t p u x`: t is p with u substituted for x, without capture
abbrev pub substitution_rows : List Row
substitution_rows =
    schema (codes "su.v") (codes "#Sub u x u x") ∷
    rule (codes "su.f") (codes "#Fresh x p" ∷ []) (codes "#Sub p p u x") ∷
    map (λ k. rule (codes "su." ++ k) (codes "#Sub t p u x" ∷ codes "#Sub r q u x" ∷ [])
    (codes "#Sub " ++ of k (codes "t r") ++ codes " " ++ of k (codes "p q")
    ++ codes " u x")) two_place ++
    map (λ k. rule (codes "su." ++ k) (codes "#Sub t p u x" ∷ []) (codes "#Sub " ++ of k (codes "t")
    ++ codes " " ++ of k (codes "p") ++ codes " u x")) one_place ++
    map (λ k. rule (codes "su." ++ k) (codes "#Sub t p u x" ∷ []) (codes "#Sub "
    ++ of k (codes "t s") ++ codes " " ++ of k (codes "p s") ++ codes " u x")) sorted_names ++
    map (λ k. rule_apart (codes "x") (codes "y") (codes "su." ++ k)
    (codes "#Fresh y u" ∷ codes "#Sub t p u x" ∷ []) (codes "#Sub " ++ of k (codes "y s t")
    ++ codes " " ++ of k (codes "y s p") ++ codes " u x")) quantifiers

-- `#Pred p`: p is everything or nothing
abbrev pub predicate_rows : List Row
predicate_rows =
    schema (codes "pr.bot") (codes "#Pred \\bot") ∷
    schema (codes "pr.top") (codes "#Pred \\top") ∷
    map (λ k. rule (codes "pr." ++ k) (codes "#Pred p" ∷ codes "#Pred q" ∷ [])
    (codes "#Pred " ++ of k (codes "p q")))
    (codes "imp" ∷ codes "and" ∷ codes "or" ∷ []) ++
    map (λ k. rule (codes "pr." ++ k) (codes "#Pred p" ∷ []) (codes "#Pred " ++ of k (codes "p")))
    (codes "not" ∷ []) ++
    map (λ k. schema (codes "pr." ++ k) (codes "#Pred " ++ of k (codes "p q")))
    (codes "eq" ∷ codes "mem" ∷ []) ++
    map (λ k. schema (codes "pr." ++ k) (codes "#Pred " ++ of k (codes "p s"))) (codes "fun" ∷ [])
    ++
    map (λ k.
    rule (codes "pr." ++ k) (codes "#Pred p" ∷ []) (codes "#Pred " ++ of k (codes "x s p")))
    quantifiers

-- implication, and the other connectives in terms of it
abbrev pub propositional_rows : List Row
propositional_rows =
    schema (codes "p.1") (codes "( \\imp p ( \\imp q p ) )") ∷
    schema (codes "p.2")
    (codes "( \\imp ( \\imp p ( \\imp q r ) ) ( \\imp ( \\imp p q ) ( \\imp p r ) ) )") ∷
    schema (codes "p.3") (codes "( \\imp ( \\imp ( \\imp p \\bot ) \\bot ) p )") ∷
    rule (codes "mp") (codes "p" ∷ codes "( \\imp p q )" ∷ []) (codes "q") ∷
    schema (codes "not.1") (codes "( \\imp ( \\not p ) ( \\imp p \\bot ) )") ∷
    schema (codes "not.2") (codes "( \\imp ( \\imp p \\bot ) ( \\not p ) )") ∷
    schema (codes "and.1") (codes "( \\imp ( \\and p q ) p )") ∷
    schema (codes "and.2") (codes "( \\imp ( \\and p q ) q )") ∷
    schema (codes "and.3") (codes "( \\imp p ( \\imp q ( \\and p q ) ) )") ∷
    schema (codes "or.1") (codes "( \\imp p ( \\or p q ) )") ∷
    schema (codes "or.2") (codes "( \\imp q ( \\or p q ) )") ∷
    schema (codes "or.3")
    (codes "( \\imp ( \\imp p r ) ( \\imp ( \\imp q r ) ( \\imp ( \\or p q ) r ) ) )") ∷
    []

abbrev pub top_row : List Row
top_row =
    schema (codes "top") (codes "\\top") ∷
    []

-- instances of a universal pattern, functional patterns and existential ones
abbrev pub first_order_rows : List Row
first_order_rows =
    rule (codes "inst") (codes "#Sub r p q x" ∷ [])
    (codes "( \\imp ( \\all x s p ) ( \\imp ( \\fun q s ) r ) )") ∷
    rule_apart (codes "y") (codes "p") (codes "fun.ex") []
    (codes "( \\imp ( \\ex y s ( \\eq y p ) ) ( \\fun p s ) )") ∷
    rule (codes "ex.el") (codes "( \\imp ( \\fun x s ) ( \\imp p q ) )" ∷ codes "#Fresh x q" ∷ [])
    (codes "( \\imp ( \\ex x s p ) q )") ∷
    []

-- equality
abbrev pub equality_rows : List Row
equality_rows =
    schema (codes "eq.refl") (codes "( \\eq p p )") ∷
    rule (codes "eq.el") (codes "#Sub t r p x" ∷ codes "#Sub u r q x" ∷ [])
    (codes "( \\imp ( \\eq p q ) ( \\imp t u ) )") ∷
    rule (codes "eq.in") (codes "( \\imp p q )" ∷ codes "( \\imp q p )" ∷ []) (codes "( \\eq p q )")
    ∷
    []

-- membership, and elements of the carrier that differ
abbrev pub membership_rows : List Row
membership_rows =
    schema (codes "mem.in") (codes "( \\imp ( \\fun p s ) ( \\mem p p ) )") ∷
    rule (codes "mem.no") (codes "#Pred r" ∷ codes "( \\imp r ( \\not ( \\and p q ) ) )" ∷ [])
    (codes "( \\imp r ( \\not ( \\mem p q ) ) )") ∷
    schema (codes "apart")
    (codes "( \\imp ( \\fun p s ) ( \\imp ( \\fun q v ) ( \\imp ( \\not ( \\eq p q ) ) ( \\not "
    ++ codes "( \\and p q ) ) ) ) )")
    ∷
    []

-- application preserves implications; the application of nothing or to nothing is nothing
abbrev pub application_rows : List Row
application_rows =
    rule (codes "app.l") (codes "#Pred r" ∷ codes "( \\imp r ( \\imp p q ) )" ∷ [])
    (codes "( \\imp r ( \\imp ( \\app p t ) ( \\app q t ) ) )") ∷
    rule (codes "app.r") (codes "#Pred r" ∷ codes "( \\imp r ( \\imp p q ) )" ∷ [])
    (codes "( \\imp r ( \\imp ( \\app t p ) ( \\app t q ) ) )") ∷
    schema (codes "bot.l") (codes "( \\imp ( \\app \\bot p ) \\bot )") ∷
    schema (codes "bot.r") (codes "( \\imp ( \\app p \\bot ) \\bot )") ∷
    []

-- the configurations with a successor in a pattern, and those from which a pattern is reached
abbrev pub reachability_rows : List Row
reachability_rows =
    rule (codes "next.in") (codes "( \\imp p q )" ∷ [])
    (codes "( \\imp ( \\next p ) ( \\next q ) )") ∷
    schema (codes "ev.1") (codes "( \\imp p ( \\ev p ) )") ∷
    schema (codes "ev.2") (codes "( \\imp ( \\next ( \\ev p ) ) ( \\ev p ) )") ∷
    rule (codes "ev.kt") (codes "( \\imp p q )" ∷ codes "( \\imp ( \\next q ) q )" ∷ [])
    (codes "( \\imp ( \\ev p ) q )") ∷
    []

-- what proves a pattern
abbrev pub proof_rows : List Row
proof_rows = propositional_rows ++ top_row ++ first_order_rows ++ equality_rows ++ membership_rows
    ++ application_rows ++ reachability_rows

-- the 88 rows, in order
unfoldable pub header_rows : List Row
header_rows = syntax_rows ++ fresh_rows ++ substitution_rows ++ predicate_rows ++ proof_rows
