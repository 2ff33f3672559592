-- The frames of the header's rows, as schemes over patterns.
use Rattle.std.proofs.Common.{◌≡◌, ℕ, ◌+◌, List, [], ◌∷◌, ◌++◌, refl, Bool}
use Rattle.std.specs.Prelude.{◌==◌, if◌then◌else◌, Some, codes, false}
use Rattle.mm_text.specs.Bytes.{Token}
use Rattle.mm_database.specs.Frames.{Hypothesis, floating, essential, Frame}
use Rattle.mm_header.specs.Header.{header_rows, rule_apart}
use Rattle.mm_header.specs.HeaderContext.{header_context, header_labels, frame_of_row}
use Rattle.ml_pat.specs.Patterns.{Nullary, Bot, Top, Unary, Not, Binary, Imp, Sorted, Fun, AtSort}
use Rattle.ml_pat.specs.Patterns.{Quantifier, Ex, All, Pattern, nullary, unary, binary, sorted}
use Rattle.ml_pat.specs.Patterns.{quantified, imp, not, and, or, equal, member, fun, var, meta}
use Rattle.ml_pat.specs.Patterns.{constant}
use Rattle.mm_proof.specs.Tokens.{Naming, letters_of, nullary_name, unary_name, binary_name}
use Rattle.mm_proof.specs.Tokens.{sorted_name, quantifier_name}
use Rattle.mm_proof.specs.Judgements.{Judgement, is_pattern, is_fresh, is_substituted, is_predicate}
use Rattle.mm_proof.specs.Judgements.{judgement_by}

-- the variables of the header: `p q r t u` are pattern variables, `x y` object variables and `s v`
-- sorts
abbrev pub header_naming : Naming
header_naming = record {
  sort = λ i. if i == 0 then codes "s" else codes "v";
  constant = λ i. [];
  object = λ i. if i == 0 then codes "x" else codes "y";
  meta =
      λ i. if i == 0 then codes "p" else if i == 1 then codes "q" else if i == 2 then codes "r"
      else if i == 3 then codes "t" else codes "u";
}

-- the patterns `p q r t u`
abbrev pub P : Pattern
P = meta 0

abbrev pub Q : Pattern
Q = meta 1

abbrev pub R : Pattern
R = meta 2

abbrev pub T : Pattern
T = meta 3

abbrev pub U : Pattern
U = meta 4

abbrev pub scheme : Judgement → List Token
scheme j = judgement_by (letters_of header_naming) j

abbrev pub fp : Hypothesis
fp = floating (codes "fp") (codes "#Pattern") (codes "p")

abbrev pub fq : Hypothesis
fq = floating (codes "fq") (codes "#Pattern") (codes "q")

abbrev pub fr : Hypothesis
fr = floating (codes "fr") (codes "#Pattern") (codes "r")

abbrev pub ft : Hypothesis
ft = floating (codes "ft") (codes "#Pattern") (codes "t")

abbrev pub fu : Hypothesis
fu = floating (codes "fu") (codes "#Pattern") (codes "u")

abbrev pub fx : Hypothesis
fx = floating (codes "fx") (codes "#Var") (codes "x")

abbrev pub fy : Hypothesis
fy = floating (codes "fy") (codes "#Var") (codes "y")

abbrev pub fs : Hypothesis
fs = floating (codes "fs") (codes "#Sort") (codes "s")

abbrev pub fv : Hypothesis
fv = floating (codes "fv") (codes "#Sort") (codes "v")

-- the `$e`s of a row with a label, from a number on
abbrev pub premises : Token → ℕ → List Judgement → List Hypothesis
premises name n [] = []
premises name n (j ∷ js) =
    essential (name ++ (46 ∷ (49 + n) ∷ [])) (scheme j) ∷ premises name (n + 1) js

-- the frame of a row: its label, its pairs, its `$f`s, its premises and what it says
abbrev pub frame : Token → (Token → Token → Bool) → List Hypothesis → List Judgement → Judgement
    → Frame
frame name pairs floats js j = record {
  label = name;
  hypotheses = floats ++ premises name 0 js;
  apart = pairs;
  statement = scheme j;
}

abbrev pub no_pair : Token → Token → Bool
no_pair = λ a b. false

-- the header has this row
abbrev pub IsRow : Token → (Token → Token → Bool) → List Hypothesis → List Judgement → Judgement
    → Type 0
IsRow name pairs floats js j = header_context.frames name ≡ Some (frame name pairs floats js j)

-- the pairs of a row with two variables that have to stay apart
abbrev pub pair_of : Token → Token → Token → List (List ℕ) → List ℕ → Token → Token → Bool
pair_of x y name given what = (frame_of_row (rule_apart x y name given what)).apart

-- syntax

pub w_var : IsRow (codes "w.var") no_pair (fx ∷ []) ([]) (is_pattern (var 0))
unfolding header_context header_rows header_labels
w_var = refl

pub w_nullary : (o : Nullary) → IsRow (codes "w." ++ nullary_name o) no_pair [] []
    (is_pattern (nullary o))
unfolding header_context header_rows header_labels
w_nullary Bot = refl
w_nullary Top = refl

pub w_binary : (o : Binary) → IsRow (codes "w." ++ binary_name o) no_pair (fp ∷ fq ∷ []) []
    (is_pattern (binary o P Q))
unfolding header_context header_rows header_labels
w_binary Imp = refl
w_binary o = refl

pub w_unary : (o : Unary) → IsRow (codes "w." ++ unary_name o) no_pair (fp ∷ []) []
    (is_pattern (unary o P))
unfolding header_context header_rows header_labels
w_unary Not = refl
w_unary o = refl

pub w_sorted : (o : Sorted) → IsRow (codes "w." ++ sorted_name o) no_pair (fp ∷ fs ∷ []) []
    (is_pattern (sorted o P 0))
unfolding header_context header_rows header_labels
w_sorted Fun = refl
w_sorted AtSort = refl

pub w_quantified : (o : Quantifier) → IsRow (codes "w." ++ quantifier_name o) no_pair
    (fp ∷ fx ∷ fs ∷ []) []
    (is_pattern (quantified o 0 0 P))
unfolding header_context header_rows header_labels
w_quantified Ex = refl
w_quantified All = refl

-- freshness

pub fr_d : IsRow (codes "fr.d")
    (pair_of (codes "x") (codes "p") (codes "fr.d") [] (codes "#Fresh x p")) (fp ∷ fx ∷ []) ([])
    (is_fresh 0 P)
unfolding header_context header_rows header_labels
fr_d = refl

pub fr_binary : (o : Binary) → IsRow (codes "fr." ++ binary_name o) no_pair (fp ∷ fq ∷ fx ∷ [])
    (is_fresh 0 P ∷ is_fresh 0 Q ∷ []) (is_fresh 0 (binary o P Q))
unfolding header_context header_rows header_labels
fr_binary Imp = refl
fr_binary o = refl

pub fr_unary : (o : Unary) → IsRow (codes "fr." ++ unary_name o) no_pair (fp ∷ fx ∷ [])
    (is_fresh 0 P ∷ [])
    (is_fresh 0 (unary o P))
unfolding header_context header_rows header_labels
fr_unary Not = refl
fr_unary o = refl

pub fr_sorted : (o : Sorted) → IsRow (codes "fr." ++ sorted_name o) no_pair (fp ∷ fx ∷ fs ∷ [])
    (is_fresh 0 P ∷ []) (is_fresh 0 (sorted o P 0))
unfolding header_context header_rows header_labels
fr_sorted Fun = refl
fr_sorted AtSort = refl

pub fr_quantified : (o : Quantifier) → IsRow (codes "fr." ++ quantifier_name o) no_pair
    (fp ∷ fx ∷ fy ∷ fs ∷ []) (is_fresh 0 P ∷ []) (is_fresh 0 (quantified o 1 0 P))
unfolding header_context header_rows header_labels
fr_quantified Ex = refl
fr_quantified All = refl

pub fr_quantified_bound : (o : Quantifier)
    → IsRow (codes "fr." ++ (quantifier_name o ++ codes "b")) no_pair
    (fp ∷ fx ∷ fs ∷ []) [] (is_fresh 0 (quantified o 0 0 P))
unfolding header_context header_rows header_labels
fr_quantified_bound Ex = refl
fr_quantified_bound All = refl

-- substitution

pub su_v : IsRow (codes "su.v") no_pair (fu ∷ fx ∷ []) ([]) (is_substituted U (var 0) U 0)
unfolding header_context header_rows header_labels
su_v = refl

pub su_f : IsRow (codes "su.f") no_pair (fp ∷ fu ∷ fx ∷ []) (is_fresh 0 P ∷ [])
    (is_substituted P P U 0)
unfolding header_context header_rows header_labels
su_f = refl

pub su_binary : (o : Binary) → IsRow (codes "su." ++ binary_name o) no_pair
    (fp ∷ fq ∷ fr ∷ ft ∷ fu ∷ fx ∷ []) (is_substituted T P U 0 ∷ is_substituted R Q U 0 ∷ [])
    (is_substituted (binary o T R) (binary o P Q) U 0)
unfolding header_context header_rows header_labels
su_binary Imp = refl
su_binary o = refl

pub su_unary : (o : Unary) → IsRow (codes "su." ++ unary_name o) no_pair (fp ∷ ft ∷ fu ∷ fx ∷ [])
    (is_substituted T P U 0 ∷ []) (is_substituted (unary o T) (unary o P) U 0)
unfolding header_context header_rows header_labels
su_unary Not = refl
su_unary o = refl

pub su_sorted : (o : Sorted) → IsRow (codes "su." ++ sorted_name o) no_pair
    (fp ∷ ft ∷ fu ∷ fx ∷ fs ∷ []) (is_substituted T P U 0 ∷ [])
    (is_substituted (sorted o T 0) (sorted o P 0) U 0)
unfolding header_context header_rows header_labels
su_sorted Fun = refl
su_sorted AtSort = refl

-- under a quantifier: its variable and the variable that is replaced have to stay apart
abbrev pub su_pair : Quantifier → Token → Token → Bool
su_pair o =
    pair_of (codes "x") (codes "y") (codes "su." ++ quantifier_name o)
    (codes "#Fresh y u" ∷ codes "#Sub t p u x" ∷ [])
    (codes "#Sub ( \\" ++ (quantifier_name o ++ (codes " y s t ) ( \\" ++ (quantifier_name o
    ++ codes " y s p ) u x"))))

pub su_quantified : (o : Quantifier) → IsRow (codes "su." ++ quantifier_name o) (su_pair o)
    (fp ∷ ft ∷ fu ∷ fx ∷ fy ∷ fs ∷ []) (is_fresh 1 U ∷ is_substituted T P U 0 ∷ [])
    (is_substituted (quantified o 1 0 T) (quantified o 1 0 P) U 0)
unfolding header_context header_rows header_labels
su_quantified Ex = refl
su_quantified All = refl

-- predicates

pub pr_nullary : (o : Nullary) → IsRow (codes "pr." ++ nullary_name o) no_pair [] []
    (is_predicate (nullary o))
unfolding header_context header_rows header_labels
pr_nullary Bot = refl
pr_nullary Top = refl

pub pr_imp : IsRow (codes "pr.imp") no_pair (fp ∷ fq ∷ []) (is_predicate P ∷ is_predicate Q ∷ [])
    (is_predicate (imp P Q))
unfolding header_context header_rows header_labels
pr_imp = refl

pub pr_and : IsRow (codes "pr.and") no_pair (fp ∷ fq ∷ []) (is_predicate P ∷ is_predicate Q ∷ [])
    (is_predicate (and P Q))
unfolding header_context header_rows header_labels
pr_and = refl

pub pr_or : IsRow (codes "pr.or") no_pair (fp ∷ fq ∷ []) (is_predicate P ∷ is_predicate Q ∷ [])
    (is_predicate (or P Q))
unfolding header_context header_rows header_labels
pr_or = refl

pub pr_eq : IsRow (codes "pr.eq") no_pair (fp ∷ fq ∷ []) ([]) (is_predicate (equal P Q))
unfolding header_context header_rows header_labels
pr_eq = refl

pub pr_mem : IsRow (codes "pr.mem") no_pair (fp ∷ fq ∷ []) ([]) (is_predicate (member P Q))
unfolding header_context header_rows header_labels
pr_mem = refl

pub pr_not : IsRow (codes "pr.not") no_pair (fp ∷ []) (is_predicate P ∷ []) (is_predicate (not P))
unfolding header_context header_rows header_labels
pr_not = refl

pub pr_fun : IsRow (codes "pr.fun") no_pair (fp ∷ fs ∷ []) ([]) (is_predicate (fun P 0))
unfolding header_context header_rows header_labels
pr_fun = refl

pub pr_quantified : (o : Quantifier) → IsRow (codes "pr." ++ quantifier_name o) no_pair
    (fp ∷ fx ∷ fs ∷ [])
    (is_predicate P ∷ []) (is_predicate (quantified o 0 0 P))
unfolding header_context header_rows header_labels
pr_quantified Ex = refl
pr_quantified All = refl
