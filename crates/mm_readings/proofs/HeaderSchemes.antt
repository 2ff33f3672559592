-- The 88 rows of the header as schemes, in order.
use Rattle.std.proofs.Common.{List, [], ◌∷◌, ◌++◌, map}
use Rattle.ml_pat.specs.Patterns.{Nullary, Bot, Top, Unary, Not, Next, Ev, Binary, Imp, And, Or}
use Rattle.ml_pat.specs.Patterns.{Equal, Member, App, Sorted, Fun, AtSort, Quantifier, Ex, All}
use Rattle.ml_pat.specs.Patterns.{Pattern, nullary, unary, binary, sorted, quantified, var, meta}
use Rattle.ml_pat.specs.Patterns.{bot, top, not, next, ev, imp, and, or, equal, member, app, fun}
use Rattle.ml_pat.specs.Patterns.{ex, all}
use Rattle.mm_readings.specs.Letters.{Letter, object_letter, meta_letter, says_pattern}
use Rattle.mm_readings.specs.Letters.{says_substituted, says_fresh, says_predicate, says_holds}
use Rattle.mm_readings.specs.Pieces.{Piece, word_piece, pattern_piece}
use Rattle.mm_readings.proofs.Schemes.{Scheme}

-- the variables `p q r t u` and `x y` of the header; those of sorts, `s v`, are 0 and 1
abbrev p : Pattern
p = meta 0

abbrev q : Pattern
q = meta 1

abbrev r : Pattern
r = meta 2

abbrev t : Pattern
t = meta 3

abbrev u : Pattern
u = meta 4

abbrev x : Pattern
x = var 0

abbrev y : Pattern
y = var 1

-- what a row says
abbrev pattern_of : Pattern → List Piece
pattern_of a = word_piece says_pattern ∷ (pattern_piece a ∷ [])

abbrev fresh_in : Pattern → Pattern → List Piece
fresh_in a b = word_piece says_fresh ∷ (pattern_piece a ∷ (pattern_piece b ∷ []))

abbrev substituted : Pattern → Pattern → Pattern → Pattern → List Piece
substituted a b c d =
    word_piece says_substituted
    ∷ (pattern_piece a ∷ (pattern_piece b ∷ (pattern_piece c ∷ (pattern_piece d ∷ []))))

abbrev predicate_of : Pattern → List Piece
predicate_of a = word_piece says_predicate ∷ (pattern_piece a ∷ [])

abbrev holds : Pattern → List Piece
holds a = word_piece says_holds ∷ (pattern_piece a ∷ [])

abbrev schema : List Piece → Scheme
schema what = record { apart = []; hypotheses = []; statement = what }

abbrev rule : List (List Piece) → List Piece → Scheme
rule given what = record { apart = []; hypotheses = given; statement = what }

abbrev rule_apart : Letter → Letter → List (List Piece) → List Piece → Scheme
rule_apart k l given what = record {
  apart = (k, l) ∷ [];
  hypotheses = given;
  statement = what;
}

-- the connectives in the order of the header
abbrev pub two_place : List Binary
two_place = Imp ∷ (And ∷ (Or ∷ (Equal ∷ (Member ∷ (App ∷ [])))))

abbrev pub one_place : List Unary
one_place = Not ∷ (Next ∷ (Ev ∷ []))

abbrev pub sorted_names : List Sorted
sorted_names = AtSort ∷ (Fun ∷ [])

abbrev pub quantifiers : List Quantifier
quantifiers = Ex ∷ (All ∷ [])

-- ---- syntax

abbrev pub w_nullary : Nullary → Scheme
w_nullary k = schema (pattern_of (nullary k))

abbrev pub w_binary : Binary → Scheme
w_binary k = schema (pattern_of (binary k p q))

abbrev pub w_unary : Unary → Scheme
w_unary k = schema (pattern_of (unary k p))

abbrev pub w_sorted : Sorted → Scheme
w_sorted k = schema (pattern_of (sorted k p 0))

abbrev pub w_quantified : Quantifier → Scheme
w_quantified k = schema (pattern_of (quantified k 0 0 p))

abbrev pub syntax_schemes : List Scheme
syntax_schemes =
    schema (pattern_of x) ∷ (w_nullary Bot ∷ (w_nullary Top ∷
    (map w_binary two_place ++ (map w_unary one_place ++ (map w_sorted sorted_names
    ++ map w_quantified quantifiers)))))

-- ---- freshness

abbrev pub fr_binary : Binary → Scheme
fr_binary k = rule (fresh_in x p ∷ (fresh_in x q ∷ [])) (fresh_in x (binary k p q))

abbrev pub fr_unary : Unary → Scheme
fr_unary k = rule (fresh_in x p ∷ []) (fresh_in x (unary k p))

abbrev pub fr_sorted : Sorted → Scheme
fr_sorted k = rule (fresh_in x p ∷ []) (fresh_in x (sorted k p 0))

abbrev pub fr_quantified : Quantifier → Scheme
fr_quantified k = rule (fresh_in x p ∷ []) (fresh_in x (quantified k 1 0 p))

abbrev pub fr_bound : Quantifier → Scheme
fr_bound k = schema (fresh_in x (quantified k 0 0 p))

abbrev pub fresh_schemes : List Scheme
fresh_schemes =
    rule_apart (object_letter 0) (meta_letter 0) [] (fresh_in x p) ∷
    (map fr_binary two_place ++ (map fr_unary one_place ++ (map fr_sorted sorted_names
    ++ (map fr_quantified quantifiers ++ map fr_bound quantifiers))))

-- ---- substitution

abbrev pub su_binary : Binary → Scheme
su_binary k =
    rule (substituted t p u x ∷ (substituted r q u x ∷ []))
    (substituted (binary k t r) (binary k p q) u x)

abbrev pub su_unary : Unary → Scheme
su_unary k = rule (substituted t p u x ∷ []) (substituted (unary k t) (unary k p) u x)

abbrev pub su_sorted : Sorted → Scheme
su_sorted k = rule (substituted t p u x ∷ []) (substituted (sorted k t 0) (sorted k p 0) u x)

abbrev pub su_quantified : Quantifier → Scheme
su_quantified k =
    rule_apart (object_letter 0) (object_letter 1) (fresh_in y u ∷ (substituted t p u x ∷ []))
    (substituted (quantified k 1 0 t) (quantified k 1 0 p) u x)

abbrev pub substitution_schemes : List Scheme
substitution_schemes =
    schema (substituted u x u x) ∷ (rule (fresh_in x p ∷ []) (substituted p p u x) ∷
    (map su_binary two_place ++ (map su_unary one_place ++ (map su_sorted sorted_names
    ++ map su_quantified quantifiers))))

-- ---- predicates

abbrev pub pr_quantified : Quantifier → Scheme
pr_quantified k = rule (predicate_of p ∷ []) (predicate_of (quantified k 0 0 p))

abbrev pub predicate_schemes : List Scheme
predicate_schemes =
    schema (predicate_of bot) ∷ (schema (predicate_of top) ∷
    (rule (predicate_of p ∷ (predicate_of q ∷ [])) (predicate_of (imp p q)) ∷
    (rule (predicate_of p ∷ (predicate_of q ∷ [])) (predicate_of (and p q)) ∷
    (rule (predicate_of p ∷ (predicate_of q ∷ [])) (predicate_of (or p q)) ∷
    (rule (predicate_of p ∷ []) (predicate_of (not p)) ∷
    (schema (predicate_of (equal p q)) ∷ (schema (predicate_of (member p q)) ∷
    (schema (predicate_of (fun p 0)) ∷ map pr_quantified quantifiers))))))))

-- ---- proof

abbrev pub propositional_schemes : List Scheme
propositional_schemes =
    schema (holds (imp p (imp q p))) ∷
    (schema (holds (imp (imp p (imp q r)) (imp (imp p q) (imp p r)))) ∷
    (schema (holds (imp (imp (imp p bot) bot) p)) ∷
    (rule (holds p ∷ (holds (imp p q) ∷ [])) (holds q) ∷
    (schema (holds (imp (not p) (imp p bot))) ∷
    (schema (holds (imp (imp p bot) (not p))) ∷
    (schema (holds (imp (and p q) p)) ∷
    (schema (holds (imp (and p q) q)) ∷
    (schema (holds (imp p (imp q (and p q)))) ∷
    (schema (holds (imp p (or p q))) ∷
    (schema (holds (imp q (or p q))) ∷
    (schema (holds (imp (imp p r) (imp (imp q r) (imp (or p q) r)))) ∷
    (schema (holds top) ∷ []))))))))))))

abbrev pub first_order_schemes : List Scheme
first_order_schemes =
    rule (substituted r p q x ∷ []) (holds (imp (all 0 0 p) (imp (fun q 0) r))) ∷
    (rule_apart (object_letter 1) (meta_letter 0) []
    (holds (imp (ex 1 0 (equal y p)) (fun p 0))) ∷
    (rule (holds (imp (fun x 0) (imp p q)) ∷ (fresh_in x q ∷ [])) (holds (imp (ex 0 0 p) q)) ∷ []))

abbrev pub equality_schemes : List Scheme
equality_schemes =
    schema (holds (equal p p)) ∷
    (rule (substituted t r p x ∷ (substituted u r q x ∷ [])) (holds (imp (equal p q) (imp t u))) ∷
    (rule (holds (imp p q) ∷ (holds (imp q p) ∷ [])) (holds (equal p q)) ∷ []))

abbrev pub membership_schemes : List Scheme
membership_schemes =
    schema (holds (imp (fun p 0) (member p p))) ∷
    (rule (predicate_of r ∷ (holds (imp r (not (and p q))) ∷ []))
    (holds (imp r (not (member p q)))) ∷
    (schema (holds (imp (fun p 0) (imp (fun q 1) (imp (not (equal p q)) (not (and p q)))))) ∷ []))

abbrev pub application_schemes : List Scheme
application_schemes =
    rule (predicate_of r ∷ (holds (imp r (imp p q)) ∷ []))
    (holds (imp r (imp (app p t) (app q t)))) ∷
    (rule (predicate_of r ∷ (holds (imp r (imp p q)) ∷ []))
    (holds (imp r (imp (app t p) (app t q)))) ∷
    (schema (holds (imp (app bot p) bot)) ∷
    (schema (holds (imp (app p bot) bot)) ∷ [])))

abbrev pub reachability_schemes : List Scheme
reachability_schemes =
    rule (holds (imp p q) ∷ []) (holds (imp (next p) (next q))) ∷
    (schema (holds (imp p (ev p))) ∷
    (schema (holds (imp (next (ev p)) (ev p))) ∷
    (rule (holds (imp p q) ∷ (holds (imp (next q) q) ∷ [])) (holds (imp (ev p) q)) ∷ [])))

abbrev pub proof_schemes : List Scheme
proof_schemes =
    propositional_schemes ++ (first_order_schemes ++ (equality_schemes ++ (membership_schemes
    ++ (application_schemes ++ reachability_schemes))))

unfoldable pub header_schemes : List Scheme
header_schemes =
    syntax_schemes ++ (fresh_schemes ++ (substitution_schemes ++ (predicate_schemes
    ++ proof_schemes)))
