-- The tokens of a pattern under a reading spell the pattern, with its variables renamed.
use Rattle.std.proofs.Common.{◌≡◌, ℕ, Bool, true, false, List, [], ◌∷◌, ◌++◌, refl, ap, ◌∙◌}
use Rattle.std.proofs.Common.{append_assoc, arith}
use Rattle.std.specs.Prelude.{◌==◌, ◌||◌, ◌&&◌, codes}
use Rattle.std.specs.Prelude as std
use Rattle.std.proofs.lemmas.Bool.Decides.{nat_tests}
use Rattle.mm_text.specs.Bytes.{Token}
use Rattle.ml_pat.specs.Patterns.{Nullary, Bot, Top, Unary, Not, Next, Ev, Binary, Imp, And, Or}
use Rattle.ml_pat.specs.Patterns.{Equal, Member, App, Sorted, Fun, AtSort, Quantifier, Ex, All}
use Rattle.ml_pat.specs.Patterns.{Pattern, nullary, unary, binary, sorted, quantified, var, meta}
use Rattle.ml_pat.specs.Patterns.{constant}
use Rattle.ml_pat.specs.Judgements.{absent}
use Rattle.ml_pat.specs.Leaves.{LeafFacts, EachLeaf}
use Rattle.ml_kernel.specs.Renamings.{renamed}
use Rattle.mm_proof.specs.Tokens.{nullary_name, unary_name, binary_name, sorted_name}
use Rattle.mm_proof.specs.Tokens.{quantifier_name, object_token, name_of, pattern_tokens, bracket}
use Rattle.mm_proof.specs.Tokens.{bracketed}
use Rattle.mm_readings.specs.Letters.{Letter, opening, closing, nullary_letter, unary_letter}
use Rattle.mm_readings.specs.Letters.{binary_letter, sorted_letter, quantifier_letter}
use Rattle.mm_readings.specs.Letters.{object_letter, constant_letter, sort_letter}
use Rattle.mm_readings.specs.Pieces.{spell}
use Rattle.mm_readings.specs.Readings.{Reading, put}
use Rattle.mm_readings.proofs.Texts.{in_front}
use Rattle.mm_readings.proofs.Applied.{put-append}
use Rattle.mm_readings.proofs.RowTokens.{token_of, is_fixed}
use Rattle.mm_justify.proofs.ImageLeaves.{is_sort_token, is_constant_token}
use Rattle.mm_adequate.specs.Assuming.{numbered}

-- each sort is the number of a sort's token, each constant that of a symbol's or value's token, and
-- there is no pattern variable
abbrev pub named_leaves : List Token → LeafFacts
named_leaves names = record {
  sort = λ i. is_sort_token (name_of names i) ≡ true;
  constant = λ i. is_constant_token (name_of names i) ≡ true;
  object = λ x. Unit {0};
  meta = λ i. ⊥;
}

-- a reading reads as such the constants of the header, and the tokens of sorts and constants
pub record ReadsNames (number : Token → ℕ) (m : Reading) : Type 0 where
  pub fixed : (l : Letter) → is_fixed l ≡ true → m (token_of l) ≡ l ∷ []
  pub sorts : (t : Token) → is_sort_token t ≡ true → m t ≡ sort_letter (number t) ∷ []
  pub constants : (t : Token) → is_constant_token t ≡ true
      → m t ≡ constant_letter (number t) ∷ []

at_front : (m : Reading) (t : Token) (l : Letter) (ts : List Token) (rest : List Letter)
    → m t ≡ l ∷ [] → put m (t ∷ ts) ++ rest ≡ l ∷ (put m ts ++ rest)
at_front m t l ts rest e = ap (λ (ls : List Letter). (ls ++ put m ts) ++ rest) e

headed : (number : Token → ℕ) (m : Reading) → ReadsNames number m → (k : Token) (l : Letter)
    (arguments : List Token) (rest : List Letter) → m k ≡ l ∷ []
    → put m (bracketed k arguments) ++ rest ≡ opening ∷ (l ∷ (put m arguments ++ rest))
headed number m reads k l arguments rest e =
    at_front m (codes "(") opening (k ∷ arguments) rest (reads.fixed opening refl)
    ∙ in_front opening (at_front m k l arguments rest e)

behind : (m : Reading) (xs ys : List Token) (rest : List Letter)
    → put m (xs ++ ys) ++ rest ≡ put m xs ++ (put m ys ++ rest)
behind m xs ys rest =
    ap (λ (ls : List Letter). ls ++ rest) (put-append m xs ys)
    ∙ append_assoc (put m xs) (put m ys) rest

reads_nullary : (number : Token → ℕ) (m : Reading) → ReadsNames number m → (c : Nullary)
    → m (codes "\\" ++ nullary_name c) ≡ nullary_letter c ∷ []
reads_nullary number m reads Bot = reads.fixed (nullary_letter Bot) refl
reads_nullary number m reads Top = reads.fixed (nullary_letter Top) refl

reads_unary : (number : Token → ℕ) (m : Reading) → ReadsNames number m → (c : Unary)
    → m (codes "\\" ++ unary_name c) ≡ unary_letter c ∷ []
reads_unary number m reads Not = reads.fixed (unary_letter Not) refl
reads_unary number m reads Next = reads.fixed (unary_letter Next) refl
reads_unary number m reads Ev = reads.fixed (unary_letter Ev) refl

reads_binary : (number : Token → ℕ) (m : Reading) → ReadsNames number m → (c : Binary)
    → m (codes "\\" ++ binary_name c) ≡ binary_letter c ∷ []
reads_binary number m reads Imp = reads.fixed (binary_letter Imp) refl
reads_binary number m reads And = reads.fixed (binary_letter And) refl
reads_binary number m reads Or = reads.fixed (binary_letter Or) refl
reads_binary number m reads Equal = reads.fixed (binary_letter Equal) refl
reads_binary number m reads Member = reads.fixed (binary_letter Member) refl
reads_binary number m reads App = reads.fixed (binary_letter App) refl

reads_sorted : (number : Token → ℕ) (m : Reading) → ReadsNames number m → (c : Sorted)
    → m (codes "\\" ++ sorted_name c) ≡ sorted_letter c ∷ []
reads_sorted number m reads Fun = reads.fixed (sorted_letter Fun) refl
reads_sorted number m reads AtSort = reads.fixed (sorted_letter AtSort) refl

reads_quantifier : (number : Token → ℕ) (m : Reading) → ReadsNames number m → (c : Quantifier)
    → m (codes "\\" ++ quantifier_name c) ≡ quantifier_letter c ∷ []
reads_quantifier number m reads Ex = reads.fixed (quantifier_letter Ex) refl
reads_quantifier number m reads All = reads.fixed (quantifier_letter All) refl

left_false : (a b : Bool) → a ≡ false → (a && b) ≡ false
left_false a b h = rw h refl

right_false : (a b : Bool) → b ≡ false → (a && b) ≡ false
right_false true b h = h
right_false false b h = refl

itself : (x : ℕ) → std.not (x == x) ≡ false
itself x = let e : (x == x) ≡ true = grind (arith, nat_tests) in rw e refl

-- each variable of the pattern is read as this object variable
abbrev pub ReadsObjects : Reading → (ℕ → ℕ) → Pattern → Type 0
ReadsObjects m to p =
    (x : ℕ) → absent x p ≡ false → m (object_token x) ≡ object_letter (to x) ∷ []

pub spells : (number : Token → ℕ) (names : List Token) (m : Reading) (to : ℕ → ℕ)
    → ReadsNames number m → (p : Pattern) → ReadsObjects m to p
    → EachLeaf (named_leaves names) p → (rest : List Letter)
    → put m (pattern_tokens names p) ++ rest ≡ spell (renamed to (numbered number names p)) rest
spells number names m to reads (nullary c) objects leaves rest =
    at_front m (codes "\\" ++ nullary_name c) (nullary_letter c) [] rest
    (reads_nullary number m reads c)
spells number names m to reads (unary c p) objects leaves rest =
    let text : List Token = pattern_tokens names p in
    headed number m reads (codes "\\" ++ unary_name c) (unary_letter c) (text ++ bracket) rest
    (reads_unary number m reads c)
    ∙ in_front opening (in_front (unary_letter c)
    (behind m text bracket rest
    ∙ ap (λ (ls : List Letter). put m text ++ ls)
    (at_front m (codes ")") closing [] rest (reads.fixed closing refl))
    ∙ spells number names m to reads p objects leaves (closing ∷ rest)))
spells number names m to reads (binary c p q) objects leaves rest =
    let text : List Token = pattern_tokens names p in
    let other : List Token = pattern_tokens names q in
    headed number m reads (codes "\\" ++ binary_name c) (binary_letter c) (text ++ (other ++ bracket)) rest
    (reads_binary number m reads c)
    ∙ in_front opening (in_front (binary_letter c)
    (behind m text (other ++ bracket) rest
    ∙ ap (λ (ls : List Letter). put m text ++ ls)
    (behind m other bracket rest
    ∙ ap (λ (ls : List Letter). put m other ++ ls)
    (at_front m (codes ")") closing [] rest (reads.fixed closing refl))
    ∙ spells number names m to reads q
    (λ x h. objects x (right_false (absent x p) (absent x q) h)) leaves.1 (closing ∷ rest))
    ∙ spells number names m to reads p
    (λ x h. objects x (left_false (absent x p) (absent x q) h)) leaves.0
    (spell (renamed to (numbered number names q)) (closing ∷ rest))))
spells number names m to reads (sorted c p s) objects leaves rest =
    let text : List Token = pattern_tokens names p in
    let sort : Token = name_of names s in
    headed number m reads (codes "\\" ++ sorted_name c) (sorted_letter c) (text ++ (sort ∷ bracket)) rest
    (reads_sorted number m reads c)
    ∙ in_front opening (in_front (sorted_letter c)
    (behind m text (sort ∷ bracket) rest
    ∙ ap (λ (ls : List Letter). put m text ++ ls)
    (at_front m sort (sort_letter (number sort)) bracket rest (reads.sorts sort leaves.1)
    ∙ in_front (sort_letter (number sort))
    (at_front m (codes ")") closing [] rest (reads.fixed closing refl)))
    ∙ spells number names m to reads p objects leaves.0
    (sort_letter (number sort) ∷ (closing ∷ rest))))
spells number names m to reads (quantified c x s p) objects leaves rest =
    let text : List Token = pattern_tokens names p in
    let sort : Token = name_of names s in
    headed number m reads (codes "\\" ++ quantifier_name c) (quantifier_letter c)
    (object_token x ∷ (sort ∷ (text ++ bracket))) rest (reads_quantifier number m reads c)
    ∙ in_front opening (in_front (quantifier_letter c)
    (at_front m (object_token x) (object_letter (to x)) (sort ∷ (text ++ bracket)) rest
    (objects x (left_false (std.not (x == x)) (absent x p) (itself x)))
    ∙ in_front (object_letter (to x))
    (at_front m sort (sort_letter (number sort)) (text ++ bracket) rest
    (reads.sorts sort leaves.1.1)
    ∙ in_front (sort_letter (number sort))
    (behind m text bracket rest
    ∙ ap (λ (ls : List Letter). put m text ++ ls)
    (at_front m (codes ")") closing [] rest (reads.fixed closing refl))
    ∙ spells number names m to reads p
    (λ y h. objects y (right_false (std.not (y == x)) (absent y p) h)) leaves.0
    (closing ∷ rest)))))
spells number names m to reads (var x) objects leaves rest =
    at_front m (object_token x) (object_letter (to x)) [] rest (objects x (itself x))
spells number names m to reads (meta i) objects leaves rest = absurd leaves
spells number names m to reads (constant c) objects leaves rest =
    at_front m (name_of names c) (constant_letter (number (name_of names c))) [] rest
    (reads.constants (name_of names c) leaves)
