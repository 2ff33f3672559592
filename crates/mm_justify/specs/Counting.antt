-- How many statements and how many facts a database has.
use Rattle.std.specs.Prelude.{◌≡◌, ℕ, ◌-◌, ◌^◌, zero, suc, min, Bool, true, false, not, ◌&&◌, ◌||◌}
use Rattle.std.specs.Prelude.{if◌then◌else◌, List, [], ◌∷◌, length, take, drop, count_by, codes}
use Rattle.std.specs.Prelude.{bytes_eq}
use Rattle.mm_text.specs.Bytes.{Token}
use Rattle.mm_database.specs.Frames.{Hypothesis, floating, essential}
use Rattle.mm_database.specs.Assertions.{Assertion, assertions_of}

abbrev pub is_connective_of_fact : Token → Bool
is_connective_of_fact token = bytes_eq token (codes "\\fun") || bytes_eq token (codes "\\eq")

-- the statement begins with `|- ( \fun` or `|- ( \eq`
abbrev pub begins_as_fact : List Token → Bool
begins_as_fact [] = false
begins_as_fact (a ∷ []) = false
begins_as_fact (a ∷ (b ∷ [])) = false
begins_as_fact (a ∷ (b ∷ (c ∷ tokens))) =
    bytes_eq a (codes "|-") && (bytes_eq b (codes "(") && is_connective_of_fact c)

abbrev pub has_none : List Hypothesis → Bool
has_none [] = true
has_none (h ∷ hypotheses) = false

-- what comes after the quantifiers `( \all X S` at the front of a text
abbrev mutual
  pub below_all : List Token → List Token
  below_all [] = []
  below_all (a ∷ []) = a ∷ []
  below_all (a ∷ (b ∷ tokens)) =
      if (bytes_eq a (codes "(") && bytes_eq b (codes "\\all")) then below_one tokens
      else (a ∷ (b ∷ tokens))

  pub below_one : List Token → List Token
  below_one (x ∷ (s ∷ tokens)) = below_all tokens
  below_one tokens = tokens

-- what comes after the brackets of which this many are open, and after the pattern at the front of
-- a text
abbrev pub after_brackets : ℕ → List Token → List Token
after_brackets zero tokens = tokens
after_brackets (suc n) [] = []
after_brackets (suc n) (t ∷ tokens) =
    if bytes_eq t (codes "(") then after_brackets (suc (suc n)) tokens
    else (if bytes_eq t (codes ")") then after_brackets n tokens else after_brackets (suc n) tokens)

abbrev pub after_pattern : List Token → List Token
after_pattern [] = []
after_pattern (t ∷ tokens) = if bytes_eq t (codes "(") then after_brackets 1 tokens else tokens

-- the text begins with these tokens
abbrev pub begins_with : List Token → List Token → Bool
begins_with [] tokens = true
begins_with (t ∷ ts) [] = false
begins_with (t ∷ ts) (u ∷ us) = bytes_eq u t && begins_with ts us

-- `( \not ( \eq ..`
abbrev pub says_unequal : List Token → Bool
says_unequal = begins_with (codes "(" ∷ (codes "\\not" ∷ (codes "(" ∷ (codes "\\eq" ∷ []))))

-- `x:i`
abbrev pub is_object : Token → Bool
is_object token = bytes_eq (take 2 token) (codes "x:")

-- `X ..` and `X Y ..`, for object variables X and Y
abbrev pub begins_with_object : List Token → Bool
begins_with_object [] = false
begins_with_object (x ∷ tokens) = is_object x

abbrev pub begins_with_objects : List Token → Bool
begins_with_objects [] = false
begins_with_objects (x ∷ tokens) = is_object x && begins_with_object tokens

-- `) ( \eq X Y ..`
abbrev pub equates_objects : List Token → Bool
equates_objects tokens =
    begins_with (codes ")" ∷ (codes "(" ∷ (codes "\\eq" ∷ []))) tokens
    && begins_with_objects (drop 3 tokens)

-- `( \imp ( \eq P Q ) ( \eq X Y ..`
abbrev pub says_injective : List Token → Bool
says_injective tokens =
    begins_with (codes "(" ∷ (codes "\\imp" ∷ (codes "(" ∷ (codes "\\eq" ∷ [])))) tokens
    && equates_objects (after_pattern (after_pattern (drop 4 tokens)))

-- for all variables, two patterns are not equal, or an injection is injective
abbrev pub says_apart : List Token → Bool
says_apart [] = false
says_apart (turnstile ∷ tokens) =
    bytes_eq turnstile (codes "|-")
    && (says_unequal (below_all tokens) || says_injective (below_all tokens))

-- only the types of variables
abbrev pub assumes_nothing : List Hypothesis → Bool
assumes_nothing [] = true
assumes_nothing (floating label typecode variable ∷ hypotheses) = assumes_nothing hypotheses
assumes_nothing (essential label statement ∷ hypotheses) = false

-- A `$a` is counted as a fact if it has no hypotheses and says that a pattern is one element of a
-- sort, or that two patterns are equal. It is counted too if it has no `$e`s and says for all
-- variables that two patterns are not equal, or that an injection is injective. Of the axioms of a
-- program, exactly the true facts on its built-ins are such statements (`FactsAreTrue`,
-- `TrueFactsAreFacts`).
abbrev pub is_fact : Assertion → Bool
is_fact a =
    not a.is_proved
    && ((has_none a.frame.hypotheses && begins_as_fact a.frame.statement)
    || (assumes_nothing a.frame.hypotheses && says_apart a.frame.statement))

abbrev pub fact_count : List ℕ → ℕ
fact_count bytes = count_by is_fact (assertions_of bytes)

-- `$a` and `$p` statements
abbrev pub statement_count : List ℕ → ℕ
statement_count bytes = length (assertions_of bytes)

-- a count that has reached 2^64 - 1 stays there
abbrev pub capped : ℕ → ℕ
capped n = min n (2 ^ 64 - 1)

-- these are the counts of facts and statements of the database
pub record HasCounts (facts statements : ℕ) (bytes : List ℕ) : Type 0 where
  pub facts_are : facts ≡ capped (fact_count bytes)
  pub statements_are : statements ≡ capped (statement_count bytes)
