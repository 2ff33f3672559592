-- Patterns of matching logic with one-step and many-step reachability (Rosu 2017; Chen and Rosu
-- 2019). Variables, sorts and constants are numbers here, without an upper bound.
use Rattle.std.specs.Prelude.{ℕ}

-- the connectives by shape: what they are applied to, and what they bind
pub data Nullary : Type 0 where
  Bot Top : Nullary

pub data Unary : Type 0 where
  Not Next Ev : Unary

pub data Binary : Type 0 where
  Imp And Or Equal Member App : Binary

pub data Sorted : Type 0 where
  Fun AtSort : Sorted

pub data Quantifier : Type 0 where
  Ex All : Quantifier

-- A pattern is a connective with what it is applied to, a variable, or a constant. A quantifier
-- binds a variable of a sort: `quantified All x s p`. A `meta` is a pattern variable of a lemma. It
-- stands only for patterns without variables.
pub data Pattern : Type 0 where
  nullary : Nullary → Pattern
  unary : Unary → Pattern → Pattern
  binary : Binary → Pattern → Pattern → Pattern
  sorted : Sorted → Pattern → ℕ → Pattern
  quantified : Quantifier → ℕ → ℕ → Pattern → Pattern
  var : ℕ → Pattern
  meta : ℕ → Pattern
  constant : ℕ → Pattern

-- nothing, and everything
pattern abbrev pub bot : Pattern
bot = nullary Bot

pattern abbrev pub top : Pattern
top = nullary Top

pattern abbrev pub not : Pattern → Pattern
not p = unary Not p

-- everything that can make one step to p
pattern abbrev pub next : Pattern → Pattern
next p = unary Next p

-- everything that can reach p in zero or more steps
pattern abbrev pub ev : Pattern → Pattern
ev p = unary Ev p

pattern abbrev pub imp : Pattern → Pattern → Pattern
imp p q = binary Imp p q

pattern abbrev pub and : Pattern → Pattern → Pattern
and p q = binary And p q

pattern abbrev pub or : Pattern → Pattern → Pattern
or p q = binary Or p q

-- everything if p and q are the same set, else nothing
pattern abbrev pub equal : Pattern → Pattern → Pattern
equal p q = binary Equal p q

-- everything if the element p is in q, else nothing
pattern abbrev pub member : Pattern → Pattern → Pattern
member p q = binary Member p q

-- p applied to q
pattern abbrev pub app : Pattern → Pattern → Pattern
app p q = binary App p q

-- everything if p is one element of the sort s, else nothing
pattern abbrev pub fun : Pattern → ℕ → Pattern
fun p s = sorted Fun p s

-- p applied to a sort argument
pattern abbrev pub at_sort : Pattern → ℕ → Pattern
at_sort p s = sorted AtSort p s

pattern abbrev pub ex : ℕ → ℕ → Pattern → Pattern
ex x s p = quantified Ex x s p

pattern abbrev pub all : ℕ → ℕ → Pattern → Pattern
all x s p = quantified All x s p
