-- The labels that a renderer makes: a letter, a dot and a number. A label that belongs to a
-- statement has the number of that statement and a number of its own. No math symbol of a proof
-- file and no label of the header has such a form.
use Rattle.std.specs.Prelude.{ℕ, ◌∷◌, ◌++◌, codes, decimal}
use Rattle.mm_text.specs.Bytes.{Token}
use Rattle.mm_proof.specs.Tokens.{Naming}

-- the declaration of a name
abbrev pub name_label : ℕ → Token
name_label i = codes "n." ++ decimal i

-- an axiom or a lemma
abbrev pub statement_label : ℕ → Token
statement_label k = codes "t." ++ decimal k

-- a number, a dot and a number
abbrev pub two_numbers : ℕ → ℕ → Token
two_numbers k i = decimal k ++ (46 ∷ decimal i)

-- the `$f` of an object variable, or of a pattern variable, and a `$e`, in the block of a statement
abbrev pub object_label : ℕ → ℕ → Token
object_label k i = codes "x." ++ two_numbers k i

abbrev pub meta_label : ℕ → ℕ → Token
meta_label k i = codes "m." ++ two_numbers k i

abbrev pub premise_label : ℕ → ℕ → Token
premise_label k j = codes "e." ++ two_numbers k j

-- the labels of what a pattern is made of, in the block of a statement
abbrev pub own_labels : ℕ → Naming
own_labels k = record {
  sort = name_label;
  constant = name_label;
  object = object_label k;
  meta = meta_label k;
}
