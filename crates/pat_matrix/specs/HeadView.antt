-- The plain heads that represent the `Head`s of the code.
use Rattle.std.specs.Prelude.{Bool, List}
use Rattle.std.specs.List.{list_any}
use Rattle.std.specs.Rc.{rc_str_bytes}
use Rattle.term_core.specs.Terms.{integer, truth, text}
use Rattle.pat_matrix.specs.Heads.{PlainHead, of_value, of_constructor, of_injection, head_eq}
use Rattle.pat_matrix.specs.declared.heads.Head.{Head}
use Rattle.pat_matrix.specs.declared.heads.Head.TheVariants as form

abbrev pub head_of : Head → PlainHead
head_of (form.Int s n) = of_value s.0 (integer n)
head_of (form.Bool s b) = of_value s.0 (truth b)
head_of (form.Text s words) = of_value s.0 (text (rc_str_bytes words))
head_of (form.Ctor f n) = of_constructor f.0 n
head_of (form.Inj a b) = of_injection a.0 b.0

-- the head is one of these
abbrev pub is_listed : List Head → PlainHead → Bool
is_listed heads h = list_any (λ (k : Head). head_eq (head_of k) h) heads
