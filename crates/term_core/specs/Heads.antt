-- What a look at a term shows: its head and the number of its children.
use Rattle.std.specs.Prelude.{◌≡◌, length}
use Rattle.term_core.specs.Terms.{Tree, leaf, node, inj}
use Rattle.term_core.specs.Forests.{forest, children}
use Rattle.term_core.specs.Values.{value_of}
use Rattle.term_core.specs.declared.terms.View.{View}
use Rattle.term_core.specs.declared.terms.View.TheVariants as head

abbrev pub Shows : Tree → View → Type 0
Shows t (head.Value s v) = t ≡ leaf s.0 (value_of v.now)
Shows t (head.Ctor f n) = (t ≡ node f.0 (forest (children t))) × (n ≡ length (children t))
Shows t (head.Inj a b) = (below : Tree) × (t ≡ inj a.0 b.0 below)
