-- What a variable stands for: a term, or the injection of one.
use Rattle.std.specs.Prelude.{Option, Some, None}
use Rattle.term_core.specs.Terms.{Tree, inj}
use Rattle.term_core.specs.declared.ids.SortId.{SortId}
use Rattle.match_tree.specs.declared.standing.Standing.{Standing}

abbrev pub lifted_tree : Option (SortId × SortId) → Tree → Tree
lifted_tree None t = t
lifted_tree (Some e) t = inj e.0.0 e.1.0 t

abbrev pub standing_tree : Standing → Tree
standing_tree s = lifted_tree s.lifted s.term.now
