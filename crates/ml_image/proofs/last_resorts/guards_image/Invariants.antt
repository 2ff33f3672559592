use Rattle.std.proofs.Common.{◌≡◌, Some, map, take, drop}
use Rattle.rule_core.specs.ProgramView.{guard_of, function_equation}
use Rattle.ml_image.specs.Sentences.{IsImageOf}
use Rattle.ml_image.specs.LastResorts.{guards_sentence}
use Rattle.ml_image.specs.HasImages.{after_guards}
use Rattle.ml_image.specs.Gained.{HasGained}
use Rattle.ml_image.proofs.last_resorts.guards_image.Given as goal

abbrev pub invariant-loop-i : goal.invariant-loop-i
invariant-loop-i l = record {
  numbers : l.next ≡ after_guards l.first (map guard_of (take l.i l.guards));
  images : IsImageOf l.sig l.names (λ s.
      guards_sentence l.sig (map function_equation l.equations) l.next
      (map guard_of (drop l.i l.guards)) ≡ Some s) l.made;
  gained : HasGained l.sig l.initial.names l.names;
}
