use Rattle.std.proofs.Common.{◌≡◌, ◌+◌, ℕ, List, [], ◌∷◌, Option, take, length, refl, ap, sym, ◌∙◌}
use Rattle.std.proofs.Common.{subst, arith}
use Rattle.ml_kernel.specs.Theorems.{Theorem}
use Rattle.ml_image.specs.PartNames.{part_names}
use Rattle.ml_image.specs.declared.naming.PartName.{PartName}
use Rattle.ml_image.proofs.NamedLaws.{none_there, some_there}
use Rattle.prove_term.specs.Applications.{SaysEqualTo}
use Rattle.prove_term.specs.Contexts.{Context, HasGrown}
use Rattle.prove_term.specs.Naming.{IsConjoinedTo}
use Rattle.prove_term.proofs.ContextLaws.{grown_twice}
use Rattle.prove_term.proofs.NamingSteps.{conjoined_next, conjoined_same}
use Rattle.prove_term.proofs.naming.conjoined.Goals.{then-is_empty+in_ok-with_name, else-is_empty}
use Rattle.prove_term.proofs.naming.conjoined.Goals as goal

pub loop-name-preserved : goal.loop-name-preserved
loop-name-preserved c =
    elim c.if-is_empty.branch [
      | then-is_empty+in_ok-with_name w ↦ record {
        done =
            subst (λ (x : Context). IsConjoinedTo c.args.cx.now x
            (part_names (take (c.loop-name.name-index + 1) c.args.names.now)) c.args.image.now
            c.args.part c.if-is_empty.made) (sym w.cx-is)
            (subst (λ (o : Option Theorem). IsConjoinedTo c.args.cx.now w.with_name.new.cx
            (part_names (take (c.loop-name.name-index + 1) c.args.names.now)) c.args.image.now
            c.args.part o) (sym w.made-is)
            (conjoined_next c.args.cx.now c.loop-name.cx w.with_name.new.cx c.args.names.now
            c.loop-name.name-index _ c.args.image.now c.args.part c.loop-name.made
            w.in_ok-with_name.field-0 c.loop-name.invariant.grown c.loop-name-test.true
            c.loop-name.invariant.done
            (none_there _ c.is_empty.result c.is_empty.ensures w.if-is_empty.true)
            w.in_ok-with_name.ensures.says));
        says =
            subst (SaysEqualTo c.args.image.now) (sym w.made-is) w.in_ok-with_name.ensures.equal;
        grown =
            subst (HasGrown c.args.cx.now) (sym w.cx-is)
            (grown_twice c.args.cx.now c.loop-name.cx w.with_name.new.cx
            c.loop-name.invariant.grown w.in_ok-with_name.ensures.grown);
      }
      | else-is_empty w ↦ record {
        done =
            subst (λ (x : Context). IsConjoinedTo c.args.cx.now x
            (part_names (take (c.loop-name.name-index + 1) c.args.names.now)) c.args.image.now
            c.args.part c.if-is_empty.made) (sym w.cx-is)
            (subst (λ (o : Option Theorem). IsConjoinedTo c.args.cx.now c.loop-name.cx
            (part_names (take (c.loop-name.name-index + 1) c.args.names.now)) c.args.image.now
            c.args.part o) (sym w.made-is)
            (conjoined_same c.args.cx.now c.loop-name.cx c.args.names.now c.loop-name.name-index _
            c.args.image.now c.args.part c.loop-name.made c.loop-name-test.true
            c.loop-name.invariant.done
            (some_there _ c.is_empty.result c.is_empty.ensures w.if-is_empty.false)));
        says =
            subst (SaysEqualTo c.args.image.now) (sym w.made-is) c.loop-name.invariant.says;
        grown =
            subst (HasGrown c.args.cx.now) (sym w.cx-is) c.loop-name.invariant.grown;
      }
    ]

pub returns-clause-says : goal.returns-clause-says
returns-clause-says c =
    let whole : take c.loop-name.name-index c.args.names.now ≡ c.args.names.now =
    all_taken c.args.names.now c.loop-name.name-index
    (omega (arith, c.loop-name-test.false, c.loop-name.auto.name-index-end)) in
    subst (λ (names : List PartName). IsConjoinedTo c.args.cx.now c.loop-name.cx
    (part_names names) c.args.image.now c.args.part c.loop-name.made) whole
    c.loop-name.invariant.done
  where
    all_taken : (xs : List PartName) (n : ℕ) → n ≡ length xs → take n xs ≡ xs
    all_taken xs n is = ap (λ (k : ℕ). take k xs) is ∙ go xs
      where
        go : (ys : List PartName) → take (length ys) ys ≡ ys
        go [] = refl
        go (y ∷ ys) = ap (λ (zs : List PartName). y ∷ zs) (go ys)
