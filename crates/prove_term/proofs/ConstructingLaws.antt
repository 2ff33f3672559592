-- The totality of a constructor, as its image says it.
use Rattle.std.proofs.Common.{◌≡◌, ◌<◌, ◌^◌, ℕ, List, Some, ◌++◌, ◌∷◌, [], length, slice_get, sym}
use Rattle.std.proofs.Common.{◌∙◌, ap, arith, inl}
use Rattle.std.proofs.lemmas.List.{length-map}
use Rattle.ml_pat.specs.Patterns.{Pattern}
use Rattle.ml_kernel.specs.Theorems.{Theorem}
use Rattle.rule_core.specs.ProgramView.{theory_of}
use Rattle.rule_core.specs.WellSorted.{IsSignature}
use Rattle.rule_core.specs.declared.signature.Signature.{Signature}
use Rattle.ml_image.specs.Sentences.{sentence_image, IsImageOf}
use Rattle.ml_image.specs.OwnAxioms.{sort_numbered, SaysTotal, total}
use Rattle.ml_image.specs.HasImages.{HasTotality}
use Rattle.ml_image.proofs.ImageLaws.{some_same}
use Rattle.ml_image.proofs.WellSortedLaws.{constructor_has_totality}
use Rattle.prove_term.specs.Contexts.{Context}
use Rattle.ml_image.specs.Assumed.{IsAssumed}
use Rattle.prove_term.specs.Constructing.{HasArity, SaysTotality}
use Rattle.prove_term.specs.Numbered.{Constructs, HasNumbers}
use Rattle.prove_term.specs.Constructing.{IsConstructorAt, totality}
use Rattle.prove_term.specs.Assuming.{IsTotality, TotalFrom}
use Rattle.prove_term.proofs.ImageShapes.{totality_shape, as_many_numbers}
use Rattle.prove_term.proofs.KeptInside.{last_there}

pub has_totality : (sig : Signature) (f n : ℕ) → IsSignature sig → Constructs sig f
    → HasArity sig f n → n < 2 ^ 31 → HasTotality sig f
has_totality sig f n ok (info, there, kind) takes few =
    constructor_has_totality sig f info ok there kind (omega (arith, few, takes info there))

pub totality_assumed : (cx : Context) (f : ℕ) (p : Pattern)
    → IsImageOf cx.program.sig cx.names (SaysTotal cx.program.sig f) p
    → IsImageOf cx.program.sig cx.names (IsAssumed (theory_of cx.program)) p
totality_assumed cx f p (s, says, is) = (s, inl (total f says), is)

pub says_totality : (cx : Context) (f n : ℕ) (p : Pattern) → HasArity cx.program.sig f n
    → n < 2 ^ 31 → IsImageOf cx.program.sig cx.names (SaysTotal cx.program.sig f) p
    → SaysTotality cx f p
says_totality cx f n p takes few (s, says, is) =
    let shape : (h : HasNumbers cx.program.sig cx.names f says.sorts says.sort) ×
    (p ≡ totality h.head h.numbers h.number) =
    totality_shape cx.program.sig cx.names f says.sorts says.sort p
    (ap (sentence_image cx.program.sig cx.names) (sym says.says) ∙ is) in
    let many : length shape.0.numbers ≡ length says.sorts =
    as_many_numbers cx.program.sig cx.names says.sorts shape.0.numbers shape.0.are_numbers in
    let args : length says.info.args.items ≡ length says.sorts =
    ap length says.constructs.0.takes ∙ length-map says.sorts sort_numbered in
    record {
      numbered = record {
        info = says.info;
        sorts = says.sorts;
        sort = says.sort;
        constructs = says.constructs;
        numbers = shape.0;
      };
      few = omega (arith, few, many, args, takes says.info says.constructs.0.there);
      says = shape.1;
    }

-- the number of arguments is that of the constructor
pub arguments_counted : (cx : Context) (f n : ℕ) (p : Pattern) (says : SaysTotality cx f p)
    → HasArity cx.program.sig f n → n ≡ length says.numbered.numbers.numbers
arguments_counted cx f n p says takes =
    let many : length says.numbered.numbers.numbers ≡ length says.numbered.sorts =
    as_many_numbers cx.program.sig cx.names says.numbered.sorts says.numbered.numbers.numbers
    says.numbered.numbers.are_numbers in
    let args : length says.numbered.info.args.items ≡ length says.numbered.sorts =
    ap length says.numbered.constructs.0.takes ∙ length-map says.numbered.sorts sort_numbered in
    omega (arith, takes says.numbered.info says.numbered.constructs.0.there, args, many)

pub arguments_few : (cx : Context) (f n : ℕ) (p : Pattern) → SaysTotality cx f p
    → HasArity cx.program.sig f n → n < 2 ^ 32
arguments_few cx f n p says takes = omega (arith, arguments_counted cx f n p says takes, says.few)

pub is_totality : (cx : Context) (f n : ℕ) (t : Theorem) (says : SaysTotality cx f t.conclusion)
    → t.hypotheses ≡ [] → HasArity cx.program.sig f n
    → IsTotality n says.numbered.numbers.head says.numbered.numbers.numbers
    says.numbered.numbers.number t
is_totality cx f n t says none takes = record {
  as_many = arguments_counted cx f n t.conclusion says takes;
  says = says.says;
  no_hypotheses = none;
}

-- a lemma that was made from it, and added as the last one
pub constructor_learned : (cx : Context) (f n place : ℕ) (t lemma : Theorem)
    → SaysTotality cx f t.conclusion → t.hypotheses ≡ [] → HasArity cx.program.sig f n
    → TotalFrom n t lemma → place ≡ length cx.lemmas
    → IsConstructorAt (record cx { lemmas = cx.lemmas ++ lemma ∷ [] }) f place
constructor_learned cx f n place t lemma says none takes from last = record {
  numbered = says.numbered;
  lemma = lemma;
  there = last_there cx.lemmas lemma place last;
  says =
      from says.numbered.numbers.head says.numbered.numbers.numbers says.numbered.numbers.number
      (is_totality cx f n t says none takes);
}

-- there is only one pattern at a place
pub same_there : (ps : List Pattern) (n : ℕ) (p q : Pattern) → slice_get ps n ≡ Some p
    → slice_get ps n ≡ Some q → p ≡ q
same_there ps n p q h k = some_same p q (sym h ∙ k)
