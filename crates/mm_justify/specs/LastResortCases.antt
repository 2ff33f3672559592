-- The images of what small definitions with equations of the last resort say, token by token.
use Rattle.std.specs.Prelude.{◌≡◌, ℕ, true, false, List, [], ◌∷◌, ◌++◌, Option, Some, None}
use Rattle.std.specs.Prelude.{option_map}
use Rattle.std.specs.Prelude.{option_and_then, codes, length}
use Rattle.mm_text.specs.Bytes.{Token}
use Rattle.mm_header.specs.HeaderRows.{words_of}
use Rattle.term_core.specs.Terms.{truth}
use Rattle.term_core.specs.Patterns.{variable, domain_value, application, injection, no_pattern}
use Rattle.rule_core.specs.Rules.{Equation, Guard}
use Rattle.rule_core.specs.declared.signature.Signature.{Signature}
use Rattle.ml_image.specs.Tokens.{name_at}
use Rattle.ml_image.specs.Images.{injection_symbol}
use Rattle.ml_image.specs.Sentences.{Sentence, top, sentence_image}
use Rattle.ml_image.specs.LastResorts.{guards_sentence, last_resort_sentence}
use Rattle.ml_image.specs.OwnAxioms.{behind_parameters}
use Rattle.mm_proof.specs.Tokens.{pattern_tokens}
use Rattle.mm_justify.specs.ImageCases.{one, two, named_after}

-- there is a sentence, and its image has these words
abbrev pub IsSentenceSpelt : Signature → List Token → Option Sentence → List ℕ → Type 0
IsSentenceSpelt sig names s text =
    option_map (pattern_tokens names) (option_and_then (sentence_image sig names) s)
    ≡ Some (words_of text)

-- an equation of the last resort, without a condition, that is one of these and has parameters of
-- these sorts; the first variable of its guards has the number k
abbrev pub last_resort_of : Signature → List Equation → ℕ → List ℕ → ℕ → List Guard → Equation
    → Option Sentence
last_resort_of sig equations f sorts k guards e =
    option_map (λ (g : Sentence). last_resort_sentence f (length sorts) (behind_parameters sorts e)
    g top)
    (guards_sentence sig equations k guards)

-- ---- `isInt(kseq(inj{SortInt,SortKItem}(I), dotk)) = true`, and else `isInt(K) = false`

pub record DeclaresIntegers (sig : Signature) : Type 0 where
  pub lists : name_at sig.sorts 0 ≡ Some (codes "SortK")
  pub items : name_at sig.sorts 1 ≡ Some (codes "SortKItem")
  pub integers : name_at sig.sorts 2 ≡ Some (codes "SortInt")
  pub truths : name_at sig.sorts 3 ≡ Some (codes "SortBool")
  pub injects : injection_symbol sig ≡ Some 0
  pub inj : name_at sig.symbols 0 ≡ Some (codes "inj")
  pub kseq : name_at sig.symbols 1 ≡ Some (codes "kseq")
  pub dotk : name_at sig.symbols 2 ≡ Some (codes "dotk")
  pub is_int : name_at sig.symbols 3 ≡ Some (codes "isInt")

abbrev pub integer_names : List Token
integer_names =
    codes "s:SortK" ∷ codes "s:SortKItem" ∷ codes "s:SortInt" ∷ codes "f:inj" ∷ codes "f:kseq"
    ∷ codes "f:dotk" ∷ codes "f:isInt" ∷ codes "d:SortBool:66616c7365" ∷ []

abbrev pub is_integer : Equation
is_integer = record {
  parameters = 1;
  arguments =
      one (application 1 (two (injection 2 1 (variable 0)) (application 2 no_pattern)));
  names = [];
  last_resort = None;
  condition = None;
  right = domain_value 3 (truth true);
  variables = 2 ∷ [];
  priority = 50;
  place = 0;
}

abbrev pub repeats_integer : Guard
repeats_integer = record { equation = 0; order = 0 ∷ [] }

abbrev pub is_no_integer : Equation
is_no_integer = record {
  parameters = 1;
  arguments = one (variable 0);
  names = [];
  last_resort = Some (repeats_integer ∷ []);
  condition = None;
  right = domain_value 3 (truth false);
  variables = 0 ∷ [];
  priority = 200;
  place = 1;
}

abbrev pub IntegersSpelt : Signature → Type 0
IntegersSpelt sig =
    IsSentenceSpelt sig integer_names
    (last_resort_of sig (is_integer ∷ is_no_integer ∷ []) 3 (0 ∷ []) 2 (repeats_integer ∷ [])
    is_no_integer)
    (codes "( \\all x:0 s:SortK ( \\all x:1 s:SortK ( \\imp ( \\and ( \\not ( \\or ( \\ex x:2 "
    ++ codes "s:SortInt ( \\and \\top ( \\and ( \\mem x:0 ( \\app ( \\app f:kseq ( \\app ( \\at ( "
    ++ codes "\\at f:inj s:SortInt ) s:SortKItem ) x:2 ) ) f:dotk ) ) \\top ) ) ) \\bot ) ) ( "
    ++ codes "\\and \\top ( \\and ( \\mem x:0 x:1 ) \\top ) ) ) ( \\eq ( \\app f:isInt x:0 ) "
    ++ codes "d:SortBool:66616c7365 ) ) ) )")

-- ---- two guards: `h(f(X), B) = X if B`, `h(\and(f(X), Y), B) = Y`, and else `h(X, B) = X`

pub record DeclaresGuards (sig : Signature) : Type 0 where
  pub items : name_at sig.sorts 0 ≡ Some (codes "S")
  pub truths : name_at sig.sorts 1 ≡ Some (codes "SortBool")
  pub f : name_at sig.symbols 0 ≡ Some (codes "f")
  pub h : name_at sig.symbols 1 ≡ Some (codes "h")

abbrev pub guard_names : List Token
guard_names =
    codes "s:S" ∷ codes "s:SortBool" ∷ codes "f:f" ∷ codes "f:h" ∷ codes "d:SortBool:74727565" ∷ []

abbrev pub under_condition : Equation
under_condition = record {
  parameters = 2;
  arguments = two (application 0 (one (variable 0))) (variable 1);
  names = [];
  last_resort = None;
  condition = Some (variable 1);
  right = variable 0;
  variables = 0 ∷ 1 ∷ [];
  priority = 50;
  place = 0;
}

abbrev pub with_name : Equation
with_name = record {
  parameters = 2;
  arguments = two (application 0 (one (variable 0))) (variable 2);
  names = named_after 1 (0 ∷ []) ∷ [];
  last_resort = None;
  condition = None;
  right = variable 1;
  variables = 0 ∷ 0 ∷ 1 ∷ [];
  priority = 50;
  place = 1;
}

-- the first guard quantifies B and then X, the second one B, X and Y
abbrev pub both_guards : List Guard
both_guards =
    record { equation = 0; order = 1 ∷ 0 ∷ [] }
    ∷ record { equation = 1; order = 2 ∷ 0 ∷ 1 ∷ [] } ∷ []

abbrev pub after_both : Equation
after_both = record {
  parameters = 2;
  arguments = two (variable 0) (variable 1);
  names = [];
  last_resort = Some both_guards;
  condition = None;
  right = variable 0;
  variables = 0 ∷ 1 ∷ [];
  priority = 200;
  place = 2;
}

abbrev pub GuardsSpelt : Signature → Type 0
GuardsSpelt sig =
    IsSentenceSpelt sig guard_names
    (last_resort_of sig (under_condition ∷ with_name ∷ after_both ∷ []) 1 (0 ∷ 1 ∷ []) 4
    both_guards after_both)
    (codes "( \\all x:0 s:S ( \\all x:1 s:SortBool ( \\all x:2 s:S ( \\all x:3 s:SortBool ( \\imp "
    ++ codes "( \\and ( \\not ( \\or ( \\ex x:4 s:SortBool ( \\ex x:5 s:S ( \\and ( \\eq x:4 "
    ++ codes "d:SortBool:74727565 ) ( \\and ( \\mem x:0 ( \\app f:f x:5 ) ) ( \\and ( \\mem x:1 "
    ++ codes "x:4 ) \\top ) ) ) ) ) ( \\or ( \\ex x:6 s:SortBool ( \\ex x:7 s:S ( \\ex x:8 s:S ( "
    ++ codes "\\and \\top ( \\and ( \\mem x:0 ( \\and ( \\app f:f x:7 ) x:8 ) ) ( \\and ( \\mem "
    ++ codes "x:1 x:6 ) \\top ) ) ) ) ) ) \\bot ) ) ) ( \\and \\top ( \\and ( \\mem x:0 x:2 ) ( "
    ++ codes "\\and ( \\mem x:1 x:3 ) \\top ) ) ) ) ( \\eq ( \\app ( \\app f:h x:0 ) x:1 ) x:2 ) "
    ++ codes ") ) ) ) )")

pub record TriedLastResorts : Type 0 where
  pub integers : (sig : Signature) → DeclaresIntegers sig → IntegersSpelt sig
  pub guards : (sig : Signature) → DeclaresGuards sig → GuardsSpelt sig
