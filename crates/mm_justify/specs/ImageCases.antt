-- The images of what small definitions say, token by token.
use Rattle.std.specs.Prelude.{◌≡◌, ℕ, pos, true, false, List, [], ◌∷◌, Some, None, option_map, codes}
use Rattle.std.specs.Prelude.{◌++◌}
use Rattle.mm_text.specs.Bytes.{Token}
use Rattle.mm_header.specs.HeaderRows.{words_of}
use Rattle.term_core.specs.Terms.{integer}
use Rattle.term_core.specs.Patterns.{Pattern, Patterns, variable, domain_value, application}
use Rattle.term_core.specs.Patterns.{injection, call, no_pattern, more_patterns}
use Rattle.rule_core.specs.Rules.{RewriteRule, Equation}
use Rattle.rule_core.specs.NamedParts.{Name}
use Rattle.rule_core.specs.declared.signature.Signature.{Signature}
use Rattle.ml_image.specs.Tokens.{name_at}
use Rattle.ml_image.specs.Images.{injection_symbol}
use Rattle.ml_image.specs.Sentences.{Sentence, term, top, not, and, implies, equals, functional}
use Rattle.ml_image.specs.Sentences.{exists, for_all, symbol, variables, apply_all, conjunctions}
use Rattle.ml_image.specs.Sentences.{sentence_image}
use Rattle.ml_image.specs.OwnAxioms.{is_true, rule_sentence, direct_sentence, behind_parameters}
use Rattle.ml_image.specs.OwnAxioms.{kompile_sentence, of_variables}
use Rattle.mm_proof.specs.Tokens.{pattern_tokens}

-- the image of the sentence has these words
abbrev pub IsSpelt : Signature → List Token → Sentence → List ℕ → Type 0
IsSpelt sig names s text =
    option_map (pattern_tokens names) (sentence_image sig names s) ≡ Some (words_of text)

abbrev pub one : Pattern → Patterns
one p = more_patterns p no_pattern

abbrev pub two : Pattern → Pattern → Patterns
two p q = more_patterns p (more_patterns q no_pattern)

-- ---- a rule that moves an injected variable:
-- `k(inj{SortAExp,SortKItem}(X)) => done(inj{SortAExp,SortStmt}(X))`

pub record DeclaresMoves (sig : Signature) : Type 0 where
  pub lower : name_at sig.sorts 1 ≡ Some (codes "SortAExp")
  pub left : name_at sig.sorts 2 ≡ Some (codes "SortStmt")
  pub right : name_at sig.sorts 3 ≡ Some (codes "SortKItem")
  pub injects : injection_symbol sig ≡ Some 0
  pub inj : name_at sig.symbols 0 ≡ Some (codes "inj")
  pub k : name_at sig.symbols 1 ≡ Some (codes "k")
  pub done : name_at sig.symbols 2 ≡ Some (codes "done")

abbrev pub moving_names : List Token
moving_names =
    codes "f:k" ∷ codes "f:inj" ∷ codes "s:SortAExp" ∷ codes "s:SortKItem" ∷ codes "f:done"
    ∷ codes "s:SortStmt" ∷ []

abbrev pub moves : RewriteRule
moves = record {
  left = application 1 (one (injection 1 3 (variable 0)));
  names = [];
  condition = None;
  right = application 2 (one (injection 1 2 (variable 0)));
  variables = 1 ∷ [];
  priority = 50;
  place = 0;
}

pub record MovingSpelt (sig : Signature) : Type 0 where
  pub rule : IsSpelt sig moving_names (rule_sentence moves top)
      (codes "( \\all x:0 s:SortAExp ( \\imp ( \\and ( \\app f:k ( \\app ( \\at ( \\at f:inj "
      ++ codes "s:SortAExp ) s:SortKItem ) x:0 ) ) \\top ) ( \\next ( \\app f:done ( \\app ( "
      ++ codes "\\at ( \\at f:inj s:SortAExp ) s:SortStmt ) x:0 ) ) ) ) )")
  pub subsort : IsSpelt sig moving_names
      (for_all 0 (1 ∷ [])
      (exists 1 3 (equals (term (variable 1)) (term (injection 1 3 (variable 0))))))
      (codes "( \\all x:0 s:SortAExp ( \\ex x:1 s:SortKItem ( \\eq x:1 ( \\app ( \\at ( \\at "
      ++ codes "f:inj s:SortAExp ) s:SortKItem ) x:0 ) ) ) )")

-- ---- whole numbers: `t(N) => u(N) if gt(N,10)`, and facts

pub record DeclaresNumbers (sig : Signature) : Type 0 where
  pub integers : name_at sig.sorts 0 ≡ Some (codes "SortInt")
  pub truths : name_at sig.sorts 1 ≡ Some (codes "SortBool")
  pub gt : name_at sig.symbols 0 ≡ Some (codes "gt")
  pub add : name_at sig.symbols 1 ≡ Some (codes "add")
  pub t : name_at sig.symbols 2 ≡ Some (codes "t")
  pub u : name_at sig.symbols 3 ≡ Some (codes "u")

abbrev pub number_names : List Token
number_names =
    codes "s:SortInt" ∷ codes "f:t" ∷ codes "f:gt" ∷ codes "d:SortInt:3130"
    ∷ codes "d:SortBool:74727565" ∷ codes "f:u"
    ∷ codes "f:add" ∷
    codes "d:SortInt:32" ∷ codes "d:SortInt:33" ∷ codes "d:SortInt:35" ∷ []

abbrev pub ten : Pattern
ten = domain_value 0 (integer (pos 10))

abbrev pub above_ten : RewriteRule
above_ten = record {
  left = application 2 (one (variable 0));
  names = [];
  condition = Some (call 0 [] (two (variable 0) ten));
  right = application 3 (one (variable 0));
  variables = 0 ∷ [];
  priority = 50;
  place = 0;
}

abbrev pub number : ℕ → Pattern
number n = domain_value 0 (integer (pos n))

pub record NumbersSpelt (sig : Signature) : Type 0 where
  pub rule : IsSpelt sig number_names
      (rule_sentence above_ten (is_true (call 0 [] (two (variable 0) ten)) 1))
      (codes "( \\all x:0 s:SortInt ( \\imp ( \\and ( \\app f:t x:0 ) ( \\eq ( \\app ( \\app "
      ++ codes "f:gt x:0 ) d:SortInt:3130 ) d:SortBool:74727565 ) ) ( \\next ( \\app f:u x:0 ) "
      ++ codes ") ) )")
  pub value : IsSpelt sig number_names (functional (term (number 5)) 0)
      (codes "( \\fun d:SortInt:35 s:SortInt )")
  pub sum : IsSpelt sig number_names
      (equals (term (call 1 [] (two (number 2) (number 3)))) (term (number 5)))
      (codes "( \\eq ( \\app ( \\app f:add d:SortInt:32 ) d:SortInt:33 ) d:SortInt:35 )")

-- ---- lists: constructors, and the function that appends, as kompile writes its equations

pub record DeclaresLists (sig : Signature) : Type 0 where
  pub lists : name_at sig.sorts 0 ≡ Some (codes "SortK")
  pub items : name_at sig.sorts 1 ≡ Some (codes "SortKItem")
  pub kseq : name_at sig.symbols 0 ≡ Some (codes "kseq")
  pub dotk : name_at sig.symbols 1 ≡ Some (codes "dotk")
  pub append : name_at sig.symbols 2 ≡ Some (codes "append")

abbrev pub list_names : List Token
list_names =
    codes "s:SortK" ∷ codes "s:SortKItem" ∷ codes "f:kseq" ∷ codes "f:dotk" ∷ codes "f:append" ∷ []

-- `append(dotk, TAIL) = TAIL` and `append(kseq(K, KS), TAIL) = kseq(K, append(KS, TAIL))`
abbrev pub append_nothing : Equation
append_nothing = record {
  parameters = 2;
  arguments = two (application 1 no_pattern) (variable 0);
  names = [];
  last_resort = None;
  condition = None;
  right = variable 0;
  variables = 0 ∷ [];
  priority = 50;
  place = 0;
}

abbrev pub append_item : Equation
append_item = record {
  parameters = 2;
  arguments = two (application 0 (two (variable 0) (variable 1))) (variable 2);
  names = [];
  last_resort = None;
  condition = None;
  right = application 0 (two (variable 0) (call 2 [] (two (variable 1) (variable 2))));
  variables = 1 ∷ 0 ∷ 0 ∷ [];
  priority = 50;
  place = 1;
}

pub record ListsSpelt (sig : Signature) : Type 0 where
  pub nothing : IsSpelt sig list_names
      (kompile_sentence 2 2 (behind_parameters (0 ∷ 0 ∷ []) append_nothing) top)
      (codes "( \\all x:0 s:SortK ( \\all x:1 s:SortK ( \\all x:2 s:SortK ( \\imp ( \\and "
      ++ codes "\\top ( \\and ( \\mem x:0 f:dotk ) ( \\and ( \\mem x:1 x:2 ) \\top ) ) ) ( \\eq "
      ++ codes "( \\app ( \\app f:append x:0 ) x:1 ) x:2 ) ) ) ) )")
  pub item : IsSpelt sig list_names
      (kompile_sentence 2 2 (behind_parameters (0 ∷ 0 ∷ []) append_item) top)
      (codes "( \\all x:0 s:SortK ( \\all x:1 s:SortK ( \\all x:2 s:SortKItem ( \\all x:3 "
      ++ codes "s:SortK ( \\all x:4 s:SortK ( \\imp ( \\and \\top ( \\and ( \\mem x:0 ( \\app ( "
      ++ codes "\\app f:kseq x:2 ) x:3 ) ) ( \\and ( \\mem x:1 x:4 ) \\top ) ) ) ( \\eq ( \\app "
      ++ codes "( \\app f:append x:0 ) x:1 ) ( \\app ( \\app f:kseq x:2 ) ( \\app ( \\app "
      ++ codes "f:append x:3 ) x:4 ) ) ) ) ) ) ) ) )")
  pub directly : IsSpelt sig list_names (direct_sentence 2 append_nothing top)
      (codes
      "( \\all x:0 s:SortK ( \\imp \\top ( \\eq ( \\app ( \\app f:append f:dotk ) x:0 ) x:0 ) ) )")
  pub total : IsSpelt sig list_names
      (for_all 0 (1 ∷ 0 ∷ []) (exists 2 0 (equals (term (variable 2)) (of_variables 0 0 2))))
      (codes "( \\all x:0 s:SortKItem ( \\all x:1 s:SortK ( \\ex x:2 s:SortK ( \\eq x:2 ( "
      ++ codes "\\app ( \\app f:kseq x:0 ) x:1 ) ) ) ) )")
  pub apart : IsSpelt sig list_names
      (for_all 0 (1 ∷ 0 ∷ []) (not (and (of_variables 0 0 2) (of_variables 1 2 0))))
      (codes "( \\all x:0 s:SortKItem ( \\all x:1 s:SortK ( \\not ( \\and ( \\app ( \\app "
      ++ codes "f:kseq x:0 ) x:1 ) f:dotk ) ) ) )")
  pub free : IsSpelt sig list_names
      (for_all 0 (1 ∷ 0 ∷ 1 ∷ 0 ∷ [])
      (implies (and (of_variables 0 0 2) (of_variables 0 2 2))
      (apply_all (symbol 0) (conjunctions (variables 0 2) (variables 2 2)))))
      (codes "( \\all x:0 s:SortKItem ( \\all x:1 s:SortK ( \\all x:2 s:SortKItem ( \\all x:3 "
      ++ codes "s:SortK ( \\imp ( \\and ( \\app ( \\app f:kseq x:0 ) x:1 ) ( \\app ( \\app "
      ++ codes "f:kseq x:2 ) x:3 ) ) ( \\app ( \\app f:kseq ( \\and x:0 x:2 ) ) ( \\and x:1 x:3 "
      ++ codes ") ) ) ) ) ) )")

-- ---- addition, as kompile writes it: `<k>(kseq(inj{SortExp,SortKItem}(+(inj(I), inj(J))), R)) =>
-- <k>(kseq(inj{SortInt,SortKItem}(+Int(I, J)), R))`

pub record DeclaresAddition (sig : Signature) : Type 0 where
  pub integers : name_at sig.sorts 0 ≡ Some (codes "SortInt")
  pub expressions : name_at sig.sorts 1 ≡ Some (codes "SortExp")
  pub items : name_at sig.sorts 2 ≡ Some (codes "SortKItem")
  pub lists : name_at sig.sorts 3 ≡ Some (codes "SortK")
  pub injects : injection_symbol sig ≡ Some 0
  pub inj : name_at sig.symbols 0 ≡ Some (codes "inj")
  pub kseq : name_at sig.symbols 1 ≡ Some (codes "kseq")
  pub plus : name_at sig.symbols 2 ≡ Some (codes "Lbl'UndsPlusUnds'")
  pub sum : name_at sig.symbols 3 ≡ Some (codes "Lbl'UndsPlus'Int'Unds'")
  pub cell : name_at sig.symbols 4 ≡ Some (codes "Lbl'-LT-'k'-GT-'")

abbrev pub addition_names : List Token
addition_names =
    codes "s:SortInt" ∷ codes "s:SortExp" ∷ codes "s:SortKItem" ∷ codes "s:SortK" ∷ codes "f:inj"
    ∷ codes "f:kseq" ∷
    codes "f:Lbl'UndsPlusUnds'" ∷ codes "f:Lbl'UndsPlus'Int'Unds'" ∷ codes "f:Lbl'-LT-'k'-GT-'" ∷ []

abbrev pub addition : RewriteRule
addition = record {
  left = application 4 (one
      (application 1 (two (injection 1 2
      (application 2 (two (injection 0 1 (variable 0)) (injection 0 1 (variable 1))))) (variable
      2))));
  names = [];
  condition = None;
  right = application 4
      (one (application 1
      (two (injection 0 2 (call 3 [] (two (variable 0) (variable 1)))) (variable 2))));
  variables = 0 ∷ 0 ∷ 3 ∷ [];
  priority = 50;
  place = 0;
}

pub record AdditionSpelt (sig : Signature) : Type 0 where
  pub rule : IsSpelt sig addition_names (rule_sentence addition top)
      (codes "( \\all x:0 s:SortInt ( \\all x:1 s:SortInt ( \\all x:2 s:SortK ( \\imp ( \\and "
      ++ codes "( \\app f:Lbl'-LT-'k'-GT-' ( \\app ( \\app f:kseq ( \\app ( \\at ( \\at f:inj "
      ++ codes "s:SortExp ) s:SortKItem ) ( \\app ( \\app f:Lbl'UndsPlusUnds' ( \\app ( \\at ( "
      ++ codes "\\at f:inj s:SortInt ) s:SortExp ) x:0 ) ) ( \\app ( \\at ( \\at f:inj "
      ++ codes "s:SortInt ) s:SortExp ) x:1 ) ) ) ) x:2 ) ) \\top ) ( \\next ( \\app "
      ++ codes "f:Lbl'-LT-'k'-GT-' ( \\app ( \\app f:kseq ( \\app ( \\at ( \\at f:inj s:SortInt "
      ++ codes ") s:SortKItem ) ( \\app ( \\app f:Lbl'UndsPlus'Int'Unds' x:0 ) x:1 ) ) ) x:2 ) "
      ++ codes ") ) ) ) ) )")
  pub collapse : IsSpelt sig addition_names
      (for_all 0 (0 ∷ []) (equals (term (injection 1 2 (injection 0 1 (variable 0))))
      (term (injection 0 2 (variable 0)))))
      (codes "( \\all x:0 s:SortInt ( \\eq ( \\app ( \\at ( \\at f:inj s:SortExp ) "
      ++ codes "s:SortKItem ) ( \\app ( \\at ( \\at f:inj s:SortInt ) s:SortExp ) x:0 ) ) ( "
      ++ codes "\\app ( \\at ( \\at f:inj s:SortInt ) s:SortKItem ) x:0 ) ) )")

-- ---- names of parts of left sides

pub record DeclaresParts (sig : Signature) : Type 0 where
  pub items : name_at sig.sorts 0 ≡ Some (codes "S")
  pub f : name_at sig.symbols 0 ≡ Some (codes "f")
  pub g : name_at sig.symbols 1 ≡ Some (codes "g")
  pub h : name_at sig.symbols 2 ≡ Some (codes "h")

abbrev pub part_names : List Token
part_names = codes "s:S" ∷ codes "f:f" ∷ codes "f:g" ∷ codes "f:h" ∷ []

abbrev pub named_after : ℕ → List ℕ → Name
named_after x place = record { variable = x; place = place; first = false }

-- `g(\and(f(X), Y)) => h(X, Y)`
abbrev pub names_part : RewriteRule
names_part = record {
  left = application 1 (one (application 0 (one (variable 0))));
  names = named_after 1 (0 ∷ 0 ∷ []) ∷ [];
  condition = None;
  right = application 2 (two (variable 0) (variable 1));
  variables = 0 ∷ 0 ∷ [];
  priority = 50;
  place = 0;
}

-- `\and(Z, \and(g(\and(f(X), Y)), W)) => h(Z, W)`: a name that is written first, around another
abbrev pub names_whole : RewriteRule
names_whole = record names_part {
  names =
      named_after 1 (0 ∷ 0 ∷ []) ∷ named_after 2 (0 ∷ [])
      ∷ record { variable = 3; place = 0 ∷ []; first = true } ∷ [];
  variables = 0 ∷ 0 ∷ 0 ∷ 0 ∷ [];
}

-- `h(f(X), \and(f(Y), Z)) = Z`
abbrev pub names_argument : Equation
names_argument = record {
  parameters = 2;
  arguments =
      two (application 0 (one (variable 0))) (application 0 (one (variable 1)));
  names = named_after 2 (1 ∷ []) ∷ [];
  last_resort = None;
  condition = None;
  right = variable 2;
  variables = 0 ∷ 0 ∷ 0 ∷ [];
  priority = 50;
  place = 0;
}

pub record PartsSpelt (sig : Signature) : Type 0 where
  pub part : IsSpelt sig part_names (rule_sentence names_part top)
      (codes "( \\all x:0 s:S ( \\all x:1 s:S ( \\imp ( \\and ( \\app f:g ( \\and ( \\app f:f x:0 "
      ++ codes ") x:1 ) ) \\top ) ( \\next ( \\app ( \\app f:h x:0 ) x:1 ) ) ) ) )")
  pub whole : IsSpelt sig part_names (rule_sentence names_whole top)
      (codes "( \\all x:0 s:S ( \\all x:1 s:S ( \\all x:2 s:S ( \\all x:3 s:S ( \\imp ( \\and ( "
      ++ codes "\\and x:3 ( \\and ( \\app f:g ( \\and ( \\app f:f x:0 ) x:1 ) ) x:2 ) ) \\top ) ( "
      ++ codes "\\next ( \\app ( \\app f:h x:0 ) x:1 ) ) ) ) ) ) )")
  pub directly : IsSpelt sig part_names (direct_sentence 2 names_argument top)
      (codes "( \\all x:0 s:S ( \\all x:1 s:S ( \\all x:2 s:S ( \\imp \\top ( \\eq ( \\app ( \\app "
      ++ codes "f:h ( \\app f:f x:0 ) ) ( \\and ( \\app f:f x:1 ) x:2 ) ) x:2 ) ) ) ) )")
  pub kompiled : IsSpelt sig part_names
      (kompile_sentence 2 2 (behind_parameters (0 ∷ 0 ∷ []) names_argument) top)
      (codes "( \\all x:0 s:S ( \\all x:1 s:S ( \\all x:2 s:S ( \\all x:3 s:S ( \\all x:4 s:S ( "
      ++ codes "\\imp ( \\and \\top ( \\and ( \\mem x:0 ( \\app f:f x:2 ) ) ( \\and ( \\mem x:1 ( "
      ++ codes "\\and ( \\app f:f x:3 ) x:4 ) ) \\top ) ) ) ( \\eq ( \\app ( \\app f:h x:0 ) x:1 ) "
      ++ codes "x:4 ) ) ) ) ) ) )")

pub record TriedImages : Type 0 where
  pub moving : (sig : Signature) → DeclaresMoves sig → MovingSpelt sig
  pub numbers : (sig : Signature) → DeclaresNumbers sig → NumbersSpelt sig
  pub lists : (sig : Signature) → DeclaresLists sig → ListsSpelt sig
  pub additions : (sig : Signature) → DeclaresAddition sig → AdditionSpelt sig
  pub parts : (sig : Signature) → DeclaresParts sig → PartsSpelt sig
