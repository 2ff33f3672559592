-- Small texts, with what the definitions say of them: that there is no fault, or the kind and the
-- byte of the first fault.
use Rattle.std.specs.Prelude.{◌≡◌, ℕ, List, [], ◌∷◌, ◌++◌, Some, None, codes}
use Rattle.mm_text.specs.FaultKinds.{fault}
use Rattle.mm_database.specs.ComputedFault.{first_fault}

-- one constant and two variables, in 44 bytes, and an axiom after them, in 15 bytes
abbrev pub declared : List ℕ
declared = codes "$c t $. $v x y $. fx $f t x $. fy $f t y $. "

abbrev pub with_axiom : List ℕ
with_axiom = declared ++ codes "ax $a t x y $. "

-- the axioms of the Metamath book's first example
abbrev pub book_axioms : List ℕ
book_axioms =
    codes "$c 0 + = -> ( ) term wff |- $. $v t r s P Q $. tt $f term t $. tr $f term r $. ts "
    ++ codes "$f term s $. wp $f wff P $. wq $f wff Q $. tze $a term 0 $. tpl $a term ( t + r ) "
    ++ codes "$. weq $a wff t = r $. wim $a wff ( P -> Q ) $. a1 $a |- ( t = r -> ( t = s -> r = "
    ++ codes "s ) ) $. a2 $a |- ( t + 0 ) = t $. ${ min $e |- P $. maj $e |- ( P -> Q ) $. mp $a "
    ++ codes "|- Q $. $} "

pub record TriedCases : Type 0 where
  pub empty : first_fault ([]) ≡ None
  pub normal : first_fault (with_axiom ++ codes "th $p t x x $= fx fx ax $.") ≡ None
  pub compressed : first_fault (with_axiom ++ codes "th $p t x x $= ( ax ) AAB $.") ≡ None
  pub saved_step : first_fault (with_axiom ++ codes "th $p t x x $= ( ax ) AZCB $.") ≡ None
  pub saved_subtree : first_fault (with_axiom ++ codes "th $p t x x x x $= ( ax ) AABZCB $.") ≡ None
  pub letters_apart : first_fault
      (with_axiom ++ codes "th $p t x x $= ( ax ) A Z $( a comment $) C B $.") ≡ None
  pub apart : first_fault (declared
      ++ codes "${ $d x y $. ax $a t x y $. $} ${ $d x y $. th $p t x y $= fx fy ax $. $}")
      ≡ None
  pub book : first_fault (book_axioms
      ++ codes "th1 $p |- t = t $= tt tze tpl tt weq tt tt weq tt a2 tt tze tpl tt weq tt tze tpl "
      ++ codes "tt weq tt tt weq wim tt a2 tt tze tpl tt tt a1 mp mp $.")
      ≡ None
  pub typed_again : first_fault (codes "$c t $. $v x $. ${ fx $f t x $. $} gx $f t x $.") ≡ None
  pub control_byte : first_fault (codes "$c t $. " ++ 1 ∷ []) ≡ Some (fault 1 8)
  pub byte_in_comment : first_fault (codes "$( " ++ 200 ∷ codes " $)") ≡ Some (fault 1 3)
  pub open_comment : first_fault (codes "$c t $. $( " ++ 200 ∷ []) ≡ Some (fault 2 8)
  pub mark_in_comment : first_fault (codes "$( a$(b $) ") ≡ Some (fault 2 0)
  pub comment_not_opened : first_fault (codes "$c t $) $.") ≡ Some (fault 2 5)
  pub comment_behind_fault : first_fault (codes "$x $. $)") ≡ Some (fault 3 0)
  pub unknown_keyword : first_fault (codes "$c t $. $x t $.") ≡ Some (fault 3 8)
  pub inclusion : first_fault (codes "$[ set.mm $]") ≡ Some (fault 3 0)
  pub unended_statement : first_fault (codes "$c t $. $v x") ≡ Some (fault 3 8)
  pub end_alone : first_fault (codes "$.") ≡ Some (fault 3 0)
  pub no_constant : first_fault (codes "$c $.") ≡ Some (fault 3 0)
  pub theorem_without_proof : first_fault (declared ++ codes "th $p t x $.") ≡ Some (fault 3 44)
  pub keyword_in_proof : first_fault (declared ++ codes "th $p t x $= fx $f $.") ≡ Some (fault 3 44)
  pub constant_in_block : first_fault (codes "${ $c t $. $}") ≡ Some (fault 4 3)
  pub constant_twice : first_fault (codes "$c t t $.") ≡ Some (fault 5 0)
  pub constant_for_variable : first_fault (codes "$c t $. $v t $.") ≡ Some (fault 5 8)
  pub active_variable : first_fault (declared ++ codes "$v x $.") ≡ Some (fault 5 44)
  pub label_for_constant : first_fault (declared ++ codes "$c fx $.") ≡ Some (fault 5 44)
  pub unknown_symbol : first_fault (codes "$c t $. ax $a t u $.") ≡ Some (fault 6 8)
  pub untyped_variable : first_fault (codes "$c t $. $v x $. ax $a t x $.") ≡ Some (fault 6 16)
  pub inactive_variable : first_fault (codes "$c t $. ${ $v x $. $} fx $f t x $.")
      ≡ Some (fault 6 22)
  pub constant_apart : first_fault (declared ++ codes "$d x t $.") ≡ Some (fault 6 44)
  pub variable_first : first_fault (declared ++ codes "ax $a x $.") ≡ Some (fault 7 44)
  pub empty_statement : first_fault (declared ++ codes "ax $a $.") ≡ Some (fault 7 44)
  pub typing_of_two : first_fault (codes "$c t $. $v x $. fx $f t x x $.") ≡ Some (fault 7 16)
  pub second_type : first_fault (declared ++ codes "gx $f t x $.") ≡ Some (fault 8 44)
  pub one_variable_apart : first_fault (declared ++ codes "$d x $.") ≡ Some (fault 9 44)
  pub variable_apart_from_itself : first_fault (declared ++ codes "$d x x $.") ≡ Some (fault 9 44)
  pub block_not_opened : first_fault (codes "$c t $. $}") ≡ Some (fault 10 8)
  pub block_not_closed : first_fault (codes "$c t $. ${ ${ $} ${") ≡ Some (fault 10 8)
  pub label_missing : first_fault (declared ++ codes "$a t x $.") ≡ Some (fault 11 44)
  pub label_of_declaration : first_fault (codes "l $c t $.") ≡ Some (fault 11 0)
  pub two_labels : first_fault (declared ++ codes "ax ay $a t x $.") ≡ Some (fault 11 44)
  pub label_misspelt : first_fault (declared ++ codes "a/x $a t x $.") ≡ Some (fault 11 44)
  pub label_in_use : first_fault (declared ++ codes "fx $a t x $.") ≡ Some (fault 11 44)
  pub label_of_symbol : first_fault (declared ++ codes "x $a t x $.") ≡ Some (fault 11 44)
  pub empty_proof : first_fault (with_axiom ++ codes "th $p t x x $= $.") ≡ Some (fault 12 59)
  pub unfinished_proof : first_fault (with_axiom ++ codes "th $p t x x $= ? $.")
      ≡ Some (fault 12 59)
  pub own_label : first_fault (with_axiom ++ codes "th $p t x x $= th $.") ≡ Some (fault 12 59)
  pub inactive_hypothesis : first_fault (codes "$c t $. ${ h $e t $. $} th $p t $= h $.")
      ≡ Some (fault 12 24)
  pub mandatory_label_listed : first_fault (with_axiom ++ codes "th $p t x x $= ( fx ax ) AAB $.")
      ≡ Some (fault 12 59)
  pub number_without_meaning : first_fault (with_axiom ++ codes "th $p t x x $= ( ax ) ACB $.")
      ≡ Some (fault 12 59)
  pub save_of_nothing : first_fault (with_axiom ++ codes "th $p t x x $= ( ax ) ZAAB $.")
      ≡ Some (fault 12 59)
  pub digits_without_last : first_fault (with_axiom ++ codes "th $p t x x $= ( ax ) AABU $.")
      ≡ Some (fault 12 59)
  pub no_letters : first_fault (with_axiom ++ codes "th $p t x x $= ( ax ) $.") ≡ Some (fault 12 59)
  pub list_not_closed : first_fault (with_axiom ++ codes "th $p t x x $= ( ax AAB $.")
      ≡ Some (fault 12 59)
  pub missing_entries : first_fault (with_axiom ++ codes "th $p t x x $= fx ax $.")
      ≡ Some (fault 13 59)
  pub wrong_typecode : first_fault
      (codes "$c t u $. $v x y $. fx $f t x $. fy $f u y $. ax $a t x $. th $p t x $= fy ax $.")
      ≡ Some (fault 13 59)
  pub not_apart : first_fault
      (declared ++ codes "${ $d x y $. ax $a t x y $. $} th $p t x x $= fx fx ax $.")
      ≡ Some (fault 13 75)
  pub no_disjointness : first_fault
      (declared ++ codes "${ $d x y $. ax $a t x y $. $} th $p t x y $= fx fy ax $.")
      ≡ Some (fault 13 75)
  pub two_entries : first_fault (with_axiom ++ codes "th $p t x x $= fx fx $.") ≡ Some (fault 14 59)
  pub other_statement : first_fault (with_axiom ++ codes "th $p t x x $= fx fy ax $.")
      ≡ Some (fault 14 59)
  pub dummy_apart : first_fault (declared
      ++ codes "$v z $. fz $f t z $. ${ $d x y $. ax $a t x y $. $} "
      ++ codes
      "${ e $e t x y $. cut $a t x $. $} ${ $d x z $. th $p t x $= fx fz fx fz ax cut $. $}")
      ≡ None
  pub dummy_not_apart : first_fault (declared
      ++ codes "$v z $. fz $f t z $. ${ $d x y $. ax $a t x y $. $} "
      ++ codes "${ e $e t x y $. cut $a t x $. $} th $p t x $= fx fz fx fz ax cut $.")
      ≡ Some (fault 13 130)
  pub save_last : first_fault (with_axiom ++ codes "th $p t x x $= ( ax ) AABZ $.") ≡ None
  pub hypothesis_saved_last : first_fault (with_axiom ++ codes "th $p t x $= ( ) AZ $.") ≡ None
  pub assertion_listed_twice : first_fault (with_axiom ++ codes "th $p t x x $= ( ax ax ) AAB $.")
      ≡ Some (fault 12 59)
  pub hypothesis_listed_twice : first_fault
      (with_axiom ++ codes "th $p t x x $= ( fy fy ax ) AAD $.") ≡ Some (fault 12 59)
  pub inactive_premise_listed : first_fault
      (with_axiom ++ codes "${ h $e t x $. $} th $p t x x $= ( h ax ) AAC $.")
      ≡ Some (fault 12 77)
  pub inactive_typing_listed : first_fault (with_axiom
      ++ codes "${ $v z $. fz $f t z $. $} th $p t x x $= ( fz ax ) AAC $.") ≡ Some (fault 12 86)
  pub letter_before_step : first_fault (with_axiom ++ codes "th $p t x x $= ( ax ) AB? $.")
      ≡ Some (fault 12 59)
  pub label_before_step : first_fault (with_axiom ++ codes "th $p t x x $= fx ax later $.")
      ≡ Some (fault 12 59)
