-- Small texts with what the definitions say of them.
use Rattle.std.specs.Prelude.{◌≡◌, [], ◌∷◌, ◌++◌, Some, None, codes}
use Rattle.mm_text.specs.Tokens.{no_token, bad_text, next_token, tokens_from}
use Rattle.mm_text.specs.FaultKinds.{fault}
use Rattle.mm_text.specs.Statements.{no_statement, unended, bad_statement, next_statement}
use Rattle.mm_text.specs.Statements.{statement, statements_of}
use Rattle.mm_text.specs.Compressed.{numbered, save, steps_of, number_of}

pub record TriedCases : Type 0 where
  pub tokens : tokens_from 0 (codes "a  $( b $. $)\tc$")
      ≡ next_token 0 (codes "a") (next_token 14 (codes "c$") no_token)
  pub byte_ends_token : tokens_from 0 (codes "ab" ++ 7 ∷ codes "c")
      ≡ next_token 0 (codes "ab") (bad_text (fault 1 2))
  pub blocks : statements_of (codes "${ $} $c a $.")
      ≡ next_statement (statement 0 (codes "${" ∷ [])) (next_statement
      (statement 3 (codes "$}" ∷ []))
      (next_statement (statement 6 (codes "$c" ∷ codes "a" ∷ codes "$." ∷ [])) no_statement))
  pub unended_statement : statements_of (codes "$c a $. b ${ $}")
      ≡ next_statement (statement 0 (codes "$c" ∷ codes "a" ∷ codes "$." ∷ [])) (unended 8)
  pub comment_behind : statements_of (codes "$c a $. $( ")
      ≡ next_statement (statement 0 (codes "$c" ∷ codes "a" ∷ codes "$." ∷ []))
      (bad_statement (fault 2 8))
  pub one : number_of (codes "A") ≡ Some 1
  pub twenty : number_of (codes "T") ≡ Some 20
  pub two_digits : number_of (codes "UA") ≡ Some 21
  pub last_of_two : number_of (codes "YT") ≡ Some 120
  pub three_digits : number_of (codes "UUA") ≡ Some 121
  pub no_last_digit : number_of (codes "U") ≡ None
  pub two_numbers : number_of (codes "AA") ≡ None
  pub steps : steps_of (codes "AZUAZ") ≡ Some (numbered 1 ∷ save ∷ numbered 21 ∷ save ∷ [])
  pub save_twice : steps_of (codes "AZZ") ≡ None
  pub save_first : steps_of (codes "ZA") ≡ None
  pub save_in_number : steps_of (codes "UZA") ≡ None
  pub no_letters : steps_of [] ≡ None
  pub small_letter : steps_of (codes "Aa") ≡ None
