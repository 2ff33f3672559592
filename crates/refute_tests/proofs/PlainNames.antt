-- Names that are identifiers may occur in the tokens of a database.
use Rattle.std.proofs.Common.{◌≡◌, ℕ, true, refl, List, [], ◌∷◌, All, Option, Some, None, slice_get}
use Rattle.std.proofs.Common.{subst, arith}
use Rattle.std.specs.Prelude.{option_map}
use Rattle.std.proofs.lemmas.List.Elements.{All-get_or}
use Rattle.std.proofs.lemmas.Option.{slice_get_within, get_or_from_slice_get}
use Rattle.std.proofs.lemmas.Bool.Decides.{nat_tests}
use Rattle.std.specs.List.{list_all}
use Rattle.kore_lex.specs.Pieces.{is_letter, is_word}
use Rattle.kore_lex.specs.Tokens.{AllWord, IsName}
use Rattle.mm_claims.specs.Statements.{is_name_byte}
use Rattle.ml_image.specs.Tokens.{name_at}
use Rattle.rule_core.specs.declared.signature.Signature.{Signature}
use Rattle.kore_rules.specs.Names.{HasIdentifierNames}
use Rattle.proof_writer.specs.PlainNames.{HasPlainNames}

word-plain : (c : ℕ) → is_word c ≡ true → is_name_byte c ≡ true
word-plain c h = grind (arith, nat_tests)

letter-plain : (c : ℕ) → is_letter c ≡ true → is_name_byte c ≡ true
letter-plain c h = grind (arith, nat_tests)

words-plain : (cs : List ℕ) → AllWord cs → list_all is_name_byte cs ≡ true
words-plain [] h = refl
words-plain (c ∷ cs) h = rw (word-plain c h.0, words-plain cs h.1) refl

name-plain : (name : List ℕ) → IsName name → list_all is_name_byte name ≡ true
name-plain [] h = absurd h
name-plain (c ∷ cs) h = rw (letter-plain c h.0, words-plain cs h.1) refl

item_at : {X : Type 0} (P : X → Type 0) (xs : List X) (i : ℕ) (x : X) → All P xs
    → slice_get xs i ≡ Some x → P x
item_at P xs i x all is =
    subst P (get_or_from_slice_get xs i x x is)
    (All-get_or P xs i x (slice_get_within xs i x is) all)

entry_name : {V : Type 0} (o : Option (List ℕ × V)) (name : List ℕ)
    → option_map (λ e. e.0) o ≡ Some name → (e : List ℕ × V) × (o ≡ Some e) × (e.0 ≡ name)
entry_name (Some e) name h = (e, refl, let same : e.0 ≡ name = cc in same)
entry_name None name h = absurd (let z : ⊥ = cc in z)

named_plain : {V : Type 0} (entries : List (List ℕ × V)) (n : ℕ) (name : List ℕ)
    → All (λ e. IsName e.0) entries → name_at entries n ≡ Some name
    → list_all is_name_byte name ≡ true
named_plain {V = V} entries n name all is =
    let found = entry_name (slice_get entries n) name is in
    name-plain name (subst IsName found.2
    (item_at (λ (e : List ℕ × V). IsName e.0) entries n found.0 all found.1))

-- identifiers have only printable bytes, and no `$`
pub plain_names : (sig : Signature) → HasIdentifierNames sig → HasPlainNames sig
plain_names sig names = record {
  sorts = λ s name is. named_plain sig.sorts s name names.sorts is;
  symbols = λ f name is. named_plain sig.symbols f name names.symbols is;
}
