-- Assertions that give a name its typecode.
use Rattle.std.proofs.Common.{◌≡◌, ◌<◌, ◌≤◌, List, [], ◌∷◌, length, Bor, refl, ap, sym, ◌∙◌, subst}
use Rattle.std.proofs.Common.{arith}
use Rattle.std.proofs.lemmas.Slice.Eq.{bytes_eq-Decides}
use Rattle.std.specs.Prelude.{true, bytes_eq, Result, Ok, Err, IfOk, IsTrue, Bool, ◌↔◌}
use Rattle.std.specs.Prelude.{slice_index_or}
use Rattle.rule_core.specs.declared.signature.Signature.{Signature}
use Rattle.std.specs.declared.alloc.AllocError.{AllocError}
use Rattle.ml_image.specs.OwnTokens.{IsOwnToken}
use Rattle.mm_text.specs.Bytes.{Token}
use Rattle.mm_justify.specs.Stating.{typecode_of}
use Rattle.mm_check.specs.Stated.{PlainStated, words}
use Rattle.mm_check.specs.AxiomTests.{HasTypecode, SaysName}

two_words : (ws : List (Bor Token)) (d e : Bor Token) → 2 ≤ length ws → length ws < 3
    → words ws ≡ (slice_index_or ws 0 d).now ∷ ((slice_index_or ws 1 e).now ∷ [])
two_words [] d e low high = absurd (omega arith)
two_words (a ∷ []) d e low high = absurd (omega arith)
two_words (a ∷ (b ∷ [])) d e low high = refl
two_words (a ∷ (b ∷ (x ∷ ws))) d e low high = absurd (omega arith)

name_said : (sig : Signature) (s : PlainStated) (typecode token : Token)
    → s.words ≡ typecode ∷ (token ∷ []) → s.premises ≡ [] → s.types ≡ []
    → HasTypecode sig typecode token → SaysName sig s
name_said sig s typecode token statement premises types has = record {
  token = token;
  own = has.own;
  statement = statement ∙ ap (λ (t : Token). t ∷ (token ∷ [])) has.is;
  premises = premises;
  types = types;
}

said_name : (sig : Signature) (s : PlainStated) (typecode token : Token)
    → s.words ≡ typecode ∷ (token ∷ []) → SaysName sig s → HasTypecode sig typecode token
said_name sig s typecode token statement says = record {
  own = subst (IsOwnToken sig) same_token says.own;
  is = same_typecode ∙ ap typecode_of same_token;
}
  where
    both : says.token ≡ says.token
    both = refl

    same : typecode_of says.token ∷ (says.token ∷ []) ≡ typecode ∷ (token ∷ [])
    same = sym says.statement ∙ statement

    same_token : says.token ≡ token
    same_token = cc

    same_typecode : typecode ≡ typecode_of says.token
    same_typecode = cc

pub declared : (sig : Signature) (s : PlainStated) (ws : List (Bor Token)) (d e : Bor Token)
    (r : Result Bool AllocError) → s.words ≡ words ws → 2 ≤ length ws → length ws < 3
    → s.premises ≡ [] → s.types ≡ []
    → IfOk r (λ b. IsTrue b
    ↔ HasTypecode sig (slice_index_or ws 0 d).now (slice_index_or ws 1 e).now)
    → IfOk r (λ b. IsTrue b ↔ SaysName sig s)
declared sig s ws d e (Err f) all low high premises types has = tt
declared sig s ws d e (Ok b) all low high premises types has =
    let statement = all ∙ two_words ws d e low high in (
      λ h. name_said sig s _ _ statement premises types (has.0 h),
      λ says. has.1 (said_name sig s _ _ statement says),
    )

pub typed_name : (sig : Signature) (typecode token : Token) (r : Result Bool AllocError)
    (own : Token) → bytes_eq typecode own ≡ true → own ≡ typecode_of token
    → IfOk r (λ b. IsTrue b ↔ IsOwnToken sig token)
    → IfOk r (λ b. IsTrue b ↔ HasTypecode sig typecode token)
typed_name sig typecode token (Err f) own same is has = tt
typed_name sig typecode token (Ok b) own same is has = (
  λ h. record {
    own = has.0 h;
    is = (bytes_eq-Decides typecode own).0 same ∙ is;
  },
  λ says. has.1 says.own,
)

pub none_left : {X : Type 0} (f : List X) → length f ≡ 0 → f ≡ []
none_left [] h = refl
none_left (x ∷ xs) h = absurd (omega (arith, h))
