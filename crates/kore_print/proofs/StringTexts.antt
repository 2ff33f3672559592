-- The text of a string is one token of Kore text, and the value of this token is the string.
use Rattle.std.proofs.Common.{◌≡◌, ◌+◌, ◌-◌, ℕ, true, List, [], ◌∷◌, ◌++◌, length, take, refl, ap}
use Rattle.std.proofs.Common.{sym, ◌∙◌, arith, append_assoc, None, chars, encode_utf8_all}
use Rattle.std.proofs.lemmas.List.{length-append}
use Rattle.std.proofs.Math.Seq.{take-append_seam}
use Rattle.std.proofs.lemmas.Str.{IsUtf8-from_ascii, is_utf8-from_IsUtf8, IsAscii-append}
use Rattle.std.proofs.lemmas.Str.{encodes-chars, scalars-chars}
use Rattle.std.proofs.lemmas.Str.Ascii.{IsAscii-nil}
use Rattle.std.specs.Str.{IsAscii, IsUtf8, is_utf8}
use Rattle.std.specs.Char.{encode_utf8}
use lib.Utf8.{scalar, scalars}
use Rattle.kore_lex.specs.declared.lexer.TokenKind.TheVariants.{Text}
use Rattle.kore_lex.specs.Escapes.{further, bad_at}
use Rattle.kore_lex.specs.Pieces.{quote_len, piece}
use Rattle.kore_lex.specs.Value.{unescaped_text, string_value}
use Rattle.kore_lex.proofs.Runs.{further-none, further-sum}
use Rattle.kore_lex.proofs.WholePieces.{whole, string-piece}
use Rattle.kore_text.proofs.Accepting.{both}
use Rattle.kore_print.specs.TokenText.{character_text, characters_text, string_text}
use Rattle.kore_print.proofs.CharacterLaws.{Stands, stands}

all-quoted : (cs r : List ℕ) → scalars cs ≡ true
    → quote_len 0 (characters_text cs ++ r) ≡ further (length (characters_text cs)) (quote_len 0 r)
all-quoted [] r s = sym (further-none (quote_len 0 r))
all-quoted (c ∷ cs) r s =
    let p = both (scalar c) (scalars cs) s in
    let u : Stands c (character_text c) = stands c p.0 in
    let n : length (character_text c) + length (characters_text cs) ≡ length
    (character_text c ++ characters_text cs) =
    sym (length-append (character_text c) (characters_text cs)) in
    ap (quote_len 0) (append_assoc (character_text c) (characters_text cs) r)
    ∙ u.quoted (characters_text cs ++ r)
    ∙ ap (further (length (character_text c))) (all-quoted cs r p.1)
    ∙ further-sum (length (character_text c)) (length (characters_text cs))
    (length (character_text c ++ characters_text cs)) (quote_len 0 r) n

all-good : (cs : List ℕ) → scalars cs ≡ true → bad_at 0 (characters_text cs) ≡ None
unfolding bad_at
all-good [] s = refl
all-good (c ∷ cs) s =
    let p = both (scalar c) (scalars cs) s in
    let u : Stands c (character_text c) = stands c p.0 in
    u.good (characters_text cs) ∙ ap (further (length (character_text c))) (all-good cs p.1)

all-read : (cs : List ℕ) → scalars cs ≡ true → unescaped_text 0 (characters_text cs)
    ≡ encode_utf8_all cs
unfolding unescaped_text
all-read [] s = refl
all-read (c ∷ cs) s =
    let p = both (scalar c) (scalars cs) s in
    let u : Stands c (character_text c) = stands c p.0 in
    u.read (characters_text cs) ∙ ap (λ (t : List ℕ). encode_utf8 c ++ t) (all-read cs p.1)

all-ascii : (cs : List ℕ) → scalars cs ≡ true → IsAscii (characters_text cs)
all-ascii [] s = IsAscii-nil
all-ascii (c ∷ cs) s =
    let p = both (scalar c) (scalars cs) s in
    let u : Stands c (character_text c) = stands c p.0 in
    IsAscii-append (character_text c) (characters_text cs) u.ascii (all-ascii cs p.1)

-- a quote, the texts of characters, and a quote, before anything
closed-piece : (cs r : List ℕ) → scalars cs ≡ true
    → piece (34 ∷ (characters_text cs ++ (34 ∷ r))) ≡ whole Text (length (characters_text cs) + 2)
unfolding quote_len
closed-piece cs r s =
    let w : List ℕ = characters_text cs in
    let u : is_utf8 w ≡ true = is_utf8-from_IsUtf8 w (IsUtf8-from_ascii w (all-ascii cs s)) in
    string-piece w r (all-quoted cs (34 ∷ r) s) u (all-good cs s)

length-quoted : (w : List ℕ) → length (34 ∷ (w ++ (34 ∷ []))) ≡ length w + 2
length-quoted w =
    let e : length (w ++ (34 ∷ [])) ≡ length w + 1 = length-append w (34 ∷ []) in omega (arith, e)

-- the text of a string is cut off as one piece
pub text-piece : (t r : List ℕ) → IsUtf8 t
    → piece (string_text t ++ r) ≡ whole Text (length (string_text t))
text-piece t r u =
    let cs : List ℕ = chars t in
    let w : List ℕ = characters_text cs in
    let s : scalars cs ≡ true = scalars-chars t u in
    ap (λ (bs : List ℕ). piece (34 ∷ bs)) (append_assoc w (34 ∷ []) r)
    ∙ closed-piece cs r s ∙ ap (whole Text) (sym (length-quoted w))

-- the text of a string denotes the string
pub text-value : (t : List ℕ) → IsUtf8 t → string_value (string_text t) ≡ t
text-value t u =
    let cs : List ℕ = chars t in
    let w : List ℕ = characters_text cs in
    let n : length (34 ∷ (w ++ (34 ∷ []))) - 2 ≡ length w = omega (arith, length-quoted w) in
    ap (unescaped_text 0) (ap (λ (i : ℕ). take i (w ++ (34 ∷ []))) n ∙ take-append_seam w (34 ∷ []))
    ∙ all-read cs (scalars-chars t u) ∙ encodes-chars t u
