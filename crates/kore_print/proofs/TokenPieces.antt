-- The canonical text of a token is cut off as that token if what follows may follow it.
use Rattle.std.proofs.Common.{◌≡◌, ◌≢◌, ◌+◌, ◌-◌, ℕ, Bool, true, false, List, [], ◌∷◌, ◌++◌, length}
use Rattle.std.proofs.Common.{take, drop, refl, ap, sym, ◌∙◌, arith, ◌==◌, ◌&&◌, if◌then◌else◌}
use Rattle.std.proofs.Common.{Some, None}
use Rattle.std.proofs.lemmas.List.{drop-drop}
use Rattle.std.proofs.Math.Seq.{take-append_seam, drop-append_seam}
use Rattle.kore_lex.specs.declared.lexer.TokenKind.{TokenKind}
use Rattle.kore_lex.specs.declared.lexer.TokenKind.TheVariants as kind
use Rattle.kore_lex.specs.Pieces.{is_letter, is_word, piece}
use Rattle.kore_lex.specs.Lexed.{lexed, Cut, cut_token}
use Rattle.kore_lex.specs.Tokens.{IsName, AllWord}
use Rattle.kore_lex.proofs.WholePieces.{whole, lexed-whole, begins_word, begins_equals, name-piece}
use Rattle.kore_lex.proofs.WholePieces.{set-piece, builtin-piece, mark-piece, assign-piece}
use Rattle.kore_text.specs.declared.names.Op.TheVariants as op
use Rattle.kore_text.specs.declared.names.Binder.TheVariants as binder
use Rattle.kore_text.specs.declared.names.Built.{Built}
use Rattle.kore_text.specs.declared.names.Built.TheVariants.{Connective, Binding, Value, Fold}
use Rattle.kore_text.specs.TokenStream.{KoreToken, identifier, set_identifier, builtin}
use Rattle.kore_text.specs.TokenStream.{string_token, mark, assign, token, token_of, built_of}
use Rattle.kore_text.specs.TokenStream.{named_tokens as named_stream}
use Rattle.kore_print.specs.TokenText.{built_name, token_text}
use Rattle.kore_print.specs.PrintLaws.{IsTextual}
use Rattle.kore_print.proofs.StringTexts.{text-piece, text-value}

-- the bytes may follow the token
abbrev pub IsApart : KoreToken → List ℕ → Type 0
IsApart (identifier n) r = begins_word r ≡ false
IsApart (set_identifier n) r = begins_word r ≡ false
IsApart (builtin (Some b)) r = begins_word r ≡ false
IsApart (builtin None) r = ⊥
IsApart (string_token t) r = Unit {0}
IsApart (mark c) r = ((c == 58) && begins_equals r) ≡ false
IsApart assign r = Unit {0}

-- built-in names

abbrev all_word : List ℕ → Bool
all_word [] = true
all_word (c ∷ cs) = if is_word c then all_word cs else false

abbrev is_name : List ℕ → Bool
is_name [] = false
is_name (c ∷ cs) = if is_letter c then all_word cs else false

if-both : (a b : Bool) → (if a then b else false) ≡ true → (a ≡ true) × (b ≡ true)
if-both true b h = (refl, h)
if-both false b h = let z : ⊥ = cc in absurd z

word-all : (cs : List ℕ) → all_word cs ≡ true → AllWord cs
word-all [] h = tt
word-all (c ∷ cs) h = let p = if-both (is_word c) (all_word cs) h in (p.0, word-all cs p.1)

name-is : (n : List ℕ) → is_name n ≡ true → IsName n
name-is [] h = let z : ⊥ = cc in absurd z
name-is (c ∷ cs) h = let p = if-both (is_letter c) (all_word cs) h in (p.0, word-all cs p.1)

built-is-name : (b : Built) → is_name (built_name b) ≡ true
built-is-name (Connective op.Top) = refl
built-is-name (Connective op.Bottom) = refl
built-is-name (Connective op.Not) = refl
built-is-name (Connective op.Next) = refl
built-is-name (Connective op.And) = refl
built-is-name (Connective op.Or) = refl
built-is-name (Connective op.Implies) = refl
built-is-name (Connective op.Iff) = refl
built-is-name (Connective op.Rewrites) = refl
built-is-name (Connective op.Ceil) = refl
built-is-name (Connective op.Floor) = refl
built-is-name (Connective op.Equals) = refl
built-is-name (Connective op.Member) = refl
built-is-name (Binding binder.Exists) = refl
built-is-name (Binding binder.Forall) = refl
built-is-name (Binding binder.Mu) = refl
built-is-name (Binding binder.Nu) = refl
built-is-name Value = refl
built-is-name (Fold true) = refl
built-is-name (Fold false) = refl

built-back : (b : Built) → built_of (built_name b) ≡ Some b
unfolding built_of
built-back (Connective op.Top) = refl
built-back (Connective op.Bottom) = refl
built-back (Connective op.Not) = refl
built-back (Connective op.Next) = refl
built-back (Connective op.And) = refl
built-back (Connective op.Or) = refl
built-back (Connective op.Implies) = refl
built-back (Connective op.Iff) = refl
built-back (Connective op.Rewrites) = refl
built-back (Connective op.Ceil) = refl
built-back (Connective op.Floor) = refl
built-back (Connective op.Equals) = refl
built-back (Connective op.Member) = refl
built-back (Binding binder.Exists) = refl
built-back (Binding binder.Forall) = refl
built-back (Binding binder.Mu) = refl
built-back (Binding binder.Nu) = refl
built-back Value = refl
built-back (Fold true) = refl
built-back (Fold false) = refl

-- the kind of a token
abbrev kind_of : KoreToken → TokenKind
kind_of (identifier n) = kind.Ident
kind_of (set_identifier n) = kind.SetIdent
kind_of (builtin b) = kind.Builtin
kind_of (string_token t) = kind.Text
kind_of (mark c) = kind.Punct c
kind_of assign = kind.Assign

-- the text of a token is cut off as one piece
token-piece : (t : KoreToken) (r : List ℕ) → IsTextual t → IsApart t r
    → piece (token_text t ++ r) ≡ whole (kind_of t) (length (token_text t))
token-piece (identifier n) r h a = name-piece n r h a
token-piece (set_identifier n) r h a = set-piece n r h a
token-piece (builtin (Some b)) r h a =
    builtin-piece (built_name b) r (name-is (built_name b) (built-is-name b)) a
token-piece (builtin None) r h a = absurd a
token-piece (string_token t) r h a = text-piece t r h
token-piece (mark c) r h a = mark-piece c r h a
token-piece assign r h a = assign-piece r

-- the text of a token is read as that token
token-back : (t : KoreToken) (r : List ℕ) → IsTextual t → IsApart t r
    → token_of (kind_of t) (token_text t) ≡ t
token-back (identifier n) r h a = refl
token-back (set_identifier n) r h a = refl
token-back (builtin (Some b)) r h a = ap builtin (built-back b)
token-back (builtin None) r h a = absurd a
token-back (string_token t) r h a = ap string_token (text-value t h)
token-back (mark c) r h a = refl
token-back assign r h a = refl

pub named-token : (whole : List ℕ) (k : TokenKind) (from to : ℕ) (s : Cut) → k ≢ kind.End
    → named_stream whole (cut_token k from to s)
    ≡ token (token_of k (take (to - from) (drop from whole))) from (named_stream whole s)
named-token whole kind.End from to s h = absurd (h refl)
named-token whole kind.Ident from to s h = refl
named-token whole kind.SetIdent from to s h = refl
named-token whole kind.Builtin from to s h = refl
named-token whole kind.Text from to s h = refl
named-token whole (kind.Punct c) from to s h = refl
named-token whole kind.Assign from to s h = refl

kind-no-end : (t : KoreToken) → kind_of t ≢ kind.End
kind-no-end (identifier n) = λ e. cc
kind-no-end (set_identifier n) = λ e. cc
kind-no-end (builtin b) = λ e. cc
kind-no-end (string_token t) = λ e. cc
kind-no-end (mark c) = λ e. cc
kind-no-end assign = λ e. cc

-- if the text of a token is at a place of a text, that token is there, followed by the rest
pub token-cut : (t : KoreToken) (r whole : List ℕ) (at : ℕ) → IsTextual t → IsApart t r
    → drop at whole ≡ token_text t ++ r
    → named_stream whole (lexed at (token_text t ++ r))
    ≡ token t at (named_stream whole (lexed (at + length (token_text t)) r))
token-cut t r whole at h a d =
    let w : List ℕ = token_text t in
    let n : ℕ = length w in
    let l : lexed at (w ++ r) ≡ cut_token (kind_of t) at (at + n) (lexed (at + n) r) =
    lexed-whole (kind_of t) n at (w ++ r) (token-piece t r h a)
    ∙ ap (λ (bs : List ℕ). cut_token (kind_of t) at (at + n) (lexed (at + n) bs))
    (drop-append_seam w r) in
    let m : at + n - at ≡ n = omega arith in
    let b : take (at + n - at) (drop at whole) ≡ w =
    ap (λ (i : ℕ). take i (drop at whole)) m ∙ ap (take n) d ∙ take-append_seam w r in
    ap (named_stream whole) l
    ∙ named-token whole (kind_of t) at (at + n) (lexed (at + n) r) (kind-no-end t)
    ∙ ap (λ (u : KoreToken). token u at (named_stream whole (lexed (at + n) r)))
    (ap (token_of (kind_of t)) b ∙ token-back t r h a)

-- the rest is after the token
pub behind-token : (t : KoreToken) (r whole : List ℕ) (at : ℕ) → drop at whole ≡ token_text t ++ r
    → drop (at + length (token_text t)) whole ≡ r
behind-token t r whole at d =
    sym (drop-drop (length (token_text t)) at whole) ∙ ap (drop (length (token_text t))) d
    ∙ drop-append_seam (token_text t) r
