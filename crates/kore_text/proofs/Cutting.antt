-- The first of the tokens into which a text was cut.
use Rattle.std.proofs.Common.{◌≡◌, ◌≢◌, ℕ, ◌-◌, List, take, drop, Result, Ok, Err, refl, ap, sym}
use Rattle.std.proofs.Common.{◌∙◌}
use Rattle.kore_lex.specs.declared.lexer.TokenKind.{TokenKind}
use Rattle.kore_lex.specs.declared.lexer.TokenKind.TheVariants as kind
use Rattle.kore_lex.specs.declared.lexer.Token.{Token as LexToken}
use Rattle.kore_lex.specs.declared.lexer.LexFault.{LexFault}
use Rattle.kore_lex.specs.Lexed.{Cut, cut_end, cut_fault, cut_token}
use Rattle.kore_lex.specs.Unread.{head, tail, Unread, left as cut_left}
use Rattle.kore_text.specs.TokenStream.{Stream, end, no_token_at, token, token_of, token_then}
use Rattle.kore_text.specs.TokenStream.{named_tokens}
use Rattle.kore_text.specs.Remaining.{left}

joined-end : (text : List ℕ) (k : TokenKind) (from to : ℕ) (s : Stream) → k ≡ kind.End
    → token_then text k from to s ≡ end from
joined-end text kind.End from to s h = refl
joined-end text kind.Ident from to s h = let z : ⊥ = cc in absurd z
joined-end text kind.SetIdent from to s h = let z : ⊥ = cc in absurd z
joined-end text kind.Builtin from to s h = let z : ⊥ = cc in absurd z
joined-end text kind.Text from to s h = let z : ⊥ = cc in absurd z
joined-end text (kind.Punct c) from to s h = let z : ⊥ = cc in absurd z
joined-end text kind.Assign from to s h = let z : ⊥ = cc in absurd z

joined-token : (text : List ℕ) (k : TokenKind) (from to : ℕ) (s : Stream) → k ≢ kind.End
    → token_then text k from to s ≡ token (token_of k (take (to - from) (drop from text))) from s
joined-token text kind.End from to s h = absurd (h refl)
joined-token text kind.Ident from to s h = refl
joined-token text kind.SetIdent from to s h = refl
joined-token text kind.Builtin from to s h = refl
joined-token text kind.Text from to s h = refl
joined-token text (kind.Punct c) from to s h = refl
joined-token text kind.Assign from to s h = refl

same-token : (a b : LexToken) → ◌≡◌ {A = Result LexToken LexFault} (Ok a) (Ok b) → a ≡ b
same-token a b h = cc

pub next-end : (text : List ℕ) (s : Cut) (a : LexToken) → Ok a ≡ head s → a.kind ≡ kind.End
    → named_tokens text s ≡ end a.from
next-end text (cut_end n) a h k =
    let e : a ≡ record { kind = kind.End; from = n; to = n } = same-token a _ h in
    ap (λ b. end b.from) (sym e)
next-end text (cut_fault n) a h k = let z : ⊥ = cc in absurd z
next-end text (cut_token t from to s) a h k =
    let e : a ≡ record { kind = t; from = from; to = to } = same-token a _ h in
    joined-end text t from to (named_tokens text s) (sym (ap (λ b. b.kind) e) ∙ k)
    ∙ ap (λ b. end b.from) (sym e)

pub next-fault : (text : List ℕ) (s : Cut) (f : LexFault) → Err f ≡ head s
    → named_tokens text s ≡ no_token_at f.at
next-fault text (cut_end n) f h = let z : ⊥ = cc in absurd z
next-fault text (cut_fault n) f h =
    let e : f ≡ record { at = n } = cc in ap (λ g. no_token_at g.at) (sym e)
next-fault text (cut_token t from to s) f h = let z : ⊥ = cc in absurd z

pub next-token : (text : List ℕ) (s : Cut) (a : LexToken) → Ok a ≡ head s → a.kind ≢ kind.End
    → named_tokens text s
    ≡ token (token_of a.kind (take (a.to - a.from) (drop a.from text))) a.from
    (named_tokens text (tail s))
next-token text (cut_end n) a h k =
    let e : a ≡ record { kind = kind.End; from = n; to = n } = same-token a _ h in
    absurd (k (ap (λ b. b.kind) e))
next-token text (cut_fault n) a h k = let z : ⊥ = cc in absurd z
next-token text (cut_token t from to s) a h k =
    let e : a ≡ record { kind = t; from = from; to = to } = same-token a _ h in
    let i : t ≢ kind.End = λ j. k (ap (λ b. b.kind) e ∙ j) in
    joined-token text t from to (named_tokens text s) i
    ∙ ap (λ b.
    token (token_of b.kind (take (b.to - b.from) (drop b.from text))) b.from (named_tokens text s))
    (sym e)

-- what is left of the text of a lexer, and what is left after its first token

pub left-token : (u v : Unread) (text : List ℕ) (a : LexToken) → Ok a ≡ head (cut_left u)
    → a.kind ≢ kind.End → cut_left v ≡ tail (cut_left u) → v.text ≡ u.text → u.text ≡ text
    → left u ≡ token (token_of a.kind (take (a.to - a.from) (drop a.from text))) a.from (left v)
unfolding left
left-token u v text a h k rest same whole =
    let bytes : List ℕ → List ℕ = λ t. take (a.to - a.from) (drop a.from t) in
    let r : named_tokens u.text (tail (cut_left u)) ≡ named_tokens v.text (cut_left v) =
    ap (λ (s : Cut). named_tokens u.text s) (sym rest)
    ∙ ap (λ (t : List ℕ). named_tokens t (cut_left v)) (sym same) in
    next-token u.text (cut_left u) a h k
    ∙ ap (λ (s : Stream). token (token_of a.kind (bytes u.text)) a.from s) r
    ∙ ap (λ (t : List ℕ). token (token_of a.kind (bytes t)) a.from
    (named_tokens v.text (cut_left v)))
    whole
