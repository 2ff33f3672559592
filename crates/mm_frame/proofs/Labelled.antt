-- Labels in a table, one more at a time.
use Rattle.std.proofs.Common.{◌≡◌, ℕ, ◌+◌, ◌<◌, length, take, Bool, true, false, List, [], ◌∷◌}
use Rattle.std.proofs.Common.{◌++◌, get_or, map, refl, ap, sym, ◌∙◌, cond}
use Rattle.std.specs.Prelude.{◌||◌, Option, Some, is_some, bytes_eq}
use Rattle.std.proofs.lemmas.List.{take_more, map-append}
use Rattle.mm_text.specs.Bytes.{Token, has_token}
use Rattle.mm_database.specs.Frames.{label_of}
use Rattle.mm_frame.specs.PlainFrames.{plain_hypothesis, plain_hypotheses}
use Rattle.mm_frame.specs.Labels.{label_in}
use Rattle.mm_frame.specs.declared.frames.Hyp.{Hyp}
use Rattle.mm_frame.specs.declared.frames.Hyp.TheVariants.{Floating, Essential}

pub is_some-cond : {V : Type 0} (b : Bool) (v : V) (o : Option V)
    → is_some (cond b (Some v) o) ≡ (b || is_some o)
is_some-cond true v o = refl
is_some-cond false v o = refl

pub or-swap : (a b c : Bool) → (a || (b || c)) ≡ (b || (a || c))
or-swap true true c = refl
or-swap true false c = refl
or-swap false b c = refl

-- labels with one more at the end
pub has_token-push : (ws : List Token) (w q : Token)
    → has_token (ws ++ w ∷ []) q ≡ (bytes_eq w q || has_token ws q)
has_token-push [] w q = refl
has_token-push (v ∷ ws) w q = ap (λ (b : Bool). bytes_eq v q || b) (has_token-push ws w q)
    ∙ or-swap (bytes_eq v q) (bytes_eq w q) (has_token ws q)

pub label-more : {X V : Type 0} (key : X → Token) (xs : List X) (i : ℕ) (x : X) (w q : Token)
    (old new : Option V) (v : V) → i < length xs → x ≡ get_or xs i x → w ≡ key x
    → new ≡ cond (bytes_eq w q) (Some v) old → is_some old ≡ has_token (map key (take i xs)) q
    → is_some new ≡ has_token (map key (take (i + 1) xs)) q
label-more key xs i x w q old new v lt is at grown had =
    ap is_some grown ∙ is_some-cond (bytes_eq w q) v old ∙ ap (λ b. bytes_eq w q || b) had
    ∙ sym (has_token-push (map key (take i xs)) w q)
    ∙ ap (λ u. has_token (map key (take i xs) ++ u ∷ []) q) (at ∙ ap key is)
    ∙ ap (λ (us : List Token). has_token us q)
    (sym (ap (map key) (take_more xs i x lt) ∙ map-append key (take i xs) (get_or xs i x ∷ [])))

-- the label of a hypothesis of the code is that of the plain hypothesis
pub label-scope_state : (h : Hyp) → label_of (plain_hypothesis h) ≡ label_in h
label-scope_state (Floating label typecode variable) = refl
label-scope_state (Essential label statement) = refl

pub labels-scope_state : (hs : List Hyp) → map label_in hs ≡ map label_of (plain_hypotheses hs)
labels-scope_state [] = refl
labels-scope_state (h ∷ hs) =
    ap (λ (t : Token). t ∷ map label_in hs) (sym (label-scope_state h))
    ∙ ap (λ (ts : List Token). label_of (plain_hypothesis h) ∷ ts) (labels-scope_state hs)
