-- Parts of a text on a stack.
use Rattle.std.proofs.Common.{◌≡◌, ℕ, ◌+◌, ◌*◌, ◌<◌, ◌≤◌, List, [], ◌∷◌, ◌++◌, length, refl, ap}
use Rattle.std.proofs.Common.{◌∙◌, sym, append-nil, append_assoc, length-append, arith, Bor}
use Rattle.std.proofs.lemmas.Grind.{flat_map-append}
use Rattle.mm_text.specs.Bytes.{Token}
use Rattle.mm_text.specs.Written.{white_after, written}
use Rattle.ml_pat.specs.Patterns.{Pattern}
use Rattle.mm_proof.specs.Tokens.{pattern_tokens}
use Rattle.mm_proof.specs.Writing.{word_token, part_tokens, text_tokens}
use Rattle.mm_proof.specs.TextStacks.{stack_tokens, part_weight, parts_weight, PutsText, PutsParts}
use Rattle.mm_proof.specs.TextStacks.{IsWritten}
use Rattle.mm_proof.specs.declared.words.Word.{Word}
use Rattle.mm_proof.specs.declared.texts.TextPart.{TextPart}
use Rattle.mm_proof.specs.declared.texts.TextPart.TheVariants as part

pub written-append : (xs ys : List Token) → written (xs ++ ys) ≡ written xs ++ written ys
written-append xs ys = flat_map-append (λ t. t ++ white_after t ∷ []) xs ys

stack_tokens-push : (names : List Token) (k : ℕ) (ws : List TextPart) (w : TextPart)
    → stack_tokens names k (ws ++ w ∷ []) ≡ part_tokens names k w ++ stack_tokens names k ws
stack_tokens-push names k [] w = sym (append-nil (part_tokens names k w))
stack_tokens-push names k (v ∷ ws) w =
    ap (λ ts. ts ++ part_tokens names k v) (stack_tokens-push names k ws w)
    ∙ append_assoc (part_tokens names k w) (stack_tokens names k ws) (part_tokens names k v)

parts_weight-push : (names : List Token) (k : ℕ) (ws : List TextPart) (w : TextPart)
    → parts_weight names k (ws ++ w ∷ []) ≡ parts_weight names k ws + part_weight names k w
parts_weight-push names k [] w = omega arith
parts_weight-push names k (v ∷ ws) w = omega (arith, parts_weight-push names k ws w)

weight-le : (names : List Token) (k : ℕ) (w : TextPart)
    → part_weight names k w ≤ 2 * length (part_tokens names k w)
weight-le names k (part.One w) = omega arith
weight-le names k (part.Pattern p) = omega arith

-- one word
pub put_one : (w : Word) (old new : List TextPart) → new ≡ old ++ part.One w ∷ []
    → PutsText (λ names k. word_token names k w ∷ []) old new
put_one w old new is = record {
  writes = λ names k.
      ap (stack_tokens names k) is ∙ stack_tokens-push names k old (part.One w);
  weight = λ names k.
      let e : parts_weight names k new ≡ parts_weight names k old + 1 =
      ap (parts_weight names k) is ∙ parts_weight-push names k old (part.One w) in
      omega (arith, e);
}

-- nothing, and one more part before others

pub put_none : (old : List TextPart) → PutsParts (λ names k. text_tokens names k []) old old
put_none old = record { writes = λ names k. refl; weight = λ names k. omega arith }

pub put_more : (w : TextPart) (put old mid new : List TextPart)
    → PutsParts (λ names k. text_tokens names k put) old mid → new ≡ mid ++ w ∷ []
    → PutsParts (λ names k. text_tokens names k (w ∷ put)) old new
put_more w put old mid new h is = record {
  writes = λ names k.
      ap (stack_tokens names k) is ∙ stack_tokens-push names k mid w
      ∙ ap (λ ts. part_tokens names k w ++ ts) (h.writes names k)
      ∙ sym (append_assoc (part_tokens names k w) (text_tokens names k put)
      (stack_tokens names k old));
  weight = λ names k.
      let e : parts_weight names k new ≡ parts_weight names k mid + part_weight names k w =
      ap (parts_weight names k) is ∙ parts_weight-push names k mid w in
      let n : length (text_tokens names k (w ∷ put))
      ≡ length (part_tokens names k w) + length (text_tokens names k put) =
      length-append (part_tokens names k w) (text_tokens names k put) in
      omega (arith, e, n, weight-le names k w, h.weight names k);
}

-- parts before others, at least one of which is a word
pub put_front : (f g h : List Token → ℕ → List Token) (old mid new : List TextPart)
    → PutsText f old mid → PutsParts g mid new
    → ((names : List Token) (k : ℕ) → h names k ≡ g names k ++ f names k) → PutsText h old new
put_front f g h old mid new first rest same = record {
  writes = λ names k.
      rest.writes names k ∙ ap (λ ts. g names k ++ ts) (first.writes names k)
      ∙ sym (append_assoc (g names k) (f names k) (stack_tokens names k old))
      ∙ ap (λ ts. ts ++ stack_tokens names k old) (sym (same names k));
  weight = λ names k.
      let n : length (h names k) ≡ length (g names k) + length (f names k) =
      ap length (same names k) ∙ length-append (g names k) (f names k) in
      omega (arith, n, first.weight names k, rest.weight names k);
}

-- one step

pub written_word : (names : List Token) (k : ℕ) (w : Word) (stack : List TextPart)
    (text text' : List ℕ) → text' ≡ text ++ written (word_token names k w ∷ [])
    → IsWritten names k (part.One w) stack stack text text'
written_word names k w stack text text' is = record {
  writes =
      ap (λ (t : List ℕ). t ++ written (stack_tokens names k stack)) is
      ∙ append_assoc text (written (word_token names k w ∷ []))
      (written (stack_tokens names k stack))
      ∙ ap (λ (t : List ℕ). text ++ t)
      (sym (written-append (word_token names k w ∷ []) (stack_tokens names k stack)));
  weight = omega arith;
}

pub written_pattern : (names : List Token) (k : ℕ) (p : Bor Pattern) (stack new : List TextPart)
    (text : List ℕ) → PutsText (λ names k. pattern_tokens names p.now) stack new
    → IsWritten names k (part.Pattern p) stack new text text
written_pattern names k p stack new text w = record {
  writes = ap (λ (ts : List Token). text ++ written ts) (w.writes names k);
  weight = w.weight names k;
}

pub written_next : (names : List Token) (k : ℕ) (w : TextPart) (before stack new : List TextPart)
    (text text' all : List ℕ) → before ≡ stack ++ w ∷ []
    → IsWritten names k w stack new text text'
    → text ++ written (stack_tokens names k before) ≡ all
    → text' ++ written (stack_tokens names k new) ≡ all
written_next names k w before stack new text text' all is taken invariant =
    taken.writes
    ∙ ap (λ (ts : List Token). text ++ written ts)
    (sym (ap (stack_tokens names k) is ∙ stack_tokens-push names k stack w)) ∙ invariant

pub written_smaller : (names : List Token) (k : ℕ) (w : TextPart)
    (before stack new : List TextPart) (text text' : List ℕ) → before ≡ stack ++ w ∷ []
    → IsWritten names k w stack new text text'
    → parts_weight names k new < parts_weight names k before
written_smaller names k w before stack new text text' is taken =
    let e : parts_weight names k before
    ≡ parts_weight names k stack + part_weight names k w =
    ap (parts_weight names k) is ∙ parts_weight-push names k stack w in
    omega (arith, e, taken.weight)
